-- What the statements of the crate sequence say along a run: that no step stores in a cell is a computed test, and the values that a cell was
-- given are those of one step after the other. These laws are here, above that crate, so that its definitions can't change unseen.
-- Assumes nothing.
use mathlib.Core.Path.{◌≡◌, refl, ap}
use mathlib.Core.Bool.{Bool, false, ◌&&◌, ◌||◌, cond}
use mathlib.Core.List.{List, [], ◌∷◌, ◌++◌}
use Rattle.logic.proofs.Choice.{by_cases, neither}
use Rattle.sequence.specs.Model.{Model, accepts, stores_in}
use Rattle.sequence.specs.Machine.{Machine, run, given, NoneStores}

module _ (B : Model) (M : Machine B) where
  -- whether a step of a sequence stores in the cell
  unfoldable pub some_stores : M.State → List B.Step → B.Cell → Bool
  some_stores s [] c = false
  some_stores s (x ∷ xs) c = stores_in B (M.cells s) x c || some_stores (M.step s x) xs c

  pub none-stores : (s : M.State) (xs : List B.Step) (c : B.Cell) → some_stores s xs c ≡ false → NoneStores B M s xs c
  unfolding some_stores run
  none-stores s [] c e [] x rest is = cc
  none-stores s [] c e (y ∷ before) x rest is = cc
  none-stores s (y ∷ ys) c e [] x rest is =
      let first : y ≡ x = cc in
      rw first at (neither (stores_in B (M.cells s) y c) (some_stores (M.step s y) ys c) e).0
  none-stores s (y ∷ ys) c e (z ∷ before) x rest is =
      let first : y ≡ z = cc in
      let others : ys ≡ before ++ x ∷ rest = cc in
      rw first at (none-stores (M.step s y) ys c (neither (stores_in B (M.cells s) y c) (some_stores (M.step s y) ys c) e).1 before x rest others)

  -- one step gives a cell its value if it is accepted and stores there, ...
  pub given-one : (s : M.State) (x : B.Step) (c : B.Cell)
      → given B M s (x ∷ []) c ≡ cond (accepts B (M.cells s) x && stores_in B (M.cells s) x c) (B.gives (M.cells s) x c ∷ []) []
  unfolding given
  given-one s x c = refl

  -- ... and a sequence gives it the values of its first part, then those of the rest
  pub given-append : (s : M.State) (xs ys : List B.Step) (c : B.Cell)
      → given B M s (xs ++ ys) c ≡ given B M s xs c ++ given B M (run B M s xs) ys c
  unfolding given run
  given-append s [] ys c = refl
  given-append s (x ∷ xs) ys c =
      by_cases (accepts B (M.cells s) x && stores_in B (M.cells s) x c)
      (λ e. rw e (ap (λ (l : List B.Value). B.gives (M.cells s) x c ∷ l) (given-append (M.step s x) xs ys c)))
      (λ e. rw e (given-append (M.step s x) xs ys c))
