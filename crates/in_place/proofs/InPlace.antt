-- What the walks of the entries that have a struct by reference share. What is known of the struct is one record, `Held`, and its value is called the state. Such an entry copies the state from behind the reference and calls a function by
-- value, its core, with the copy and the other parameters; where the reference is a `&mut`, it stores the state of the core's result there. The other parameters and the tokens of their lifetimes go to the core as they came, and what the core says of last values and of its result is what the entry says: so nothing here looks into any of that, and of a core only its contract is known.
-- A walk's context has what it holds of the references first, and the function's locals after that, in their order.
-- Assumes nothing.
use mathlib.Core.Path.{◌≡◌, refl, ap, subst, sym}
use Prim.Native.Nat.{ℕ, zero, suc, ◌+◌}
use mathlib.Core.List.{List, [], ◌∷◌, ◌++◌}
use mathlib.Core.Option.{some as just}
use lib.Dec.{T}
use lib.ListN.{length}
use seplogic.Ra.Ura.{Ura}
use base.Fraction.{full_share}
use mir.Syntax.{Sym, Lifetime, named, erased, mut, w8, Ty, ty_int, ty_ref, ty_struct, Tys, tcons, tnil, Callee, Place, place, Step as PStep, deref, field, Local, local, Fn}
use mir.Syntax.{Opd as Operand, copy, Rv as RValue, rv_opd, addr_of, aggregate, Body, seq, assign, call, return}
use mir.Fields.{get_v, set_v}
use mir.Val.{Val, Vals, vptr, vstruct, vcons, vnil, WT, has_ty}
use base.Logic.{SProp, ent, sep, emp, via, comm∗, assoc∗, mono_r, emp∗, wand_i, all_i, id⊢}
use base.Fml.{Lft, Share, Fml, ftrue, fsep, flft, fobs, fauth, fbor, fobor, fat, froom, fdies}
use prog.Memory.{field_at}
use prog.Model.{Model}
use prog.Routine.{Routine, Env as Names}
use prog.Wp.{Heap, Env, Spot, spot_of, Calls, Loops, WpFn, Closed}
use types.Logic.{Logic, sem}
use contract.Lifetimes.{Lfts}
use contract.Running.{Running, tables, tables_of}
use types.Kit.{Item, ‵, raw, ◌⊛◌, ⋆, some, later, nth, put, push, ++⊢, ⊢++, Post, at_ret, Goal, Soaks, prop, runs, lands, allocs, params', frees, aim, Seq, Sq, Step, step, ◌$◌, ◌∵◌, !, qed, by}
use types.Kit.{move, keep, drop, use1, split, join, pick, regoal, fsplit, fsplit3, fjoin, fjoin3, feq_i, frame, await, done}
use types.Run.{Reads, Opd, Opds, Rv, Walks as Places, Finds, look, look_raw, init, store_raw, forget, stop, hop, fld, from, load, addr, of_opd, and_then, no_more, assigns, land, enter, returns, free1}
use types.Part.{Part, agg, whole, sub, look_in}
use types.SemTy.{Body as Borrowed}
use sound.WpLaws.{FmC, fm_of, WpFn-mono}
use denote.RattleType.{RattleType, Denots}
use denote.Laws.{Is, Typed, shows}
use denote.Shadow.{makes_shadow}
use denote.Memory.{mem, cell_at}
use denote.Builtin.{u8}
use denote.Ref.{Bor, MutBor, MutRef, as_bor, at_last, mut_at, mut_vals}
use denote.Slice.{slice_ty, slice_val, Room}
use denote.Exit.{yes, left}
use denote.Signature.{Slot, plain, mut_ref_to, type_at}
use denote.Steps.{only, opens, closes, owned, peeks, nothing}
use denote.Struct.Steps.{spelt}
use denote.Struct.Field.{Field, rows, u8-field}
use denote.Struct.Struct.{to_tys, layout, Plains}
use denote.Struct.Values.{Values, intos, intos_one}
use denote.Struct.Record.{Done as Nothing, Done-prop as Nothing-prop}
use denote.Struct.Declared.{Declared, fields, shape, row, field as as-field}
use denote.Struct.Laws as LL
use denote.Triple.Entry.{Args, Res, alive}
use denote.Triple.End.{Kepts}
use denote.Triple.Spec.{triple_of}
use denote.Triple.Statement.{Contract, Triple}
use denote.Triple.Call.{calls_at}
use denote.Triple.Clauses.{Ended, Clauses, Lasts, at_exit, lasts, closing}
use denote.Triple.Table.{entered, cited}
use denote.Triple.Walked.{Stays, stay_ref, AllGo, Goes-ref, Walks, walk_Meets}
use Rattle.refusal.specs.contracts.Outcome as O
use Rattle.refusal.proofs.Outcome.TheLaws as O'

-- ---- what is known of the struct behind the reference: its declared type, its fields' laws, and that they own only facts
pub record Held : Type 2 where
  pub type : Declared
  pub laws : LL.Laws type
  pub plain : Plains (fields type)

module _ (S : Held) where
  -- its values, its row, and the one machine type that the row has
  abbrev pub State : Type 0
  State = S.type.D

  abbrev pub the_row : RattleType
  the_row = row S.type

  abbrev pub the_mir : Ty
  the_mir = layout (shape S.type)

  -- the machine value of a state, and what whoever holds one knows of it
  abbrev pub mach : State → Val
  mach s = LL.val S.type S.laws s

  abbrev pub IsState : State → Type 0
  IsState s = Is the_row s (mach s ∷ [])

  pub state_typed : {M : Type 1} {𝓤 : Ura M} (𝓛 : Logic 𝓤) (s : State) → IsState s → T (has_ty the_mir (mach s)) × WT (mach s)
  state_typed 𝓛 s is = ((LL.lawful S.type S.laws 𝓛).typed s (mach s ∷ []) is).0

  -- the struct as a field of another
  abbrev pub the_field : Field
  the_field = as-field S.type

  abbrev the_field_laws : LL.FLaws the_field
  the_field_laws = LL.field_laws S.type S.laws (record { mir = the_mir; lowered = mach; layout_is = refl; val_is = LL.tells S.type S.laws })

-- ---- what is had of the parameters at exit: of one that went to the core, what the core says of its last value; of the state behind a `&mut`, all
abbrev pub passed_on : {n : ℕ} (ss : List (Slot n)) (ks : Kepts ss) → Stays ss ks
passed_on [] ks = tt
passed_on (s ∷ ss) ks = (record { fit = λ κs x f. Unit {0}; has = λ κs x f vs. left ((s.row κs).exit ks.0) x f }, passed_on ss ks.1)

module _ (S : Held) where
  abbrev pub state_slot : (n : ℕ) → Slot (suc n)
  state_slot n = mut_ref_to (0 ∷ []) tt (plain (λ _. the_row S))

  abbrev pub updated : {n : ℕ} (ss : List (Slot (suc n))) (ks : Kepts ss) → Stays (state_slot n ∷ ss) (yes, ks)
  updated ss ks = (stay_ref (0 ∷ []) tt (plain (λ _. the_row S)), passed_on ss ks)

module _ {M : Type 1} {𝓤 : Ura M} (𝓛 : Logic 𝓤) where
  pub passed-on_goes : (n : ℕ) (ss : List (Slot n)) (ks : Kepts ss) → AllGo 𝓛 n ss ks (passed_on ss ks)
  passed-on_goes n [] ks = tt
  passed-on_goes n (s ∷ ss) ks = ((λ κs x f vs ok. 𝓛.laws.⇛_intro _), passed-on_goes n ss ks.1)

module _ (S : Held) {M : Type 1} {𝓤 : Ura M} (𝓛 : Logic 𝓤) where
  pub updated_goes : (n : ℕ) (ss : List (Slot (suc n))) (ks : Kepts ss) → AllGo 𝓛 (suc n) (state_slot S n ∷ ss) (yes, ks) (updated S ss ks)
  updated_goes n ss ks = (Goes-ref 𝓛 (suc n) 0 tt (plain (λ _. the_row S)), passed-on_goes 𝓛 (suc n) ss ks)

-- ---- from a walk to the statement
module _ {M : Type 1} {𝓤 : Ura M} (𝓛 : Logic 𝓤) (T : Ended) (c : Clauses 𝓤 T) where
  abbrev pub contract_of : Contract 𝓤
  contract_of = triple_of 𝓛 T.signature (closing 𝓛 T c)

-- what is said at the end of a run with the result r and the last values ws
abbrev pub says : {M : Type 1} (𝓤 : Ura M) (T : Ended) (c : Clauses 𝓤 T) (κs : Lfts T.signature.lifetimes) (a : Args T.signature κs) → (c κs a).ghost → Res T.signature κs → Lasts T κs a → SProp 𝓤
says 𝓤 T c κs a g r ws = (c κs a).ensures g r (at_exit T κs a ws)

-- an entry of which the walk holds, given that its core meets its own contract, meets its contract
pub entry_meets : {M : Type 1} {𝓤 : Ura M} (𝓛 : Logic 𝓤) (𝓜 : Model 𝓤 𝓛.H) (𝓡 : Running 𝓤 𝓛.H 𝓜) (T : Ended) (c : Clauses 𝓤 T) (hs : Stays T.signature.params T.kept)
    → AllGo 𝓛 T.signature.lifetimes T.signature.params T.kept hs
    → (names : Names) (entry : Callee) (f : Fn) → Closed 𝓤 𝓛.H (tables 𝓤 𝓛.H 𝓜 𝓡 names).C (tables 𝓤 𝓛.H 𝓜 𝓡 names).Λ entry f
    → (core : Contract 𝓤) (callee : Callee) (r : Routine) → names callee ≡ r → Triple 𝓤 (𝓡.run r) core
    → ((C : Calls 𝓤 𝓛.H) (Λ : Loops 𝓤 𝓛.H) → FmC 𝓤 𝓛.H 𝓛.laws C → Triple 𝓤 (C callee) core → Walks 𝓛 T hs (WpFn 𝓤 𝓛.H C Λ f) c)
    → Triple 𝓤 (𝓡.run (names entry)) (contract_of 𝓛 T c)
unfolding tables_of
entry_meets {𝓤 = 𝓤} 𝓛 𝓜 𝓡 T c hs gs names entry f closed core callee r is met walks =
    let C : Calls 𝓤 𝓛.H = (tables 𝓤 𝓛.H 𝓜 𝓡 names).C in
    let Λ : Loops 𝓤 𝓛.H = (tables 𝓤 𝓛.H 𝓜 𝓡 names).Λ in
    entered 𝓤 𝓛.H (contract_of 𝓛 T c) C Λ entry f closed
    (walk_Meets 𝓛 T hs gs c (WpFn 𝓤 𝓛.H C Λ f) (WpFn-mono 𝓤 𝓛.H 𝓛.laws (tables_of 𝓤 𝓛.H 𝓜 (tables 𝓤 𝓛.H 𝓜 𝓡 names)) f)
    (walks C Λ (fm_of 𝓤 𝓛.H 𝓛.laws (tables_of 𝓤 𝓛.H 𝓜 (tables 𝓤 𝓛.H 𝓜 𝓡 names))) (cited 𝓤 𝓛.H core 𝓜 𝓡 names callee r is met)))

-- ---- the locals. They stand at the end of the context in their order, each as its cell and what frees it
abbrev pub Blocks : List Local → Type 0
Blocks [] = Unit {0}
Blocks (l ∷ ls) = ℕ × Blocks ls

abbrev pub places : {M : Type 1} (𝓤 : Ura M) (H : Heap 𝓤) (ls : List Local) → Blocks ls → Env 𝓤 H
places 𝓤 H [] bs = []
places 𝓤 H (local τ h ∷ ls) bs = (τ, bs.0) ∷ places 𝓤 H ls bs.1

abbrev pub rooms : {M : Type 1} (𝓤 : Ura M) (ls : List Local) → Blocks ls → List (Item 𝓤)
rooms 𝓤 [] bs = []
rooms 𝓤 (local τ h ∷ ls) bs = ‵ (froom τ bs.0 zero) ∷ ‵ (fdies τ bs.0) ∷ rooms 𝓤 ls bs.1

-- local i stands there behind k other items
abbrev pub behind : ℕ → ℕ → ℕ
behind zero zero = zero
behind zero (suc i) = suc (suc (behind zero i))
behind (suc k) i = suc (behind k i)

-- and is of type τ at block l, and is empty or holds v
module _ {M : Type 1} {𝓤 : Ura M} (𝓛 : Logic 𝓤) (k : ℕ) (Γ : List (Item 𝓤)) (E : Env 𝓤 𝓛.H) (i : ℕ) (τ : Ty) (l : ℕ) where
  open 𝓛 use {H}

  abbrev pub Empty : Type 2
  Empty = ◌≡◌ {A = Spot 𝓤 H × Item 𝓤} (spot_of 𝓤 H E i, nth 𝓛 (behind k i) Γ) ((τ, l, zero), ‵ (froom τ l zero))

  abbrev pub Holds : Val → Type 2
  Holds v = ◌≡◌ {A = Spot 𝓤 H × Item 𝓤} (spot_of 𝓤 H E i, nth 𝓛 (behind k i) Γ) ((τ, l, zero), ‵ (fat full_share τ l zero v))

module _ {M : Type 1} (𝓤 : Ura M) (H : Heap 𝓤) {z z' : Spot 𝓤 H × Item 𝓤} where
  spot_is : z ≡ z' → z.0 ≡ z'.0
  spot_is e = ap (λ (y : Spot 𝓤 H × Item 𝓤). y.0) e

  cell_of : z ≡ z' → z.1 ≡ z'.1
  cell_of e = ap (λ (y : Spot 𝓤 H × Item 𝓤). y.1) e

module _ {M : Type 1} {𝓤 : Ura M} where
  abbrev before : ℕ → List (Item 𝓤) → List (Item 𝓤)
  before n [] = []
  before zero (i ∷ Γ) = []
  before (suc n) (i ∷ Γ) = i ∷ before n Γ

  abbrev after : ℕ → List (Item 𝓤) → List (Item 𝓤)
  after n [] = []
  after zero (i ∷ Γ) = i ∷ Γ
  after (suc n) (i ∷ Γ) = after n Γ

  before-after : (n : ℕ) (Γ : List (Item 𝓤)) → before n Γ ++ after n Γ ≡ Γ
  before-after n [] = refl
  before-after zero (i ∷ Γ) = refl
  before-after (suc n) (i ∷ Γ) = ap (λ (Δ : List (Item 𝓤)). i ∷ Δ) (before-after n Γ)

module _ {M : Type 1} {𝓤 : Ura M} (𝓛 : Logic 𝓤) where
  open 𝓛 use {H}

  with_local : (P : SProp 𝓤) (τ : Ty) (b : ℕ) (Δ : List (Item 𝓤))
      → ent 𝓤 (sep 𝓤 (sep 𝓤 P (sep 𝓤 (H.room τ b zero) (H.dies τ b))) (⋆ 𝓛 Δ)) (sep 𝓤 P (⋆ 𝓛 (‵ (froom τ b zero) ∷ ‵ (fdies τ b) ∷ Δ)))
  with_local P τ b Δ =
      via 𝓤 (sep 𝓤 P (sep 𝓤 (sep 𝓤 (H.room τ b zero) (H.dies τ b)) (⋆ 𝓛 Δ))) (assoc∗ 𝓤 P (sep 𝓤 (H.room τ b zero) (H.dies τ b)) (⋆ 𝓛 Δ))
      (mono_r 𝓤 P (via 𝓤 (sep 𝓤 (H.room τ b zero) (sep 𝓤 (H.dies τ b) (⋆ 𝓛 Δ))) (assoc∗ 𝓤 (H.room τ b zero) (H.dies τ b) (⋆ 𝓛 Δ))
      (mono_r 𝓤 (H.room τ b zero) (push 𝓛 (‵ (fdies τ b)) Δ))))

  allocated : (ls : List Local) (Kt : Env 𝓤 H → Goal 𝓤 H) (P : SProp 𝓤)
      → ((bs : Blocks ls) → ent 𝓤 (sep 𝓤 P (⋆ 𝓛 (rooms 𝓤 ls bs))) (aim 𝓤 H (Kt (places 𝓤 H ls bs)))) → ent 𝓤 P (aim 𝓤 H (allocs ls Kt))
  allocated [] Kt P k = via 𝓤 (sep 𝓤 P (emp 𝓤)) (via 𝓤 (sep 𝓤 (emp 𝓤) P) (emp∗ 𝓤 P) (comm∗ 𝓤 (emp 𝓤) P)) (k tt)
  allocated (local τ h ∷ ls) Kt P k = all_i 𝓤 _ (λ b. wand_i 𝓤 P (sep 𝓤 (H.room τ b zero) (H.dies τ b)) _
      (allocated ls (λ E. Kt ((τ, b) ∷ E)) (sep 𝓤 P (sep 𝓤 (H.room τ b zero) (H.dies τ b))) (λ bs.
      via 𝓤 (sep 𝓤 P (⋆ 𝓛 (rooms 𝓤 (local τ h ∷ ls) (b, bs)))) (with_local P τ b (rooms 𝓤 ls bs)) (k (b, bs)))))

-- the locals are there and the arguments are still to be stored
abbrev pub started : {M : Type 1} {𝓤 : Ura M} {H : Heap 𝓤} → Calls 𝓤 H → Loops 𝓤 H → (f : Fn) → List Val → (Val → SProp 𝓤) → Blocks f.locals → Goal 𝓤 H
started {𝓤 = 𝓤} {H = H} C Λ f vs Kf bs = params' (places 𝓤 H f.locals bs) vs (runs C Λ (places 𝓤 H f.locals bs) f.body (at_ret (places 𝓤 H f.locals bs) Kf))

module _ {M : Type 1} {𝓤 : Ura M} {𝓛 : Logic 𝓤} {K : Type 0} where
  open 𝓛 use {H}

  begins : K → {Γ : List (Item 𝓤)} (C : Calls 𝓤 H) (Λ : Loops 𝓤 H) (f : Fn) (vs : List Val) (Kf : Val → SProp 𝓤)
      → ((bs : Blocks f.locals) → Seq K 𝓛 (Γ ++ rooms 𝓤 f.locals bs) (started C Λ f vs Kf bs))
      → Seq K 𝓛 Γ (prop (WpFn 𝓤 H C Λ f vs Kf))
  begins t {Γ} C Λ f vs Kf k = enter t C Λ f vs Kf $ by t (allocated 𝓛 f.locals (λ E. params' E vs (runs C Λ E f.body (at_ret E Kf))) (⋆ 𝓛 Γ)
      (λ bs. via 𝓤 (⋆ 𝓛 (Γ ++ rooms 𝓤 f.locals bs)) (++⊢ 𝓛 Γ (rooms 𝓤 f.locals bs)) (k bs).prf))

  -- the items Γ go behind the items Δ
  pub swaps : K → (Γ Δ : List (Item 𝓤)) {G : Goal 𝓤 H} → Step K 𝓛 (Δ ++ Γ) G (Γ ++ Δ) G
  swaps t Γ Δ =
      let P : SProp 𝓤 = ⋆ 𝓛 Γ in
      let Q : SProp 𝓤 = ⋆ 𝓛 Δ in
      step (λ s. by t (via 𝓤 (sep 𝓤 P Q) (⊢++ 𝓛 Γ Δ) (via 𝓤 (sep 𝓤 Q P) (comm∗ 𝓤 P Q) (via 𝓤 (⋆ 𝓛 (Δ ++ Γ)) (++⊢ 𝓛 Δ Γ) s.prf))))

  -- the first n items go behind the others
  pub aside : K → (n : ℕ) {Γ : List (Item 𝓤)} {G : Goal 𝓤 H} → Step K 𝓛 (after n Γ ++ before n Γ) G Γ G
  aside t n {Γ} {G} = subst (λ (Δ : List (Item 𝓤)). Step K 𝓛 (after n Γ ++ before n Γ) G Δ G) (before-after n Γ) (swaps t (before n Γ) (after n Γ))

  -- the local at the head is freed, whatever it holds
  pub leaves : K → {Γ : List (Item 𝓤)} {τ : Ty} {b : ℕ} {v : Val} {E : Env 𝓤 H} {g : Goal 𝓤 H} → Step K 𝓛 Γ (frees E g) (‵ (fat full_share τ b zero v) ∷ ‵ (fdies τ b) ∷ Γ) (frees ((τ, b) ∷ E) g)
  leaves t = step (λ s. forget t 0 refl $ free1 t $ s)

  -- field m of a struct in the cell at n
  part-read : K → {Γ : List (Item 𝓤)} {ν : Sym} {τs : Tys} {l : ℕ} {vs : Vals} {τ : Ty} {o : ℕ} (n m : ℕ)
      → nth 𝓛 n Γ ≡ ‵ (fat full_share (ty_struct ν τs) l zero (vstruct vs)) → field_at zero τs m ≡ just (τ, o) → Reads K 𝓛 Γ τ l (zero + o) (get_v vs m)
  part-read t {ν = ν} {τs} {l} {vs} {τ} {o} n m h e =
      look_in t n (subst (λ (j : Item 𝓤). Part K 𝓛 j full_share τ l (zero + o) (get_v vs m) (λ u. ‵ (fat full_share (ty_struct ν τs) l zero (vstruct (set_v vs m u))))) (sym h) (sub t m e (whole t)))

  module _ {Γ : List (Item 𝓤)} {E : Env 𝓤 H} where
    at_spot : K → {i : ℕ} {sp sp' : Spot 𝓤 H} {st : List PStep} → spot_of 𝓤 H E i ≡ sp → Places K 𝓛 Γ E sp st sp' → Finds K 𝓛 Γ E (place i st) sp'
    at_spot t {sp' = sp'} {st = st} e w = from t (subst (λ (sp : Spot 𝓤 H). Places K 𝓛 Γ E sp st sp') (sym e) w)

module _ {M : Type 1} {𝓤 : Ura M} {𝓛 : Logic 𝓤} {K : Type 0} {Γ : List (Item 𝓤)} {E : Env 𝓤 𝓛.H} where
  -- local i as an operand
  open 𝓛 use {H}

  pub operand : K → {i : ℕ} {τ : Ty} {l : ℕ} {v : Val} (k : ℕ) → Holds 𝓛 k Γ E i τ l v → Opd K 𝓛 Γ E (copy (place i [])) v
  operand t {i} k h = load t (at_spot t (spot_is 𝓤 H h) (stop t)) (look t (behind k i) (cell_of 𝓤 H h))

  -- local 0 is returned
  pub answers : K → {τ : Ty} {l : ℕ} {v : Val} {C : Calls 𝓤 H} {Λ : Loops 𝓤 H} {Kf : Val → SProp 𝓤} (k : ℕ) → Holds 𝓛 k Γ E 0 τ l v → Step K 𝓛 Γ (frees E (prop (Kf v))) Γ (runs C Λ E return (at_ret E Kf))
  answers t {v = v} k h = returns t (subst (λ (sp : Spot 𝓤 H). Reads K 𝓛 Γ sp.0 sp.1 zero v) (sym (spot_is 𝓤 H h)) (look t (behind k 0) (cell_of 𝓤 H h)))

  -- what an empty local i is given
  pub fills : K → {i : ℕ} {τ : Ty} {l : ℕ} {v : Val} {C : Calls 𝓤 H} {Λ : Loops 𝓤 H} {p : Post 𝓤 H} {rest : Body} {rv : RValue} (k : ℕ)
      → Rv K 𝓛 Γ E rv v → Empty 𝓛 k Γ E i τ l → T (has_ty τ v) × WT v
      → Step K 𝓛 (put 𝓛 (behind k i) (‵ (fat full_share τ l zero v)) Γ) (runs C Λ E rest p) Γ (runs C Λ E (seq (assign (place i []) rv) rest) p)
  fills t {i} k r at_i typed = assigns t r (at_spot t (spot_is 𝓤 H at_i) (stop t)) (init t (behind k i) (cell_of 𝓤 H at_i) typed)

  -- field m of a struct in local i
  pub part_of : K → {i : ℕ} {ν : Sym} {τs : Tys} {l : ℕ} {vs : Vals} {τ : Ty} {o : ℕ} (k m : ℕ)
      → Holds 𝓛 k Γ E i (ty_struct ν τs) l (vstruct vs) → field_at zero τs m ≡ just (τ, o) → Opd K 𝓛 Γ E (copy (place i (field m ∷ []))) (get_v vs m)
  part_of t {i} k m h e = load t (at_spot t (spot_is 𝓤 H h) (fld t e (stop t))) (part-read t (behind k i) m (cell_of 𝓤 H h) e)

-- the result d of a call, a struct T, lands in local i
pub receives : {M : Type 1} {𝓤 : Ura M} {𝓛 : Logic 𝓤} {K : Type 0} {Γ : List (Item 𝓤)} {E : Env 𝓤 𝓛.H} {C : Calls 𝓤 𝓛.H} {Λ : Loops 𝓤 𝓛.H} {p : Post 𝓤 𝓛.H}
    {rest : Body} {v : Val} {i l : ℕ} {τ : Ty}
    → K → (k : ℕ) (T : Declared) (L : LL.Laws T) (d : T.D) → (row T).mir ≡ τ ∷ [] → Empty 𝓛 k Γ E i τ l
    → (Is (row T) d (LL.vals T L d) → Seq K 𝓛 (put 𝓛 (behind k i) (‵ (fat full_share τ l zero (LL.val T L d))) Γ) (runs C Λ E rest p))
    → Seq K 𝓛 (‵ ((row T).own_val d (v ∷ [])) ∷ Γ) (lands C Λ E (place i []) v rest p)
receives {𝓤 = 𝓤} {𝓛 = 𝓛} {E = E} {C = C} {Λ = Λ} {p = p} {rest = rest} {v = v} {i = i} t k T L d one at_i go =
    peeks t (row T) (Is (row T)) (shows 𝓛 (row T)) d (v ∷ []) (λ owns. drop t $
    let is : Is (row T) d (LL.vals T L d) = subst (Is (row T) d) (LL.tells T L d (v ∷ []) owns) owns in
    regoal t (λ (u : Val). lands C Λ E (place i []) u rest p) (ap only (LL.tells T L d (v ∷ []) owns)) refl $
    land t (at_spot t (spot_is 𝓤 𝓛.H at_i) (stop t))
    (init t (behind k i) (cell_of 𝓤 𝓛.H at_i) (subst (λ (τs : List Ty). Typed τs (LL.vals T L d)) one ((LL.lawful T L 𝓛).typed d (LL.vals T L d) is)).0) $ go is)

-- ---- the call of the core T c at y
module _ {M : Type 1} {𝓤 : Ura M} (𝓛 : Logic 𝓤) (T : Ended) (c : Clauses 𝓤 T) (y : (contract_of 𝓛 T c).Ghost) where
  abbrev pub Result : Type 0
  Result = Res T.signature y.0.0

  abbrev pub Last : Type 0
  Last = Lasts T y.0.0 y.0.3

  abbrev pub result : Val → Result → Item 𝓤
  result v r = ‵ ((type_at T.signature.result y.0.0).own_val r (v ∷ []))

  -- what it says of last values, and of its result
  abbrev pub last : Last → Item 𝓤
  last ws = ‵ (lasts T y.0.0 y.0.3 ws)

  abbrev pub word : Result → Last → Item 𝓤
  word r ws = raw (says 𝓤 T c y.0.0 y.0.3 y.1 r ws)

  abbrev pub tokens : Item 𝓤
  tokens = raw (alive 𝓛 T.signature y.0.0 y.0.1)

-- the copy of the state, and what stands beside it, P and R, are what the core asks
pub asks : (S : Held) {M : Type 1} {𝓤 : Ura M} {𝓛 : Logic 𝓤} {K : Type 0} {Γ : List (Item 𝓤)} {E : Env 𝓤 𝓛.H} {C : Calls 𝓤 𝓛.H} {Λ : Loops 𝓤 𝓛.H} {p : Post 𝓤 𝓛.H}
    {f : Callee} {xs : List Operand} {d : Place} {rest : Body}
    → K → FmC 𝓤 𝓛.H 𝓛.laws C → (T : Ended) (c : Clauses 𝓤 T) → Triple 𝓤 (C f) (contract_of 𝓛 T c) → (y : (contract_of 𝓛 T c).Ghost) {P : SProp 𝓤} {R : Fml} (s : State S) → IsState S s
    → ent 𝓤 (sep 𝓤 (sep 𝓤 P (sem 𝓛 (fsep ((the_row S).own_val s (mach S s ∷ [])) R))) (emp 𝓤)) ((contract_of 𝓛 T c).pre y)
    → Opds K 𝓛 (raw ((contract_of 𝓛 T c).pre y) ∷ Γ) E xs ((contract_of 𝓛 T c).args y)
    → ((v : Val) (r : Result 𝓛 T c y) (ws : Last 𝓛 T c y)
    → Seq K 𝓛 (result 𝓛 T c y v r ∷ last 𝓛 T c y ws ∷ word 𝓛 T c y r ws ∷ tokens 𝓛 T c y ∷ Γ) (lands C Λ E d v rest p))
    → Seq K 𝓛 (raw P ∷ ‵ R ∷ Γ) (runs C Λ E (seq (call f xs d) rest) p)
asks S {𝓤 = 𝓤} {𝓛 = 𝓛} t fm T c known y s is enough os k =
    move t (1 ∷ []) $ owned t (the_row S) (Is (the_row S)) (LL.makes S.type S.plain 𝓛) s (mach S s ∷ []) is $ fjoin t $ nothing t $
    move t (2 ∷ 1 ∷ []) $ join t $ move t (0 ∷ 1 ∷ []) $ join t $
    use1 𝓛 (raw ((contract_of 𝓛 T c).pre y)) enough $ calls_at t fm (contract_of 𝓛 T c) known y os (λ v.
    use1 𝓛 (later (some (λ (r : Result 𝓛 T c y). (tokens 𝓛 T c y ⊛ result 𝓛 T c y v r) ⊛ some (λ (ws : Last 𝓛 T c y). last 𝓛 T c y ws ⊛ word 𝓛 T c y r ws))))
    (id⊢ 𝓤 _) $ await t tt $
    pick t (λ r. split t $ move t (1 ∷ []) $ pick t (λ ws. split t $ move t (2 ∷ []) $ split t $ move t (1 ∷ 2 ∷ 3 ∷ 0 ∷ []) $ k v r ws)))

-- ---- the function is entered: beside the state's reference, which is F ∗ B ∗ B', stand P and R
pub enters : {M : Type 1} {𝓤 : Ura M} (𝓛 : Logic 𝓤) (κ : Lft) (q : Share) (F B B' : Fml) (P : SProp 𝓤) (R : Fml)
    (C : Calls 𝓤 𝓛.H) (Λ : Loops 𝓤 𝓛.H) (f : Fn) (vs : List Val) (Kf : Val → SProp 𝓤)
    → ((bs : Blocks f.locals) → Sq 𝓛 (‵ B ∷ ‵ B' ∷ ‵ (flft κ q) ∷ raw P ∷ ‵ R ∷ rooms 𝓤 f.locals bs) (started C Λ f vs Kf bs))
    → ent 𝓤 (sep 𝓤 (sep 𝓤 (sep 𝓤 (𝓛.A.lft κ q) P) (sem 𝓛 (fsep (fsep F (fsep B B')) R))) (emp 𝓤)) (WpFn 𝓤 𝓛.H C Λ f vs Kf)
enters 𝓛 κ q F B B' P R C Λ f vs Kf k = qed 𝓛 (((‵ (flft κ q) ⊛ raw P) ⊛ ‵ (fsep (fsep F (fsep B B')) R)) ∷ ‵ ftrue ∷ []) ∵
    split ! $ move ! (1 ∷ []) $ fsplit ! $ fsplit3 ! $ move ! (4 ∷ []) $ split ! $ keep ! (3 ∷ 4 ∷ 0 ∷ 1 ∷ 5 ∷ []) $ begins ! C Λ f vs Kf k

-- the same where the reference is a `&`, which owns F ∗ B
pub enters_shr : {M : Type 1} {𝓤 : Ura M} (𝓛 : Logic 𝓤) (κ : Lft) (q : Share) (F B : Fml) (P : SProp 𝓤) (R : Fml)
    (C : Calls 𝓤 𝓛.H) (Λ : Loops 𝓤 𝓛.H) (f : Fn) (vs : List Val) (Kf : Val → SProp 𝓤)
    → ((bs : Blocks f.locals) → Sq 𝓛 (‵ B ∷ ‵ (flft κ q) ∷ raw P ∷ ‵ R ∷ rooms 𝓤 f.locals bs) (started C Λ f vs Kf bs))
    → ent 𝓤 (sep 𝓤 (sep 𝓤 (sep 𝓤 (𝓛.A.lft κ q) P) (sem 𝓛 (fsep (fsep F B) R))) (emp 𝓤)) (WpFn 𝓤 𝓛.H C Λ f vs Kf)
enters_shr 𝓛 κ q F B P R C Λ f vs Kf k = qed 𝓛 (((‵ (flft κ q) ⊛ raw P) ⊛ ‵ (fsep (fsep F B) R)) ∷ ‵ ftrue ∷ []) ∵
    split ! $ move ! (1 ∷ []) $ fsplit ! $ fsplit ! $ move ! (3 ∷ []) $ split ! $ keep ! (3 ∷ 0 ∷ 1 ∷ 4 ∷ []) $ begins ! C Λ f vs Kf k

-- the state in memory, behind a reference x that local 1 holds, is copied to local i
pub takes-known : (S : Held) {M : Type 1} {𝓤 : Ura M} {𝓛 : Logic 𝓤} {K : Type 0} {Γ : List (Item 𝓤)} {E : Env 𝓤 𝓛.H} {C : Calls 𝓤 𝓛.H} {Λ : Loops 𝓤 𝓛.H} {p : Post 𝓤 𝓛.H} {rest : Body}
    → K → (k : ℕ) (q : Share) (x : Bor (State S)) {i l l₁ : ℕ} {τ₁ : Ty}
    → Holds 𝓛 k Γ E 1 τ₁ l₁ (vptr x.ref_ptr.0 x.ref_ptr.1) → Empty 𝓛 k Γ E i (the_mir S) l → IsState S x.now
    → Step K 𝓛 (‵ (cell_at q (the_row S).mir (mach S x.now ∷ []) x.ref_ptr.0 x.ref_ptr.1) ∷ put 𝓛 (behind k i) (‵ (fat full_share (the_mir S) l zero (mach S x.now))) Γ) (runs C Λ E rest p)
    (‵ (cell_at q (the_row S).mir (mach S x.now ∷ []) x.ref_ptr.0 x.ref_ptr.1) ∷ Γ) (runs C Λ E (seq (assign (place i []) (rv_opd (copy (place 1 (deref (the_mir S) ∷ []))))) rest) p)
takes-known S {𝓤 = 𝓤} {𝓛 = 𝓛} t k q x {i} at_1 at_i was =
    assigns t (of_opd t (load t (at_spot t (spot_is 𝓤 𝓛.H at_1) (hop t (look t (suc (behind k 1)) (cell_of 𝓤 𝓛.H at_1)) (stop t))) (look_raw t 0 refl))) (at_spot t (spot_is 𝓤 𝓛.H at_i) (stop t))
    (init t (suc (behind k i)) (cell_of 𝓤 𝓛.H at_i) (state_typed S 𝓛 x.now was))

pub takes : (S : Held) {M : Type 1} {𝓤 : Ura M} {𝓛 : Logic 𝓤} {K : Type 0} {Γ : List (Item 𝓤)} {E : Env 𝓤 𝓛.H} {C : Calls 𝓤 𝓛.H} {Λ : Loops 𝓤 𝓛.H} {p : Post 𝓤 𝓛.H} {rest : Body}
    → K → (q : Share) (x : Bor (State S)) (vs : List Val) {i l l₁ : ℕ} {τ₁ : Ty} {j₀ j₁ j₂ j₃ j₄ : Item 𝓤}
    → Holds 𝓛 0 Γ E 1 τ₁ l₁ (vptr x.ref_ptr.0 x.ref_ptr.1) → Empty 𝓛 0 Γ E i (the_mir S) l
    → (IsState S x.now → Seq K 𝓛 (‵ (cell_at q (the_row S).mir (mach S x.now ∷ []) x.ref_ptr.0 x.ref_ptr.1) ∷ ‵ ((the_row S).own_val x.now (mach S x.now ∷ [])) ∷ j₀ ∷ j₁ ∷ j₂ ∷ j₃ ∷ j₄
    ∷ put 𝓛 (behind 0 i) (‵ (fat full_share (the_mir S) l zero (mach S x.now))) Γ) (runs C Λ E rest p))
    → Seq K 𝓛 (‵ (cell_at q (the_row S).mir vs x.ref_ptr.0 x.ref_ptr.1) ∷ ‵ ((the_row S).own_val x.now vs) ∷ j₀ ∷ j₁ ∷ j₂ ∷ j₃ ∷ j₄ ∷ Γ)
    (runs C Λ E (seq (assign (place i []) (rv_opd (copy (place 1 (deref (the_mir S) ∷ []))))) rest) p)
takes S {𝓤 = 𝓤} {𝓛 = 𝓛} t q x vs at_1 at_i k =
    spelt t (the_row S) (Is (the_row S)) (shows 𝓛 (the_row S)) (LL.vals S.type S.laws) (LL.tells S.type S.laws) q x.now vs x.ref_ptr.0 x.ref_ptr.1 $
    move t (1 ∷ []) $ peeks t (the_row S) (Is (the_row S)) (shows 𝓛 (the_row S)) x.now (mach S x.now ∷ []) (λ was. move t (1 ∷ []) $ takes-known S t 6 q x at_1 at_i was $ k was)

-- ---- a `&mut` to the state, x
module _ (S : Held) where
  abbrev observed : MutBor (State S) → State S → Fml
  observed x s = fobs x.ghost_name ((the_row S).coded.code s)

  abbrev lies : MutBor (State S) → Fml
  lies x = Borrowed (mem (the_row S)) x.ref_ptr.0 x.ref_ptr.1 x.ghost_name

module _ (S : Held) {M : Type 1} {𝓤 : Ura M} (κ : Lft) (q : Share) (x : MutBor (State S)) where
  -- while it is whole, at the value s
  abbrev pub whole-at : State S → List (Item 𝓤) → List (Item 𝓤)
  whole-at s Γ = ‵ (observed S x s) ∷ ‵ (fbor κ (lies S x)) ∷ ‵ (flft κ q) ∷ Γ

  -- while it is open, the state s in memory
  abbrev pub open_with : State S → List (Item 𝓤) → List (Item 𝓤)
  open_with s Γ = ‵ (cell_at full_share (the_row S).mir (mach S s ∷ []) x.ref_ptr.0 x.ref_ptr.1) ∷ ‵ (fobor κ q (lies S x))
      ∷ ‵ (observed S x x.now) ∷ ‵ (fauth x.ghost_name ((the_row S).coded.code x.now)) ∷ Γ

  abbrev pub open_at : List (Item 𝓤) → List (Item 𝓤)
  open_at = open_with x.now

pub enters_mut : (S : Held) {M : Type 1} {𝓤 : Ura M} (𝓛 : Logic 𝓤) (κ : Lft) (q : Share) (x : MutBor (State S)) (P : SProp 𝓤) (R : Fml)
    (C : Calls 𝓤 𝓛.H) (Λ : Loops 𝓤 𝓛.H) (f : Fn) (vs : List Val) (Kf : Val → SProp 𝓤)
    → ((bs : Blocks f.locals) → Sq 𝓛 (whole-at S κ q x x.now (raw P ∷ ‵ R ∷ rooms 𝓤 f.locals bs)) (started C Λ f vs Kf bs))
    → ent 𝓤 (sep 𝓤 (sep 𝓤 (sep 𝓤 (𝓛.A.lft κ q) P) (sem 𝓛 (fsep ((MutRef (named 0) κ (the_row S)).own_val x (mut_vals x)) R))) (emp 𝓤)) (WpFn 𝓤 𝓛.H C Λ f vs Kf)
enters_mut S 𝓛 κ q x = enters 𝓛 κ q (mut_at x (mut_vals x)) (observed S x x.now) (fbor κ (lies S x))

-- it is opened, and the state copied
pub copies : (S : Held) {M : Type 1} {𝓤 : Ura M} {𝓛 : Logic 𝓤} {K : Type 0} {Γ : List (Item 𝓤)} {E : Env 𝓤 𝓛.H} {C : Calls 𝓤 𝓛.H} {Λ : Loops 𝓤 𝓛.H} {p : Post 𝓤 𝓛.H} {rest : Body}
    → K → (κ : Lft) (q : Share) (x : MutBor (State S)) {i l l₁ : ℕ} {τ₁ : Ty} {j₀ j₁ : Item 𝓤}
    → Holds 𝓛 0 Γ E 1 τ₁ l₁ (vptr x.ref_ptr.0 x.ref_ptr.1) → Empty 𝓛 0 Γ E i (the_mir S) l
    → (IsState S x.now → Seq K 𝓛 (open_at S κ q x (j₀ ∷ j₁ ∷ put 𝓛 (behind 0 i) (‵ (fat full_share (the_mir S) l zero (mach S x.now))) Γ)) (runs C Λ E rest p))
    → Seq K 𝓛 (whole-at S κ q x x.now (j₀ ∷ j₁ ∷ Γ)) (runs C Λ E (seq (assign (place i []) (rv_opd (copy (place 1 (deref (the_mir S) ∷ []))))) rest) p)
copies S t κ q x at_1 at_i k = opens t tt (the_row S) {h = x.now} x.ref_ptr.0 x.ref_ptr.1 (λ vs. takes S t full_share (as_bor x) vs at_1 at_i (λ was. move t (1 ∷ []) $ drop t $ k was))

-- it is closed, at the state s that lies there
shut : (S : Held) {M : Type 1} {𝓤 : Ura M} {𝓛 : Logic 𝓤} {K : Type 0} {Γ : List (Item 𝓤)} {G : Goal 𝓤 𝓛.H}
    → K → Soaks G → (κ : Lft) (q : Share) (x : MutBor (State S)) (s : State S) → IsState S s → Step K 𝓛 (whole-at S κ q x s Γ) G (open_with S κ q x s Γ) G
shut S {𝓤 = 𝓤} {𝓛 = 𝓛} t z κ q x s is = step (λ k. owned t (the_row S) (Is (the_row S)) (LL.makes S.type S.plain 𝓛) s (mach S s ∷ []) is $
    move t (1 ∷ 0 ∷ []) $ closes t z (the_row S) s (mach S s ∷ []) x.ref_ptr.0 x.ref_ptr.1 $ k)

-- ---- a `&mut [u8]` a that is handed on: a pointer to its first byte is made in local i, and a slice of that pointer and the same length in local j
abbrev pub first_byte : Lifetime → Ty
first_byte ℓ = ty_ref ℓ mut (ty_int w8)

module _ {M : Type 1} {𝓤 : Ura M} (𝓛 : Logic 𝓤) (k : ℕ) (a : MutBor (List ℕ)) (Γ : List (Item 𝓤)) (i lᵢ : ℕ) where
  abbrev pub pointed : List (Item 𝓤)
  pointed = put 𝓛 (behind k i) (‵ (fat full_share (first_byte erased) lᵢ zero (vptr a.ref_ptr.0 a.ref_ptr.1))) Γ

pub hands_on : {M : Type 1} {𝓤 : Ura M} {𝓛 : Logic 𝓤} {K : Type 0} {Γ : List (Item 𝓤)} {E : Env 𝓤 𝓛.H} {C : Calls 𝓤 𝓛.H} {Λ : Loops 𝓤 𝓛.H} {p : Post 𝓤 𝓛.H} {rest : Body}
    → K → (k : ℕ) (a : MutBor (List ℕ)) → Room u8 (length a.now) → {h i j lₕ lᵢ lⱼ : ℕ} {ℓ : Lifetime}
    → Holds 𝓛 k Γ E h (slice_ty (first_byte ℓ)) lₕ (slice_val a.ref_ptr (length a.now)) → Empty 𝓛 k Γ E i (first_byte erased) lᵢ
    → Holds 𝓛 k (pointed 𝓛 k a Γ i lᵢ) E i (first_byte erased) lᵢ (vptr a.ref_ptr.0 a.ref_ptr.1)
    → Holds 𝓛 k (pointed 𝓛 k a Γ i lᵢ) E h (slice_ty (first_byte ℓ)) lₕ (slice_val a.ref_ptr (length a.now)) → Empty 𝓛 k (pointed 𝓛 k a Γ i lᵢ) E j (slice_ty (first_byte erased)) lⱼ
    → Step K 𝓛 (put 𝓛 (behind k j) (‵ (fat full_share (slice_ty (first_byte erased)) lⱼ zero (slice_val a.ref_ptr (length a.now)))) (pointed 𝓛 k a Γ i lᵢ)) (runs C Λ E rest p)
    Γ (runs C Λ E (seq (assign (place i []) (addr_of (place h (field 0 ∷ deref (ty_int w8) ∷ [])))) (seq (assign (place j []) (aggregate (copy (place i []) ∷ copy (place h (field 1 ∷ [])) ∷ []))) rest)) p)
hands_on {𝓤 = 𝓤} {𝓛 = 𝓛} t k a room {h} at-h at_i made kept at_j = step (λ s.
    fills t k (addr t (at_spot t (spot_is 𝓤 𝓛.H at-h) (fld t refl (hop t (part-read t (behind k h) 0 (cell_of 𝓤 𝓛.H at-h) refl) (stop t))))) at_i (tt, tt) $
    fills t k (agg t (and_then t (operand t k made) (and_then t (part_of t k 1 kept refl) (no_more t)))) at_j (tt, (tt, (record { fits = room.0 }, tt))) $ s)

-- ---- what an entry answers: a type of one machine value that owns only facts
pub record Answer : Type 2 where
  pub part : Field
  pub laws : LL.FLaws part
  pub plain : LL.Plain part
  pub mir : Ty
  pub one : part.row.mir ≡ mir ∷ []

abbrev pub number : Answer
number = record { part = u8-field; laws = LL.u8-laws; plain = LL.u8-plain; mir = ty_int w8; one = refl }

abbrev pub outcome : Answer
outcome = record { part = O.the_field; laws = O'.the_field_laws; plain = O'.the_field_plain; mir = O'.mir; one = refl }

module _ (N : Answer) where
  abbrev pub answer_val : N.part.Value → Val
  answer_val y = N.laws.val (N.part.into y)

  abbrev pub IsAnswer : N.part.Value → Type 0
  IsAnswer y = Is N.part.row (N.part.into y) (answer_val y ∷ [])

  pub answer_typed : {M : Type 1} {𝓤 : Ura M} (𝓛 : Logic 𝓤) (y : N.part.Value) → IsAnswer y → T (has_ty N.mir (answer_val y)) × WT (answer_val y)
  answer_typed 𝓛 y is = (subst (λ (τs : List Ty). Typed τs (answer_val y ∷ [])) N.one ((N.laws.lawful 𝓛).typed (N.part.into y) (answer_val y ∷ []) is)).0

-- ---- the result of a core, a struct by the name ν: the state after it, and the answer
module _ (S : Held) (N : Answer) where
  abbrev pub both_val : State S → N.part.Value → Val
  both_val s y = vstruct (vcons (mach S s) (vcons (answer_val N y) vnil))

  abbrev both-laws : LL.Lawss (the_field S ∷ N.part ∷ [])
  both-laws = (the_field_laws S, (N.laws, tt))

  abbrev pub both : State S → N.part.Value → Denots (rows (the_field S ∷ N.part ∷ []))
  both s y = (S.type.to s, (N.part.into y, tt))

  abbrev pub Parts : Type 0
  Parts = Values (the_field S ∷ N.part ∷ [])

  module _ (ν : Sym) where
    abbrev pub both-mir : Ty
    both-mir = ty_struct ν (tcons (the_mir S) (tcons N.mir tnil))

    abbrev Both : Declared
    Both = record {
      name = ν;
      args = [];
      types = [];
      parts = the_field S ∷ N.part ∷ [];
      D = Parts;
      to = intos (the_field S ∷ N.part ∷ []);
      to_one = intos_one (the_field S ∷ N.part ∷ []);
      as_values = λ v. v;
      to_is = λ v. refl;
      cover = record { Ghost = λ v. Nothing; ghosts = λ v. tt; make = λ v g. v; eta = λ v. refl; beta = λ v g. refl };
      propositions = λ v. Nothing-prop;
    }

    both_one : (row Both).mir ≡ both-mir ∷ []
    both_one = ap (λ (τs : List Ty). ty_struct ν (tcons (the_mir S) (to_tys (τs ++ []))) ∷ []) N.one

-- ---- the locals Γ once the result is in local i, and then its state in local j
module _ (S : Held) {M : Type 1} {𝓤 : Ura M} (𝓛 : Logic 𝓤) (N : Answer) (ν : Sym) (s : State S) (y : N.part.Value) (Γ : List (Item 𝓤)) (i l : ℕ) where
  abbrev pub landed : List (Item 𝓤)
  landed = put 𝓛 (behind 0 i) (‵ (fat full_share (both-mir S N ν) l zero (both_val S N s y))) Γ

  abbrev pub taken : ℕ → ℕ → List (Item 𝓤)
  taken j m = put 𝓛 (behind 0 j) (‵ (fat full_share (the_mir S) m zero (mach S s))) landed

-- the code after the call: the state of the result in local i is copied to local j, and from there behind the reference, and its answer is copied to local 0
abbrev pub storing : Held → ℕ → ℕ → Body → Body
storing S i j rest = seq (assign (place j []) (rv_opd (copy (place i (field 0 ∷ []))))) (seq (assign (place 1 (deref (the_mir S) ∷ [])) (rv_opd (copy (place j [])))) (seq (assign (place 0 []) (rv_opd (copy (place i (field 1 ∷ []))))) rest))

-- it lands in local i, its state is stored behind x, which is closed there, and its answer is the entry's
pub stores : (S : Held) {M : Type 1} {𝓤 : Ura M} {𝓛 : Logic 𝓤} {K : Type 0} {Γ : List (Item 𝓤)} {E : Env 𝓤 𝓛.H} {C : Calls 𝓤 𝓛.H} {Λ : Loops 𝓤 𝓛.H} {p : Post 𝓤 𝓛.H}
    {rest : Body} {ν : Sym} {v : Val} {i l j m l₀ l₁ : ℕ} {τ₁ : Ty} {j₀ j₁ j₂ : Item 𝓤}
    → K → (N : Answer) (κ : Lft) (q : Share) (x : MutBor (State S)) (s : State S) (y : N.part.Value)
    → Empty 𝓛 0 Γ E i (both-mir S N ν) l → Holds 𝓛 0 (landed S 𝓛 N ν s y Γ i l) E i (both-mir S N ν) l (both_val S N s y)
    → Empty 𝓛 0 (landed S 𝓛 N ν s y Γ i l) E j (the_mir S) m → Holds 𝓛 0 (taken S 𝓛 N ν s y Γ i l j m) E j (the_mir S) m (mach S s)
    → Holds 𝓛 0 (taken S 𝓛 N ν s y Γ i l j m) E i (both-mir S N ν) l (both_val S N s y)
    → Holds 𝓛 0 (taken S 𝓛 N ν s y Γ i l j m) E 1 τ₁ l₁ (vptr x.ref_ptr.0 x.ref_ptr.1) → Empty 𝓛 0 (taken S 𝓛 N ν s y Γ i l j m) E 0 N.mir l₀
    → (IsAnswer N y → Seq K 𝓛 (whole-at S κ q x s (j₀ ∷ j₁ ∷ j₂ ∷ put 𝓛 0 (‵ (fat full_share N.mir l₀ zero (answer_val N y))) (taken S 𝓛 N ν s y Γ i l j m))) (runs C Λ E rest p))
    → Seq K 𝓛 (‵ ((row (Both S N ν)).own_val (s, (y, tt)) (v ∷ [])) ∷ j₀ ∷ j₁ ∷ j₂ ∷ open_at S κ q x Γ)
    (lands C Λ E (place i []) v (storing S i j rest) p)
stores S {𝓤 = 𝓤} {𝓛 = 𝓛} {ν = ν} t N κ q x s y at_i Landed-at at_j Taken-at still-at at_1 at-0 k =
    receives t 7 (Both S N ν) (both-laws S N) (s, (y, tt)) (both_one S N ν) at_i (λ is.
    let are : IsState S s × (IsAnswer N y × Unit {0}) = LL.owed (Both S N ν) (both-laws S N) (s, (y, tt)) (both_val S N s y ∷ []) is in
    fills t 7 (of_opd t (part_of t 7 0 Landed-at refl)) at_j (state_typed S 𝓛 s are.0) $
    assigns t (of_opd t (operand t 7 Taken-at)) (at_spot t (spot_is 𝓤 𝓛.H at_1) (hop t (look t (behind 7 1) (cell_of 𝓤 𝓛.H at_1)) (stop t)))
    (store_raw t 3 refl (state_typed S 𝓛 s are.0)) $
    move t (3 ∷ 4 ∷ 5 ∷ 6 ∷ []) $ shut S t tt κ q x s are.0 $
    fills t 6 (of_opd t (part_of t 6 1 still-at refl)) at-0 (answer_typed N 𝓛 y are.1.0) $ k are.1.0)

-- ---- the end: the tokens, what is had of the parameters, the answer, and what the core says, which is what the entry says
module _ {M : Type 1} {𝓤 : Ura M} {𝓛 : Logic 𝓤} {K : Type 0} (t : K) where
  open 𝓛 use {A}

  pub ends : {κ : Lft} {q : Share} {P Q Q' : SProp 𝓤} {F R : Fml} → ent 𝓤 Q Q'
      → Seq K 𝓛 (‵ (flft κ q) ∷ raw P ∷ ‵ F ∷ ‵ R ∷ raw Q ∷ []) (prop (sep 𝓤 (sep 𝓤 (sep 𝓤 (A.lft κ q) P) (sep 𝓤 (sem 𝓛 F) (sem 𝓛 R))) Q'))
  ends {Q' = Q'} told = join t $ move t (1 ∷ 2 ∷ []) $ join t $ move t (1 ∷ 0 ∷ []) $ join t $ move t (1 ∷ []) $ use1 𝓛 (raw Q') told $ move t (1 ∷ []) $ frame t $ done t

module _ (S : Held) {M : Type 1} {𝓤 : Ura M} {𝓛 : Logic 𝓤} {K : Type 0} (t : K) where
  open 𝓛 use {A}

  pub gives : (N : Answer) (κ : Lft) (q : Share) (x : MutBor (State S)) (s : State S) (y : N.part.Value) {E F : Fml} (F' : Fml) {P Q Q' : SProp 𝓤} → IsAnswer N y → ent 𝓤 (sem 𝓛 F) (sem 𝓛 F') → ent 𝓤 Q Q'
      → Seq K 𝓛 (whole-at S κ q x s (‵ (fsep E F) ∷ raw Q ∷ raw P ∷ [])) (prop (sep 𝓤 (sep 𝓤 (sep 𝓤 (A.lft κ q) P)
      (sep 𝓤 (sem 𝓛 (fsep ((MutRef (named 0) κ (the_row S)).own_val (at_last x s) (mut_vals x)) F')) (sem 𝓛 (N.part.row.own_val (N.part.into y) (answer_val N y ∷ []))))) Q'))
  gives N κ q x s y F' is had told =
      move t (3 ∷ []) $ fsplit t $ drop t $ use1 𝓛 (‵ F') had $ move t (1 ∷ 2 ∷ []) $ feq_i t (List Val) (mut_vals x) (mut_vals x) refl $ fjoin3 t $ fjoin t $
      owned t N.part.row (Is N.part.row) (λ z vs. makes_shadow 𝓛 (N.part.row.own_val z vs) (N.plain z vs)) (N.part.into y) (answer_val N y ∷ []) is $
      move t (2 ∷ 4 ∷ 1 ∷ 0 ∷ 3 ∷ []) $ ends t told
