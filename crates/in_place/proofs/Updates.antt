-- The entries `fn(x: &mut S, ..) -> A` whose body is `let done = core(*x, ..); *x = done.state; done.answer`, at every struct S and every answer A, with nothing beside the state, with a `&[u8]`, or with a `&[u8]` and a `&mut [u8]`: such an entry meets its
-- contract as soon as its core does and what the core says of its result is what the entry says (`updates`). Neither contract asks anything of its caller. Of the entry its code is known, `updating`, and of the core its contract alone.
-- Assumes nothing.
use mathlib.Core.Path.{◌≡◌, refl}
use Prim.Native.Nat.{ℕ, zero, suc}
use mathlib.Core.List.{List, [], ◌∷◌, ◌++◌}
use seplogic.Ra.Ura.{Ura}
use base.Fraction.{full_share}
use mir.Syntax.{Sym, named, erased, imm, mut, w8, Ty, ty_int, ty_ref, Callee, place, deref, field, Local, local, value_local, Fn}
use mir.Syntax.{Opd as Operand, copy, rv_opd, addr_of, aggregate, Body, seq, assign, call, return}
use mir.Val.{Val, vptr}
use base.Logic.{SProp, ent, emp, id⊢}
use base.Fml.{ftrue, fat}
use prog.Model.{Model}
use prog.Routine.{Routine, Env as Names}
use prog.Wp.{Env, Calls, Loops, WpFn, Closed}
use types.Logic.{Logic, sem}
use contract.Lifetimes.{Lfts, Shares, AllOutlive}
use contract.Running.{Running, tables}
use types.Kit.{Item, ‵, raw, put, Goal, runs, frees, at_ret, Go, Sq, Step, step, ◌$◌, !, move, suffices}
use types.Run.{Opds, init, params1, pass1, pass0, and_then, no_more, free0}
use sound.WpLaws.{FmC}
use denote.RattleType.{Denots, Valss, owns}
use denote.Builtin.{u8}
use denote.Memory.{pointee}
use denote.Ref.{mut_vals, mut_Tells}
use denote.Slice.{ShrSlice, MutSlice, slice_ty, shr_slice_vals, mut_slice_vals, shr_slice_Tells, mut_slice_Tells}
use denote.Exit.{yes}
use denote.Signature.{Slot, plain, types_at}
use denote.Struct.Cover.{Cover}
use denote.Struct.Declared.{Declared, row}
use denote.Struct.Recorded.{Recorded}
use denote.Triple.Entry.{Args, Res, alive}
use denote.Triple.End.{all, Fins, lasts_of}
use denote.Triple.Clauses.{Ended, Clauses, Lasts, AtExit}
use denote.Triple.Statement.{Triple}
use denote.Triple.Walked.{Stays, has_of, fits_of, walk_of, Walks, ends_at, walked}
use Rattle.in_place.proofs.InPlace.{Held, State, IsState, the_row, the_mir, the_field, mach, state_slot, passed_on, updated, updated_goes, contract_of, entry_meets, says, Empty, Holds, enters_mut, open_at, whole-at, copies, first_byte, hands_on}
use Rattle.in_place.proofs.InPlace.{operand, answers, last, word, tokens, asks, Answer, answer_val, both, both_val, both-mir, Parts, landed, taken, storing, stores, swaps, leaves, gives}

-- ---- a contract that asks nothing, by what it ensures
abbrev pub Ensures : {M : Type 1} (𝓤 : Ura M) → Ended → Type 2
Ensures 𝓤 T = (κs : Lfts T.signature.lifetimes) → Args T.signature κs → Res T.signature κs → AtExit T κs → SProp 𝓤

abbrev ensuring : {M : Type 1} (𝓤 : Ura M) (T : Ended) → Ensures 𝓤 T → Clauses 𝓤 T
ensuring 𝓤 T e κs a = record { ghost = Unit {0}; requires = λ _. emp 𝓤; ensures = λ _. e κs a }

-- ---- what stands beside the state: nothing, a slice that is read, or one that is read and one that is written
pub data Beside : Type 0 where
  alone reads reads-writes : Beside

abbrev count : Beside → ℕ
count alone = 0
count reads = 1
count reads-writes = 2

-- the parameters of it, whose lifetimes are numbered from m on
abbrev slots : (b : Beside) (m : ℕ) {n : ℕ} → (Lfts n → Lfts (count b)) → List (Slot n)
slots alone m at = []
slots reads m at = plain (λ κs. ShrSlice (named m) (at κs).0 u8) ∷ []
slots reads-writes m at = plain (λ κs. ShrSlice (named m) (at κs).0 u8) ∷ plain (λ κs. MutSlice (named (suc m)) (at κs).1.0 u8) ∷ []

abbrev here : (b : Beside) → List (Slot (suc (count b)))
here b = slots b 1 (λ κs. κs.1)

abbrev there : (b : Beside) → List (Slot (count b))
there b = slots b 0 (λ κs. κs)

-- they go to the core as they came, and what it says of them is what the entry says
abbrev handed : (b : Beside) (κs : Lfts (suc (count b))) → Denots (types_at (here b) κs) → Denots (types_at (there b) κs.1)
handed alone κs a = a
handed reads κs a = a
handed reads-writes κs a = a

abbrev back : (b : Beside) (κs : Lfts (suc (count b))) (a : Denots (types_at (here b) κs)) → Fins κs.1 (there b) (all yes (there b)) (handed b κs a) → Fins κs (here b) (all yes (here b)) a
back alone κs a ws = ws
back reads κs a ws = ws
back reads-writes κs a ws = ws

-- so nothing is owed of their last values, and what is had of them at exit is what the core says
fits : (b : Beside) (κs : Lfts (suc (count b))) (a : Denots (types_at (here b) κs)) (ws : Fins κs (here b) (all yes (here b)) a) → fits_of κs (here b) (all yes (here b)) (passed_on (here b) (all yes (here b))) a ws
fits alone κs a ws = tt
fits reads κs a ws = (tt, tt)
fits reads-writes κs a ws = (tt, (tt, tt))

had : {M : Type 1} {𝓤 : Ura M} (𝓛 : Logic 𝓤) (b : Beside) (κs : Lfts (suc (count b))) (a : Denots (types_at (here b) κs)) (ws : Fins κs.1 (there b) (all yes (there b)) (handed b κs a)) (vss : Valss (types_at (here b) κs))
    → ent 𝓤 (sem 𝓛 (lasts_of κs.1 (there b) (all yes (there b)) (handed b κs a) ws)) (sem 𝓛 (has_of κs (here b) (all yes (here b)) (passed_on (here b) (all yes (here b))) a (back b κs a ws) vss))
had {𝓤 = 𝓤} 𝓛 alone κs a ws vss = id⊢ 𝓤 _
had {𝓤 = 𝓤} 𝓛 reads κs a ws vss = id⊢ 𝓤 _
had {𝓤 = 𝓤} 𝓛 reads-writes κs a ws vss = id⊢ 𝓤 _

-- ---- the code. The locals are the answer, the reference, the slices, the core's result, the copy of the state, of a slice that is written its first byte's address and the slice that is handed on, and the state of the result on its way back
abbrev slice_locals : Beside → List Local
slice_locals alone = []
slice_locals reads = local (slice_ty (ty_ref (named 1) imm (ty_int w8))) value_local ∷ []
slice_locals reads-writes = local (slice_ty (ty_ref (named 1) imm (ty_int w8))) value_local ∷ local (slice_ty (first_byte (named 2))) value_local ∷ []

abbrev hand_locals : Beside → List Local
hand_locals alone = []
hand_locals reads = []
hand_locals reads-writes = local (first_byte erased) value_local ∷ local (slice_ty (first_byte erased)) value_local ∷ []

abbrev handing : Beside → Body → Body
handing alone rest = rest
handing reads rest = rest
handing reads-writes rest = seq (assign (place 6 []) (addr_of (place 3 (field 0 ∷ deref (ty_int w8) ∷ [])))) (seq (assign (place 7 []) (aggregate (copy (place 6 []) ∷ copy (place 3 (field 1 ∷ [])) ∷ []))) rest)

abbrev operands : Beside → List Operand
operands alone = []
operands reads = copy (place 2 []) ∷ []
operands reads-writes = copy (place 2 []) ∷ copy (place 7 []) ∷ []

abbrev done_at : Beside → ℕ
done_at b = suc (suc (count b))

-- the local after those
abbrev taken_at : Beside → ℕ
taken_at alone = 4
taken_at reads = 5
taken_at reads-writes = 8

module _ (S : Held) (N : Answer) (b : Beside) where
  abbrev pub updating : Sym → Callee → Fn
  updating ν core = record {
    lifetimes = suc (count b);
    outlives = [];
    ty_params = [];
    givens = 0;
    params = suc (count b);
    locals = local N.mir value_local ∷ local (ty_ref (named 0) mut (pointee (the_row S).written)) value_local ∷ (slice_locals b ++ local (both-mir S N ν) value_local ∷ local (the_mir S) value_local ∷ hand_locals b ++ local (the_mir S) value_local ∷ []);
    body = seq (assign (place (suc (done_at b)) []) (rv_opd (copy (place 1 (deref (the_mir S) ∷ [])))))
        (handing b (seq (call core (copy (place (suc (done_at b)) []) ∷ operands b) (place (done_at b) [])) (storing S (done_at b) (taken_at b) return)));
  }

-- ---- the result of the core: a struct of the state after it and the answer, and of nothing more than proofs about them
pub record Done (S : Held) (N : Answer) : Type 2 where
  pub name : Sym
  pub D : Type 0
  pub state : D → State S
  pub answer : D → N.part.Value
  pub to_one : (x y : D) → both S N (state x) (answer x) ≡ both S N (state y) (answer y) → x ≡ y
  pub cover : Cover D (Parts S N) (λ d. (state d, (answer d, tt)))
  pub propositions : (v : Parts S N) → IsProp (cover.Ghost v)

-- ---- the two signatures
module _ (S : Held) (N : Answer) (b : Beside) where
  abbrev pub entry_ended : Ended
  entry_ended = record {
    signature = record { lifetimes = suc (count b); outlives = []; params = state_slot S (count b) ∷ here b; result = plain (λ _. Recorded N.part.row N.part.Value N.part.into N.part.into_one) };
    kept = (yes, all yes (here b));
  }

  abbrev stayed : Stays entry_ended.signature.params entry_ended.kept
  stayed = updated S (here b) (all yes (here b))

  module _ (R : Done S N) where
    abbrev done-type : Declared
    done-type = record {
      name = R.name;
      args = [];
      types = [];
      parts = the_field S ∷ N.part ∷ [];
      D = R.D;
      to = λ d. both S N (R.state d) (R.answer d);
      to_one = R.to_one;
      as_values = λ d. (R.state d, (R.answer d, tt));
      to_is = λ d. refl;
      cover = R.cover;
      propositions = R.propositions;
    }

    abbrev pub core_ended : Ended
    core_ended = record {
      signature = record { lifetimes = count b; outlives = []; params = plain (λ _. the_row S) ∷ there b; result = plain (λ _. row done-type) };
      kept = (yes, all yes (there b));
    }

module _ (S : Held) (N : Answer) (R : Done S N) {M : Type 1} (𝓤 : Ura M) where
  abbrev core_clauses : (b : Beside) → Ensures 𝓤 (core_ended S N b R) → Clauses 𝓤 (core_ended S N b R)
  core_clauses b = ensuring 𝓤 (core_ended S N b R)

  abbrev entry_clauses : (b : Beside) → Ensures 𝓤 (entry_ended S N b) → Clauses 𝓤 (entry_ended S N b)
  entry_clauses b = ensuring 𝓤 (entry_ended S N b)

  module _ (b : Beside) (core_says : Ensures 𝓤 (core_ended S N b R)) (entry_says : Ensures 𝓤 (entry_ended S N b)) where
    -- what the core says of its result, and so of each part of it, is what the entry says
    abbrev pub Told : Type 1
    Told = (κs : Lfts (suc (count b))) (a : Args (entry_ended S N b).signature κs) (r : R.D) (ws : Lasts (core_ended S N b R) κs.1 (a.0.now, handed b κs a.1))
        → ent 𝓤 (says 𝓤 (core_ended S N b R) (core_clauses b core_says) κs.1 (a.0.now, handed b κs a.1) tt r ws) (says 𝓤 (entry_ended S N b) (entry_clauses b entry_says) κs a tt (R.answer r) (R.state r, back b κs a.1 ws.1))

    module _ (told : Told) (𝓛 : Logic 𝓤) (core : Callee) (C : Calls 𝓤 𝓛.H) (Λ : Loops 𝓤 𝓛.H) (fm : FmC 𝓤 𝓛.H 𝓛.laws C) (known : Triple 𝓤 (C core) (contract_of 𝓛 (core_ended S N b R) (core_clauses b core_says)))
        (κs : Lfts (suc (count b))) (qs : Shares (suc (count b))) (bounds : AllOutlive (suc (count b)) [] κs) (a : Args (entry_ended S N b).signature κs) (vals : Valss (types_at (there b) κs.1)) (vss : Valss (types_at (here b) κs)) where
      open 𝓛 use {H}

      abbrev asked : (contract_of 𝓛 (core_ended S N b R) (core_clauses b core_says)).Ghost
      asked = ((κs.1, qs.1, tt, (a.0.now, handed b κs a.1), (mach S a.0.now ∷ [], vals)), tt)

      -- the locals Γ once the result r is in local i, then its state in local j, and then its answer in local 0
      abbrev result_in : List (Item 𝓤) → ℕ → ℕ → R.D → List (Item 𝓤)
      result_in Γ i l r = landed S 𝓛 N R.name (R.state r) (R.answer r) Γ i l

      abbrev state_in : List (Item 𝓤) → ℕ → ℕ → ℕ → ℕ → R.D → List (Item 𝓤)
      state_in Γ i l j m r = taken S 𝓛 N R.name (R.state r) (R.answer r) Γ i l j m

      abbrev answer_in : List (Item 𝓤) → ℕ → ℕ → ℕ → ℕ → ℕ → R.D → List (Item 𝓤)
      answer_in Γ i l j m l₀ r = put 𝓛 0 (‵ (fat full_share N.mir l₀ zero (answer_val N (R.answer r)))) (state_in Γ i l j m r)

      -- from the call on: the state of the result is stored, its answer is returned, and the locals are freed
      finishes : {Γ : List (Item 𝓤)} {E : Env 𝓤 H} {xs : List Operand} {i l j m l₀ l₁ : ℕ} {τ₁ : Ty}
          → IsState S a.0.now → Opds Go 𝓛 (raw ((contract_of 𝓛 (core_ended S N b R) (core_clauses b core_says)).pre asked) ∷ open_at S κs.0 qs.0 a.0 Γ) E xs ((contract_of 𝓛 (core_ended S N b R) (core_clauses b core_says)).args asked)
          → Empty 𝓛 0 Γ E i (both-mir S N R.name) l → ((r : R.D) → Holds 𝓛 0 (result_in Γ i l r) E i (both-mir S N R.name) l (both_val S N (R.state r) (R.answer r)))
          → ((r : R.D) → Empty 𝓛 0 (result_in Γ i l r) E j (the_mir S) m) → ((r : R.D) → Holds 𝓛 0 (state_in Γ i l j m r) E j (the_mir S) m (mach S (R.state r)))
          → ((r : R.D) → Holds 𝓛 0 (state_in Γ i l j m r) E i (both-mir S N R.name) l (both_val S N (R.state r) (R.answer r)))
          → ((r : R.D) → Holds 𝓛 0 (state_in Γ i l j m r) E 1 τ₁ l₁ (vptr a.0.ref_ptr.0 a.0.ref_ptr.1)) → ((r : R.D) → Empty 𝓛 0 (state_in Γ i l j m r) E 0 N.mir l₀)
          → ((r : R.D) → Holds 𝓛 0 (answer_in Γ i l j m l₀ r) E 0 N.mir l₀ (answer_val N (R.answer r)))
          → ((r : R.D) (Δ : List (Item 𝓤)) (g : Goal 𝓤 H) → Step Go 𝓛 Δ g (answer_in Γ i l j m l₀ r ++ Δ) (frees E g))
          → Sq 𝓛 (tokens 𝓛 (core_ended S N b R) (core_clauses b core_says) asked ∷ ‵ (owns (types_at (there b) κs.1) (handed b κs a.1) vals) ∷ open_at S κs.0 qs.0 a.0 Γ)
          (runs C Λ E (seq (call core xs (place i [])) (storing S i j return)) (at_ret E ((walk_of 𝓛 (entry_ended S N b) (stayed S N b) (entry_clauses b entry_says)).post ((κs, qs, bounds, a, (mut_vals a.0, vss)), tt))))
      finishes {Γ} {i = i} {l} {j} {m} {l₀} was os at_i Landed-at at_j Taken-at still-at at_1 at-0 answered frees_all =
          asks S ! fm (core_ended S N b R) (core_clauses b core_says) known asked a.0.now was (id⊢ 𝓤 _) os (λ v r ws.
          stores S ! N κs.0 qs.0 a.0 (R.state r) (R.answer r) at_i (Landed-at r) (at_j r) (Taken-at r) (still-at r) (at_1 r) (at-0 r) (λ is.
          answers ! 6 (answered r) $
          swaps ! (whole-at S κs.0 qs.0 a.0 (R.state r) (last 𝓛 (core_ended S N b R) (core_clauses b core_says) asked ws ∷ word 𝓛 (core_ended S N b R) (core_clauses b core_says) asked r ws ∷ tokens 𝓛 (core_ended S N b R) (core_clauses b core_says) asked ∷ []))
          (answer_in Γ i l j m l₀ r) $ frees_all r _ _ $
          suffices ! _ (ends_at 𝓛 (entry_ended S N b) (stayed S N b) (entry_clauses b entry_says) ((κs, qs, bounds, a, (mut_vals a.0, vss)), tt) _ (R.answer r) (R.state r, back b κs a.1 ws.1) (tt, fits b κs a.1 (back b κs a.1 ws.1))) $
          gives S ! N κs.0 qs.0 a.0 (R.state r) (R.answer r) (has_of κs (here b) (all yes (here b)) (passed_on (here b) (all yes (here b))) a.1 (back b κs a.1 ws.1) vss) is
          (had 𝓛 b κs a.1 ws.1 vss) (told κs a r ws)))

  -- up to the call: the parameters are stored in their locals, the state is copied and a slice that is written is handed on, and all go to the core
  module _ (𝓛 : Logic 𝓤) (core : Callee) (C : Calls 𝓤 𝓛.H) (Λ : Loops 𝓤 𝓛.H) (fm : FmC 𝓤 𝓛.H 𝓛.laws C) where
    open 𝓛 use {H}

    walks : (b : Beside) (core_says : Ensures 𝓤 (core_ended S N b R)) (entry_says : Ensures 𝓤 (entry_ended S N b)) → Told b core_says entry_says
        → Triple 𝓤 (C core) (contract_of 𝓛 (core_ended S N b R) (core_clauses b core_says))
        → Walks 𝓛 (entry_ended S N b) (stayed S N b) (WpFn 𝓤 H C Λ (updating S N b R.name core)) (entry_clauses b entry_says)
    walks alone core_says entry_says told known = walked 𝓛 (entry_ended S N alone) (stayed S N alone) (entry_clauses alone entry_says) (WpFn 𝓤 H C Λ (updating S N alone R.name core))
        (λ κs. (mut_vals, tt)) (λ κs. (mut_Tells (named 0) κs.0 (the_row S), tt)) (λ κs qs bounds a _ are.
        enters_mut S 𝓛 κs.0 qs.0 a.0 (emp 𝓤) ftrue C Λ (updating S N alone R.name core) (mut_vals a.0) _ (λ bs.
        params1 ! $ pass1 ! (init ! 7 refl (tt, tt)) $ pass0 ! $ copies S ! κs.0 qs.0 a.0 refl refl (λ was. move ! (4 ∷ 5 ∷ []) $
        finishes alone core_says entry_says told 𝓛 core C Λ fm known κs qs bounds a tt tt was (and_then ! (operand ! 5 refl) (no_more !))
        refl (λ r. refl) (λ r. refl) (λ r. refl) (λ r. refl) (λ r. refl) (λ r. refl) (λ r. refl) (λ r Δ g. step (λ s. leaves ! $ leaves ! $ leaves ! $ leaves ! $ leaves ! $ free0 ! $ s)))))
    walks reads core_says entry_says told known = walked 𝓛 (entry_ended S N reads) (stayed S N reads) (entry_clauses reads entry_says) (WpFn 𝓤 H C Λ (updating S N reads R.name core))
        (λ κs. (mut_vals, (shr_slice_vals, tt))) (λ κs. (mut_Tells (named 0) κs.0 (the_row S), (shr_slice_Tells (named 1) κs.1.0 u8, tt))) (λ κs qs bounds a _ are.
        let vals : List Val × Unit {0} = (shr_slice_vals a.1.0, tt) in
        enters_mut S 𝓛 κs.0 qs.0 a.0 (alive 𝓛 (core_ended S N reads R).signature κs.1 qs.1) (owns (types_at (there reads) κs.1) a.1 vals) C Λ (updating S N reads R.name core) (mut_vals a.0 ++ shr_slice_vals a.1.0) _ (λ bs.
        params1 ! $ pass1 ! (init ! 7 refl (tt, tt)) $ pass1 ! (init ! 9 refl (tt, (tt, (record { fits = are.1.0.0.1.0 }, tt)))) $ pass0 ! $ copies S ! κs.0 qs.0 a.0 refl refl (λ was. move ! (4 ∷ 5 ∷ []) $
        finishes reads core_says entry_says told 𝓛 core C Λ fm known κs qs bounds a vals vals was (and_then ! (operand ! 5 refl) (and_then ! (operand ! 5 refl) (no_more !)))
        refl (λ r. refl) (λ r. refl) (λ r. refl) (λ r. refl) (λ r. refl) (λ r. refl) (λ r. refl) (λ r Δ g. step (λ s. leaves ! $ leaves ! $ leaves ! $ leaves ! $ leaves ! $ leaves ! $ free0 ! $ s)))))
    walks reads-writes core_says entry_says told known = walked 𝓛 (entry_ended S N reads-writes) (stayed S N reads-writes) (entry_clauses reads-writes entry_says) (WpFn 𝓤 H C Λ (updating S N reads-writes R.name core))
        (λ κs. (mut_vals, (shr_slice_vals, (mut_slice_vals, tt)))) (λ κs. (mut_Tells (named 0) κs.0 (the_row S), (shr_slice_Tells (named 1) κs.1.0 u8, (mut_slice_Tells (named 2) κs.1.1.0 u8, tt)))) (λ κs qs bounds a _ are.
        let vals : List Val × (List Val × Unit {0}) = (shr_slice_vals a.1.0, (mut_slice_vals a.1.1.0, tt)) in
        enters_mut S 𝓛 κs.0 qs.0 a.0 (alive 𝓛 (core_ended S N reads-writes R).signature κs.1 qs.1) (owns (types_at (there reads-writes) κs.1) a.1 vals) C Λ (updating S N reads-writes R.name core)
        (mut_vals a.0 ++ shr_slice_vals a.1.0 ++ mut_slice_vals a.1.1.0) _ (λ bs.
        params1 ! $ pass1 ! (init ! 7 refl (tt, tt)) $ pass1 ! (init ! 9 refl (tt, (tt, (record { fits = are.1.0.0.1.0 }, tt)))) $ pass1 ! (init ! 11 refl (tt, (tt, (record { fits = are.1.1.0.0.1.0 }, tt)))) $ pass0 ! $
        copies S ! κs.0 qs.0 a.0 refl refl (λ was. hands_on ! 6 a.1.1.0 are.1.1.0.0.1 refl refl refl refl refl $ move ! (4 ∷ 5 ∷ []) $
        finishes reads-writes core_says entry_says told 𝓛 core C Λ fm known κs qs bounds a vals vals was (and_then ! (operand ! 5 refl) (and_then ! (operand ! 5 refl) (and_then ! (operand ! 5 refl) (no_more !))))
        refl (λ r. refl) (λ r. refl) (λ r. refl) (λ r. refl) (λ r. refl) (λ r. refl) (λ r. refl) (λ r Δ g. step (λ s. leaves ! $ leaves ! $ leaves ! $ leaves ! $ leaves ! $ leaves ! $ leaves ! $ leaves ! $ leaves ! $ free0 ! $ s)))))

  -- an entry of this code meets its contract, given what its core says and that its core meets its own
  pub updates : (b : Beside) (core_says : Ensures 𝓤 (core_ended S N b R)) (entry_says : Ensures 𝓤 (entry_ended S N b)) → Told b core_says entry_says
      → (𝓛 : Logic 𝓤) (𝓜 : Model 𝓤 𝓛.H) (𝓡 : Running 𝓤 𝓛.H 𝓜) (names : Names) (entry core : Callee)
      → Closed 𝓤 𝓛.H (tables 𝓤 𝓛.H 𝓜 𝓡 names).C (tables 𝓤 𝓛.H 𝓜 𝓡 names).Λ entry (updating S N b R.name core)
      → (r : Routine) → names core ≡ r → Triple 𝓤 (𝓡.run r) (contract_of 𝓛 (core_ended S N b R) (core_clauses b core_says))
      → Triple 𝓤 (𝓡.run (names entry)) (contract_of 𝓛 (entry_ended S N b) (entry_clauses b entry_says))
  updates b core_says entry_says told 𝓛 𝓜 𝓡 names entry core closed r is met = entry_meets 𝓛 𝓜 𝓡 (entry_ended S N b) (entry_clauses b entry_says) (stayed S N b)
      (updated_goes S 𝓛 (count b) (here b) (all yes (here b))) names entry (updating S N b R.name core) closed (contract_of 𝓛 (core_ended S N b R) (core_clauses b core_says)) core r is met
      (λ C Λ fm known. walks 𝓛 core C Λ fm b core_says entry_says told known)
