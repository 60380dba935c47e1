-- The theorem on the reader, from what the module responds and from which bytes may follow one another.
-- Assumes nothing.
use Prim.Native.Nat.{ℕ, suc, ◌+◌, ◌-◌, ◌<◌, ◌≤◌}
use mathlib.Core.Path.{◌≡◌, refl, sym, ap, ◌∙◌, subst}
use mathlib.Core.Bool.{Bool, true, false, cond, ◌&&◌, true≢false, and-eq-true_iff}
use mathlib.Core.List.{List, [], ◌∷◌, ◌++◌, append-nil}
use native.Mathlib.Omega.{arith}
use borrow.Author.Tests.{eqb-true, eq-eqb, leb-true}
use lib.Dec.{eqb}
use lib.ListN.{length, get_or, take, drop, length-take, length-drop}
use lib.Seq.{length-take-le, take_all, take-take, get_or-take, drop-append_seam}
use Rattle.logic.specs.Lists.{part, Bytes}
use Rattle.logic.proofs.Choice.{by_cases}
use Rattle.refusal.specs.Refusal.{accepted}
use Rattle.cdi_item.specs.declared.Item.{Item}
use Rattle.cdi_command.specs.declared.Command.{Command}
use Rattle.cdi_command.specs.declared.Command.TheVariants.{Read, ReadIndexed, ReadNv, ReadNvIndexed, Write, WriteIndexed, Program, ProgramIndexed, SetDefault, EraseAll}
use Rattle.cdi_command.specs.Command.{validate_payload}
use Rattle.cdi_command.specs.Payload.{command_payload, ack_response, no_error, WellFormed}
use Rattle.cdi_command.specs.Kind.{is_read}
use Rattle.cdi_command.proofs.Accepted.{accepted_well_formed, accepted-payload}
use Rattle.cdi_decode.specs.Follow.{no_value, head_of, value_item, may_follow, is_whole}
use Rattle.cdi_decode.specs.Decode.{response, no_response, place_in, start_of, read_as, read_payload}
use Rattle.cdi_decode.proofs.First.{first-most, first_below, first-at}
use Rattle.cdi_state.specs.declared.ModuleState.{ModuleState}
use Rattle.cdi_value.specs.Value.{value_read}
use Rattle.cdi_value.proofs.Values.{none_read}
use Rattle.cdi_model.specs.Factory.{factory_cells}
use Rattle.cdi_module.proofs.Shown.{value-agrees}
use Rattle.cdi_responses.specs.Held.{ValidState, Held, shown, Holds, Witness}
use Rattle.cdi_responses.specs.Theorem.{Responds, Possible, Begun, told, Means, ReaderTheorem}
use Rattle.cdi_responses.proofs.Fit.{factory_fits}
use Rattle.cdi_responses.proofs.State.{state_of, state-valid}
use Rattle.cdi_responses.proofs.Held.{every_state_holds, each_is_held}
use Rattle.cdi_responses.proofs.Exchange.{responds_so, responds_only}
use Rattle.cdi_responses.proofs.Values.{Regular, listed-regular, none-regular, none-held, no_bytes}
use Rattle.cdi_responses.proofs.Payloads.{each-follows, is_whole_lem, BegunPayload, begun-payload}

-- ---- of any command: the value of a read, or none
-- the response to a command that is no read has no value, and its head is two bytes and the command's payload
acknowledged : (c : Command) → is_read c ≡ false → (value_item c ≡ no_value) × (head_of c ≡ ack_response ∷ no_error ∷ command_payload c)
acknowledged (Read x) e = absurd (true≢false e)
acknowledged (ReadIndexed x i) e = absurd (true≢false e)
acknowledged (ReadNv x) e = absurd (true≢false e)
acknowledged (ReadNvIndexed x i) e = absurd (true≢false e)
acknowledged (Write x v) e = (refl, refl)
acknowledged (WriteIndexed x i v) e = (refl, refl)
acknowledged (Program x v) e = (refl, refl)
acknowledged (ProgramIndexed x i v) e = (refl, refl)
acknowledged SetDefault e = (refl, refl)
acknowledged EraseAll e = (refl, refl)

pub start-most : (c : Command) → start_of c ≤ length (head_of c)
start-most c = by_cases (is_read c) (λ t. rw t (omega arith)) (λ f. rw (f, (acknowledged c f).1) (omega arith))

regular : (c : Command) → WellFormed c → Regular (value_item c)
regular (Read x) p = listed-regular x p.listed
regular (ReadIndexed x i) p = listed-regular x p.0.listed
regular (ReadNv x) p = listed-regular x p.listed
regular (ReadNvIndexed x i) p = listed-regular x p.0.listed
regular (Write x v) p = none-regular
regular (WriteIndexed x i v) p = none-regular
regular (Program x v) p = none-regular
regular (ProgramIndexed x i v) p = none-regular
regular SetDefault p = none-regular
regular EraseAll p = none-regular

holds : (s : ModuleState) → ValidState s → (c : Command) → WellFormed c → Holds s c
holds s v c p =
    by_cases (is_read c) (every_state_holds s v c p)
    (λ f. record { bytes = []; is_held_lem = rw (acknowledged c f).0 none-held; what_is_read = none_read s c f ∙ rw (acknowledged c f).0 refl })

witness : (c : Command) → WellFormed c → (w : List ℕ) → Held (value_item c) w → Witness c w
witness c p w h =
    by_cases (is_read c) (λ r. each_is_held c p r w h)
    (λ f.
    let empty : w ≡ [] = no_bytes w (rw (acknowledged c f).0 at h) in
    record {
      state = state_of factory_cells;
      is_valid_lem = state-valid factory_cells factory_fits;
      what_is_read = none_read (state_of factory_cells) c f ∙ rw ((acknowledged c f).0, empty) refl;
    })

module _ (sent : List ℕ) (c : Command) (is : validate_payload sent ≡ accepted c) where
  abbrev head : List ℕ
  head = head_of c

  abbrev item : Item
  item = value_item c

  well_formed : WellFormed c
  well_formed = accepted_well_formed sent c is

  -- what is held is responded with
  possible : (w : List ℕ) → Held item w → Possible sent (head ++ shown item w)
  possible w h =
      let t = witness c well_formed w h in
      record {
        state = t.state;
        is_valid_lem = t.is_valid_lem;
        responds = subst (λ (v : List ℕ). Responds t.state sent (head ++ v)) t.what_is_read (responds_so t.state t.is_valid_lem.valid sent c is);
      }

  -- ---- each byte of a response may follow those before it, and the response is whole
  record Complete (r : List ℕ) : Type 0 where
    pub follows : place_in head item r ≡ length r
    pub ends : is_whole head item r ≡ true

  complete : (r : List ℕ) → Possible sent r → Complete r
  complete r t =
      let h = holds t.state t.is_valid_lem c well_formed in
      let f = (regular c well_formed).follows h.bytes h.is_held_lem in
      let e : r ≡ head ++ shown item h.bytes =
      responds_only t.state t.is_valid_lem.valid sent c is r t.responds ∙ ap (λ (v : List ℕ). head ++ v) h.what_is_read in
      rw e (record {
        follows = each-follows head item (shown item h.bytes) f.0 f.1;
        ends = is_whole_lem head item (shown item h.bytes) f.0 f.1;
      })

  module _ (p : List ℕ) where
    abbrev place : ℕ
    place = place_in head item p

    abbrev asked : List ℕ → ℕ → Bool
    asked r i = may_follow head item (take i r) (get_or r i 0)

    place-most : place ≤ length p
    place-most = first-most (length p) (asked p)

    -- no response begins with the bytes up to the place and the one at the place
    none-begins : place < length p → Begun sent (take (suc place) p) → ⊥
    none-begins h b =
        let r = b.whole in
        let size = length-take-le (suc place) p h in
        let same : take (suc place) r ≡ take (suc place) p = ap (λ (n : ℕ). take n r) (sym size) ∙ b.begins in
        let long : suc place ≤ length r = omega (arith, ap length same, size, length-take (suc place) r) in
        let before : take place r ≡ take place p =
        sym (take-take place (suc place) r (omega arith)) ∙ ap (take place) same ∙ take-take place (suc place) p (omega arith) in
        let at : get_or r place 0 ≡ get_or p place 0 =
        sym (get_or-take (suc place) r place 0 (omega arith)) ∙ ap (λ (l : List ℕ). get_or l place 0) same ∙ get_or-take (suc place) p place 0 (omega arith) in
        let f = (complete r b.possible).follows in
        let passed : asked r place ≡ true = first_below (length r) (asked r) place (omega (arith, f, long)) in
        let wrong : asked p place ≡ false = first-at (length p) (asked p) h in
        true≢false (sym passed ∙ ap (λ (l : List ℕ). may_follow head item l (get_or r place 0)) before ∙ ap (may_follow head item (take place p)) at ∙ wrong)

    module _ (bytes : Bytes p) where
      begun : BegunPayload head item p
      begun = begun-payload head item (regular c well_formed) p bytes

      begins_so : Begun sent (take place p)
      begins_so = record {
        whole = head ++ shown item begun.bytes;
        possible = possible begun.bytes begun.is_held_lem;
        begins = ap (λ (n : ℕ). take n (head ++ shown item begun.bytes)) (length-take-le place p place-most) ∙ begun.begins;
      }

      whole-possible : place ≡ length p → is_whole head item p ≡ true → Possible sent p
      whole-possible e w = subst (Possible sent) (begun.is_payload e w) (possible begun.bytes begun.is_held_lem)

    -- ---- what is told
    rest_of : (start : ℕ) → part start (length p - start) p ≡ drop start p
    rest_of start = take_all (length p - start) (drop start p) (omega (arith, length-drop start p))

    pub tells : (s : ModuleState) → ValidState s → Responds s sent p → part (start_of c) (length p - start_of c) p ≡ told s c sent
    tells s v r =
        let e : p ≡ head ++ value_read s c = responds_only s v.valid sent c is p r in
        rest_of (start_of c) ∙
        by_cases (is_read c)
        (λ t. rw t (ap (drop (length head)) e ∙ drop-append_seam head (value_read s c) ∙ value-agrees s c well_formed))
        (λ f. rw f (ap (drop 2) (e ∙ ap (λ (v : List ℕ). head ++ v) (none_read s c f) ∙ append-nil head) ∙ ap (drop 2) (acknowledged c f).1 ∙ accepted-payload sent c is))

    -- ---- the two readings
    within : is_whole head item p ≡ true → start_of c + (length p - start_of c) ≡ length p
    unfolding is_whole
    within w = omega (arith, start-most c, leb-true (length head) (length p) ((and-eq-true_iff _ _).0 w).0)

    right : Bool
    right = eqb place (length p) && is_whole head item p

    meant : Bytes p → (t : Bool) → right ≡ t → Means c sent p (cond t (response (start_of c) (length p - start_of c)) (no_response place))
    unfolding right
    meant bytes true e =
        let b = (and-eq-true_iff (eqb place (length p)) (is_whole head item p)).0 e in
        (whole-possible bytes (eqb-true place (length p) b.0) b.1, within b.1, tells)
    meant bytes false e = (not_possible, begins_so bytes, place-most, none-begins)
      where
        not_possible : Possible sent p → ⊥
        not_possible t =
            let k = complete p t in
            true≢false (sym ((and-eq-true_iff (eqb place (length p)) (is_whole head item p)).1 (eq-eqb place (length p) k.follows, k.ends)) ∙ e)

-- a response is read as one
pub possible-read : (sent : List ℕ) (c : Command) → validate_payload sent ≡ accepted c → (r : List ℕ) → Possible sent r
    → read_payload c r ≡ response (start_of c) (length r - start_of c)
unfolding read_payload read_as
possible-read sent c is r t = let k = complete sent c is r t in rw (k.follows, eq-eqb (length r) (length r) refl, k.ends) refl

pub reader_theorem : ReaderTheorem
unfolding read_payload read_as right
reader_theorem sent p c is bytes = meant sent c is p bytes (right sent c is p) refl
