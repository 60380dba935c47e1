-- What is read of a payload as the response to each command, once the payload that was sent is validated to it.
-- Assumes nothing.
use Prim.Native.Nat.{ℕ, ◌≤◌}
use mathlib.Core.Path.{◌≡◌, refl, sym, ap, ◌∙◌, subst}
use mathlib.Core.Bool.{true, false, true≢false}
use mathlib.Core.List.{List, ◌∷◌}
use native.Mathlib.Omega.{arith}
use borrow.Author.Tests.{eqb-true}
use lib.Dec.{eqb}
use lib.ListN.{length, get_or}
use Rattle.logic.proofs.Choice.{by_cases, either, neither}
use Rattle.refusal.specs.Refusal.{accepted}
use Rattle.cdi_item.specs.declared.Item.{Item}
use Rattle.cdi_item.specs.Items.{item_of}
use Rattle.cdi_command.specs.declared.Index.{Index}
use Rattle.cdi_command.specs.declared.Command.{Command}
use Rattle.cdi_command.specs.declared.Command.TheVariants.{Read, ReadIndexed, ReadNv, ReadNvIndexed, Write, WriteIndexed, Program, ProgramIndexed, SetDefault, EraseAll}
use Rattle.cdi_command.specs.Command.{read, read_nv, write, set_default, payload_code, select, command_on, validate_payload}
use Rattle.cdi_command.specs.Check.{is_read_code, bare_command, index_of, command_in}
use Rattle.cdi_command.specs.Payload.{command_payload, ack_response, no_error}
use Rattle.cdi_command.specs.Kind.{is_read}
use Rattle.cdi_command.proofs.Accepted.{accepted_well_formed, accepted-payload}
use Rattle.cdi_decode.specs.Scan.{read_head}
use Rattle.cdi_decode.specs.Follow.{no_value}
use Rattle.cdi_decode.specs.Decode.{read_as, read_payload}

-- a read: its response has the kind, the arguments again, and a value of the item
pub record Reads (x : Item) (c : Command) (sent : List ℕ) : Type 0 where
  pub listed : item_of x.code ≡ accepted x
  pub some : 2 ≤ length sent
  pub few : length sent ≤ 3
  pub as_read : (p : List ℕ) → read_payload c p ≡ read_as (read_head sent) x (length sent) p

module _ (sent : List ℕ) (x : Item) where
  read_plain : validate_payload sent ≡ accepted (Read x) → Reads x (Read x) sent
  unfolding read_payload
  read_plain is =
      let w = accepted_well_formed sent (Read x) is in
      rw (← accepted-payload sent (Read x) is) (record { listed = w.listed; some = omega arith; few = omega arith; as_read = λ p. refl })

  read-row : (i : Index) → validate_payload sent ≡ accepted (ReadIndexed x i) → Reads x (ReadIndexed x i) sent
  unfolding read_payload
  read-row i is =
      let w = accepted_well_formed sent (ReadIndexed x i) is in
      rw (← accepted-payload sent (ReadIndexed x i) is) (record { listed = w.0.listed; some = omega arith; few = omega arith; as_read = λ p. refl })

  read_nv-plain : validate_payload sent ≡ accepted (ReadNv x) → Reads x (ReadNv x) sent
  unfolding read_payload
  read_nv-plain is =
      let w = accepted_well_formed sent (ReadNv x) is in
      rw (← accepted-payload sent (ReadNv x) is) (record { listed = w.listed; some = omega arith; few = omega arith; as_read = λ p. refl })

  read_nv-row : (i : Index) → validate_payload sent ≡ accepted (ReadNvIndexed x i) → Reads x (ReadNvIndexed x i) sent
  unfolding read_payload
  read_nv-row i is =
      let w = accepted_well_formed sent (ReadNvIndexed x i) is in
      rw (← accepted-payload sent (ReadNvIndexed x i) is) (record { listed = w.0.listed; some = omega arith; few = omega arith; as_read = λ p. refl })

  -- what is said of a command, said of the one that the payload is
  as_about : (c : Command) → command_in x sent ≡ c → validate_payload sent ≡ accepted (command_in x sent) → (validate_payload sent ≡ accepted c → Reads x c sent)
      → Reads x (command_in x sent) sent
  as_about c e is r = subst (λ (d : Command). Reads x d sent) (sym e) (r (is ∙ ap accepted e))

  pub reads-value : validate_payload sent ≡ accepted (command_in x sent) → is_read_code (get_or sent 0 0) ≡ true → Reads x (command_in x sent) sent
  unfolding command_on select
  reads-value is reads =
      either (eqb (get_or sent 0 0) read) (eqb (get_or sent 0 0) read_nv) reads
      (λ t.
      let e = eqb-true (get_or sent 0 0) read t in
      by_cases x.indexed (λ i. as_about (ReadIndexed x (index_of x (get_or sent 2 0))) (rw (e, i)) is (read-row (index_of x (get_or sent 2 0))))
      (λ i. as_about (Read x) (rw (e, i)) is read_plain))
      (λ t.
      let e = eqb-true (get_or sent 0 0) read_nv t in
      by_cases x.indexed (λ i. as_about (ReadNvIndexed x (index_of x (get_or sent 2 0))) (rw (e, i)) is (read_nv-row (index_of x (get_or sent 2 0))))
      (λ i. as_about (ReadNv x) (rw (e, i)) is read_nv-plain))

  other-command : is_read_code (get_or sent 0 0) ≡ false → is_read (command_in x sent) ≡ false
  unfolding command_on select
  other-command other =
      let p = neither (eqb (get_or sent 0 0) read) (eqb (get_or sent 0 0) read_nv) other in
      by_cases x.indexed (λ i. rw (i, p.0, p.1) (by_cases (eqb (get_or sent 0 0) write) (λ u. rw u) (λ u. rw u)))
      (λ i. rw (i, p.0, p.1) (by_cases (eqb (get_or sent 0 0) write) (λ u. rw u) (λ u. rw u)))

-- another command: its response has two bytes and the payload again
echoed : (c : Command) (p : List ℕ) → is_read c ≡ false → read_payload c p ≡ read_as (ack_response ∷ no_error ∷ command_payload c) no_value 2 p
unfolding read_payload
echoed (Read x) p e = absurd (true≢false e)
echoed (ReadIndexed x i) p e = absurd (true≢false e)
echoed (ReadNv x) p e = absurd (true≢false e)
echoed (ReadNvIndexed x i) p e = absurd (true≢false e)
echoed (Write x v) p e = refl
echoed (WriteIndexed x i v) p e = refl
echoed (Program x v) p e = refl
echoed (ProgramIndexed x i v) p e = refl
echoed SetDefault p e = refl
echoed EraseAll p e = refl

module _ (sent p : List ℕ) where
  as_echo_of : (c : Command) → validate_payload sent ≡ accepted c → is_read c ≡ false → read_payload c p ≡ read_as (ack_response ∷ no_error ∷ sent) no_value 2 p
  as_echo_of c is other = echoed c p other ∙ ap (λ (l : List ℕ). read_as (ack_response ∷ no_error ∷ l) no_value 2 p) (accepted-payload sent c is)

  -- on an item
  pub item_echo : (x : Item) → validate_payload sent ≡ accepted (command_in x sent) → is_read_code (get_or sent 0 0) ≡ false
      → read_payload (command_in x sent) p ≡ read_as (ack_response ∷ no_error ∷ sent) no_value 2 p
  item_echo x is other = as_echo_of (command_in x sent) is (other-command sent x other)

  -- and on none
  pub bare_echo : validate_payload sent ≡ accepted (bare_command (payload_code sent))
      → read_payload (bare_command (payload_code sent)) p ≡ read_as (ack_response ∷ no_error ∷ sent) no_value 2 p
  bare_echo is = as_echo_of (bare_command (payload_code sent)) is (by_cases (eqb (payload_code sent) set_default) (λ u. rw u) (λ u. rw u))
