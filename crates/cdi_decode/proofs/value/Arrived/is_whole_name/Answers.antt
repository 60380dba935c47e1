-- A name is whole if its last byte is a 00, none before it is one, and these are sixteen at most.
use Rattle.std.proofs.Common.{◌≡◌, [], ◌∷◌, ◌++◌, length, false, ltb, rules, sym, ap, ◌∙◌}
use borrow.Author.Tests.{eq-eqb, ne_eqb, lt-ltb}
use Rattle.cdi_decode.specs.Scan.{is_whole_value}
use Rattle.cdi_decode.proofs.Shapes.{name-length}
use Rattle.cdi_decode.proofs.Wholes.{split_name}
use Rattle.cdi_decode.proofs.Zeros.{zero-list_any}
use Rattle.cdi_decode.proofs.value.Arrived.is_whole_name.Goals as goal
use Rattle.cdi_decode.proofs.value.Arrived.is_whole_name.Goals.{then-last-eq0, else-last-eq0}

pub returns-then-before-lt-NAME_LENGTH : goal.returns-then-before-lt-NAME_LENGTH
returns-then-before-lt-NAME_LENGTH c =
    let x = c.args.self.now.item in
    let front = c.in-Some.before.now in
    let last = c.in-Some.last.now in
    let e : c.args.self.now.bytes.now ≡ front ++ (last ∷ []) = search rules in
    let short = c.if-before-lt-NAME_LENGTH.true in
    sym
    (ap (is_whole_value x) e ∙ split_name x c.requires (name-length x c.args.self.now.served c.requires) front last ∙
    rw (eq-eqb last 0 short.0, lt-ltb (length front) 17 short.1, zero-list_any front, ← c.contains.ensures.value))

pub returns-else-before-lt-NAME_LENGTH : goal.returns-else-before-lt-NAME_LENGTH
returns-else-before-lt-NAME_LENGTH c =
    let x = c.args.self.now.item in
    let front = c.in-Some.before.now in
    let last = c.in-Some.last.now in
    let e : c.args.self.now.bytes.now ≡ front ++ (last ∷ []) = search rules in
    let whole = ap (is_whole_value x) e ∙ split_name x c.requires (name-length x c.args.self.now.served c.requires) front last in
    elim c.if-last-eq0.branch [
      | then-last-eq0 w ↦
          let long : ltb (length front) 17 ≡ false = search rules in
          w.t-8-is ∙ long ∙ sym (whole ∙ rw (eq-eqb last 0 w.if-last-eq0.true, long))
      | else-last-eq0 w ↦ w.t-8-is ∙ sym (whole ∙ rw (ne_eqb last 0 w.if-last-eq0.false))
    ]
