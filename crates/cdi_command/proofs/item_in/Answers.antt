-- The tests are the definition's: of a command about no item the length is tested next, of any other the mark.
use Rattle.std.proofs.Common.{rules, sym, ◌∙◌}
use borrow.Author.Tests.{eq-eqb, ne_eqb}
use Rattle.cdi_command.proofs.Checks.{on_bare, on-item, looked_up}
use Rattle.cdi_command.proofs.item_in.Goals as goal

pub returns-then-payload-ne1 : goal.returns-then-payload-ne1
returns-then-payload-ne1 c =
    sym (on_bare c.args.payload.now _ (sym c.in-Some.ensures.value) (sym c.if-has_no_item.ensures) ∙ simp (ne_eqb _ _ c.if-payload-ne1.true))

pub returns-then-has_no_item : goal.returns-then-has_no_item
returns-then-has_no_item c =
    sym (on_bare c.args.payload.now _ (sym c.in-Some.ensures.value) (sym c.if-has_no_item.ensures) ∙ simp (eq-eqb _ _ c.if-payload-ne1.false))

pub returns-then-mark_of-eq0 : goal.returns-then-mark_of-eq0
returns-then-mark_of-eq0 c =
    sym (on-item c.args.payload.now _ (sym c.in-Some.ensures.value) (sym c.if-has_no_item.ensures) ∙ simp (sym c.mark_of.ensures, eq-eqb _ _ c.if-mark_of-eq0.true))

pub returns-in_default-get : goal.returns-in_default-get
returns-in_default-get c =
    sym (on-item c.args.payload.now _ (sym c.in-Some.ensures.value) (sym c.if-has_no_item.ensures) ∙ simp (sym c.mark_of.ensures, ne_eqb _ _ c.if-mark_of-eq0.false, sym c.in_default-get.ensures.lookup.0))

pub returns-in_err-find_item : goal.returns-in_err-find_item
returns-in_err-find_item c =
    let get = c.in-Some-get.ensures.lookup in
    rw (looked_up c.args.payload.now _ (sym c.in-Some.ensures.value) c.in-Some-get.field-0.now _ (sym c.if-has_no_item.ensures) c.mark_of.ensures c.if-mark_of-eq0.false (sym get.0) (sym (get.3.1 0)), ← c.in_err-find_item.ensures) (search rules)

pub returns : goal.returns
returns c =
    let get = c.in-Some-get.ensures.lookup in
    rw (looked_up c.args.payload.now _ (sym c.in-Some.ensures.value) c.in-Some-get.field-0.now _ (sym c.if-has_no_item.ensures) c.mark_of.ensures c.if-mark_of-eq0.false (sym get.0) (sym (get.3.1 0)), ← c.in_ok-find_item.ensures)
