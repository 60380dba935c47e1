-- `respond` meets its contract: each arm hands the writer the type and the data of its answer.
use Rattle.std.proofs.Common.{◌≡◌, ℕ, List, [], ◌∷◌, sym, ap, ◌∙◌, arith, rules}
use mathlib.Core.Path.{subst}
use Rattle.std.specs.Prelude as std
use borrow.Author.Tests.{ne_eqb}
use Rattle.refusal.specs.declared.Refusal.{Refusal}
use Rattle.refusal.specs.Refusal.{Result}
use Rattle.refusal.specs.Numbers.{WritesIfAccepted}
use Rattle.freestar_packet.specs.Layout.{set_pan_id, query_pan_id, set_address, query_address, set_channel, query_channel, reset, answer_to}
use Rattle.freestar_packet.specs.Layout as layout
use Rattle.freestar_packet.proofs.Types.{rest_is_reset}
use Rattle.freestar_settings.specs.Settings.{answer_data}
use Rattle.freestar_settings.proofs.Answers.{as-answered}
use Rattle.freestar_settings.proofs.Settings.respond.Goals as goal

-- what a call of the writer promises, said of an equal result
abbrev Says : (before after : List ℕ) → std.Result ℕ Refusal → Result (List ℕ) → Type 0
Says before after told r = WritesIfAccepted r before after told

pub returns-in-1 : goal.returns-in-1
returns-in-1 c =
    let a = c.args in
    subst (Says a.response.now c.encode.new.packet c.encode.result)
    (as-answered a.self (search rules) c.requires.1 a.message c.requires.0 layout.set_pan_id_acknowledged [] _ (ap answer_to (sym c.in-1.is)) (ap (answer_data a.self) (sym c.in-1.is)))
    c.encode.ensures

pub returns-in-2 : goal.returns-in-2
returns-in-2 c =
    let a = c.args in
    subst (Says a.response.now c.encode-in-2.new.packet c.encode-in-2.result)
    (as-answered a.self (search rules) c.requires.1 a.message c.requires.0 layout.respond_pan_id a.self.pan_id _ (ap answer_to (sym c.in-2.is)) (ap (answer_data a.self) (sym c.in-2.is)))
    c.encode-in-2.ensures

pub returns-in-3 : goal.returns-in-3
returns-in-3 c =
    let a = c.args in
    subst (Says a.response.now c.encode-in-3.new.packet c.encode-in-3.result)
    (as-answered a.self (search rules) c.requires.1 a.message c.requires.0 layout.set_address_acknowledged [] _ (ap answer_to (sym c.in-3.is)) (ap (answer_data a.self) (sym c.in-3.is)))
    c.encode-in-3.ensures

pub returns-in-4 : goal.returns-in-4
returns-in-4 c =
    let a = c.args in
    subst (Says a.response.now c.encode-in-4.new.packet c.encode-in-4.result)
    (as-answered a.self (search rules) c.requires.1 a.message c.requires.0 layout.respond_address c.addresses.result _ (ap answer_to (sym c.in-4.is)) (c.addresses.ensures ∙ ap (answer_data a.self) (sym c.in-4.is)))
    c.encode-in-4.ensures

pub returns-in-5 : goal.returns-in-5
returns-in-5 c =
    let a = c.args in
    subst (Says a.response.now c.encode-in-5.new.packet c.encode-in-5.result)
    (as-answered a.self (search rules) c.requires.1 a.message c.requires.0 layout.set_channel_acknowledged [] _ (ap answer_to (sym c.in-5.is)) (ap (answer_data a.self) (sym c.in-5.is)))
    c.encode-in-5.ensures

pub returns-in-6 : goal.returns-in-6
returns-in-6 c =
    let a = c.args in
    subst (Says a.response.now c.encode-in-6.new.packet c.encode-in-6.result)
    (as-answered a.self (search rules) c.requires.1 a.message c.requires.0 layout.respond_channel (a.self.channel ∷ []) _ (ap answer_to (sym c.in-6.is)) (ap (answer_data a.self) (sym c.in-6.is)))
    c.encode-in-6.ensures

pub returns-in_default : goal.returns-in_default
returns-in_default c =
    let a = c.args in
    let k = a.message.kind in
    let left : k ≡ reset =
    rest_is_reset k a.message.data_length
    (ne_eqb k set_pan_id (λ e. omega arith)) (ne_eqb k query_pan_id (λ e. omega arith))
    (ne_eqb k set_address (λ e. omega arith)) (ne_eqb k query_address (λ e. omega arith))
    (ne_eqb k set_channel (λ e. omega arith)) (ne_eqb k query_channel (λ e. omega arith))
    c.requires.0
    in
    subst (Says a.response.now c.encode-in_default.new.packet c.encode-in_default.result)
    (as-answered a.self (search rules) c.requires.1 a.message c.requires.0 layout.reset_acknowledged [] _ (ap answer_to (sym left)) (ap (answer_data a.self) (sym left)))
    c.encode-in_default.ensures
