-- Nothing is put before the first slot, and each row of five bytes goes behind those before it.
use Rattle.std.proofs.Common.{ℕ, suc, ◌≡◌, ◌+◌, ◌*◌, List, length, get_or, refl, ap, ◌∙◌, add-one, arith, rules}
use Rattle.std.proofs.Math.Seq.{sets}
use mathlib.Core.List.{flat_map}
use Rattle.cdi_state.specs.State.{slot_bytes, no_slot}
use Rattle.cdi_image.specs.Put.{Put}
use Rattle.cdi_image.proofs.Cells.{flat_map_next}
use Rattle.cdi_image.proofs.Puts.{put-behind}
use Rattle.cdi_image.proofs.write.write_slots.Goals as goal

pub loop-i-init : goal.loop-i-init
unfolding flat_map
loop-i-init c = (refl, record { ends = refl; stored = refl })

pub loop-i-preserved : goal.loop-i-preserved
loop-i-preserved c =
    let i = c.loop-i.i in
    let s = c.loop-i.contents in
    let long : length c.from-row.result ≡ 5 = search rules in
    let row : Put s (43 + 5 * i) (slot_bytes (get_or c.args.slots.now i no_slot)) (43 + 5 * suc i) c.put.new.buffer = record {
      ends = omega (arith, ap length c.from-row.ensures, long);
      stored = c.put.ensures ∙ ap (λ (q : List ℕ). sets s (43 + 5 * i) q) c.from-row.ensures;
    } in
    (search rules, rw (add-one, flat_map_next slot_bytes c.args.slots.now no_slot i (search rules)) (put-behind c.loop-i.invariant.1 row))
