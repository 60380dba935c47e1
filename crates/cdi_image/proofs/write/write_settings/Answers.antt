-- Each row is put behind what stands before it, since a row has five bytes.
use Rattle.std.proofs.Common.{◌≡◌, ℕ, List, length, refl, ap, ◌∙◌, arith, rules}
use Rattle.std.proofs.Math.Seq.{sets}
use Rattle.cdi_state.specs.State.{input_bytes, input_at}
use Rattle.cdi_image.specs.Image.{settings11_to15}
use Rattle.cdi_image.specs.Put.{Put}
use Rattle.cdi_image.proofs.Puts.{put-behind}
use Rattle.cdi_image.proofs.write.write_settings.Goals as goal

pub returns : goal.returns
returns c =
    let x = c.args.settings.now in
    let t1 = c.put.new.buffer in
    let t2 = c.put-2.new.buffer in
    let t3 = c.put-3.new.buffer in
    let made1 : c.from.result ≡ input_bytes (input_at x 1) = c.from.ensures in
    let made2 : c.from-2.result ≡ input_bytes (input_at x 2) = c.from-2.ensures in
    let long1 : length c.from.result ≡ 5 = search rules in
    let long2 : length c.from-2.result ≡ 5 = search rules in
    let single : Put c.args.contents.now 28 (settings11_to15 x) 33 t1 = record { ends = refl; stored = c.put.ensures } in
    let input1 : Put t1 33 (input_bytes (input_at x 1)) 38 t2 = record {
      ends = omega (arith, ap length made1, long1);
      stored = c.put-2.ensures ∙ ap (λ (q : List ℕ). sets t1 33 q) made1;
    } in
    let input2 : Put t2 38 (input_bytes (input_at x 2)) 43 t3 = record {
      ends = omega (arith, ap length made2, long2);
      stored = c.put-3.ensures ∙ ap (λ (q : List ℕ). sets t2 38 q) made2;
    } in
    put-behind (put-behind single input1) input2
