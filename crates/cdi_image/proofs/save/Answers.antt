-- An image that is accepted fills the buffer.
use Rattle.std.proofs.Common.{ℕ, ◌≡◌, length, sym, ap, ◌∙◌, eq-eqb, arith}
use Rattle.refusal.specs.Refusal.{accepted}
use Rattle.cdi_image.specs.Image.{image_v1_size, image_of, saved}
use Rattle.cdi_image.proofs.Puts.{put_front}
use Rattle.cdi_image.proofs.save.Goals as goal

pub returns : goal.returns
unfolding saved
returns c =
    let image = c.args.image.now in
    let put = c.write_image.ensures in
    let size : image_v1_size ≡ length (image_of c.args.state.stored) = omega (arith, put.ends) in
    simp (eq-eqb (length image) image_v1_size c.if-image-ne-IMAGE_V1_SIZE.false, sym c.is_valid.ensures ∙ c.if-not-is_valid.false)
    (ap (λ (n : ℕ). accepted n) size, put_front put (omega arith))
