-- The tests stand in the definition's order, and what is read behind the head is the stored part that is loaded.
use Rattle.std.proofs.Common.{length, sym, ap, ◌∙◌, eq-eqb}
use Rattle.logic.proofs.Written.{part-rest}
use Rattle.cdi_image.specs.Image.{head_size, image_v1_size, stored_in, stored_loaded, loaded}
use Rattle.cdi_image.proofs.load.Goals as goal

pub returns : goal.returns
unfolding loaded
returns c =
    let image = c.args.image.now in
    rw (
      eq-eqb (length image) image_v1_size c.if-image-ne-IMAGE_V1_SIZE.false,
      sym c.has_mark.ensures ∙ c.if-not-has_mark.false,
      sym c.has_version_1.ensures ∙ c.if-not-has_version_1.false,
    )
    (c.load_stored.ensures ∙ ap (stored_loaded c.args.state) (c.stored_in.ensures ∙ ap stored_in (part-rest head_size image)))
