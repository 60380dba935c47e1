-- The contents are put behind the head.
use Rattle.cdi_image.proofs.Puts.{put_in_rest}
use Rattle.cdi_image.proofs.write.write_image.Goals as goal

pub returns : goal.returns
returns c = put_in_rest c.write_head.ensures c.write_contents.ensures c.requires
