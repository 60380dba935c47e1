-- What is read stands at the front of its buffer.
use Rattle.logic.proofs.Written.{writes-front}
use Rattle.cdi_module.proofs.write_read.Goals as goal

pub returns : goal.returns
returns c = rw (c.as_slice.ensures, c.payload_of-payload.ensures, writes-front c.read-count.ensures.writes) at c.write_frame.ensures
