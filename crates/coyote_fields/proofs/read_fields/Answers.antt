-- `read_fields` meets its contract: the numbers of a packet that was read are small.
use Rattle.std.proofs.Common.{sym}
use Rattle.coyote_packet.proofs.Accepted.{accepted_laid_out}
use Rattle.coyote_fields.proofs.read_fields.Goals as goal

pub packet_fields-requires : goal.packet_fields-requires
packet_fields-requires c =
    (accepted_laid_out c.args.block.now c.in_ok-packet.packet (λ i. (c.type_inv.block i).fits) (sym c.in_ok-packet.ensures)).numbers_small
