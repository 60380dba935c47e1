-- The examples hold, by computation.
-- Assumes nothing.
use mathlib.Core.Path.{◌≡◌, refl}
use lib.ListN.{length}
use Rattle.logic.specs.Written.{written}
use Rattle.checksum.specs.Checksum.{byte_sum}
use Rattle.coyote_packet.specs.Layout.{packet_bytes, payload_of, targets_before, is_accepted}
use Rattle.coyote_packet.specs.Read.{read_addressed, read_memory, read_success, read_failure, read_payload, read_packet}
use Rattle.coyote_encode.specs.Encode.{encode}
use Rattle.coyote_charge.specs.Charge.{export_charge, import_charge}
use Rattle.coyote_examples.specs.Examples.{examples, AllHold}

pub example_count : length examples ≡ 82
example_count = refl

pub examples_hold : AllHold examples
unfolding written byte_sum packet_bytes payload_of targets_before is_accepted read_addressed read_memory read_success read_failure read_payload read_packet encode export_charge import_charge
examples_hold =
    (refl, (refl, (refl, (refl, (refl, (refl, (refl, (refl, (refl, (refl, (refl, (refl, (refl, (refl, (refl, (refl, (refl, (refl, (refl, (refl, (refl, (refl, (refl, (refl, (refl, (refl, (refl, (refl, (refl, (refl, (refl, (refl, (refl, (refl, (refl, (refl, (refl, (refl, (refl, (refl, (refl, (refl, (refl, (refl, (refl, (refl, (refl, (refl, (refl, (refl, (refl, (refl, (refl, (refl, (refl, (refl, (refl, (refl, (refl, (refl, (refl, (refl, (refl, (refl, (refl, (refl, (refl, (refl, (refl, (refl, (refl, (refl, (refl, (refl, (refl, (refl, (refl, (refl, (refl, (refl, (refl, (refl, tt))))))))))))))))))))))))))))))))))))))))))))))))))))))))))))))))))))))))))))))))))
