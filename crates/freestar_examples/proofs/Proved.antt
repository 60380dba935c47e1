-- The examples hold, by computation.
-- Assumes nothing.
use mathlib.Core.Path.{◌≡◌, refl}
use lib.ListN.{length}
use Rattle.logic.specs.Written.{written}
use Rattle.checksum.specs.Checksum.{byte_sum}
use Rattle.freestar_packet.specs.Layout.{fits_in, packet_bytes}
use Rattle.freestar_packet.specs.Read.{read_frame, read_packet}
use Rattle.freestar_packet.specs.Encode.{encode}
use Rattle.freestar_settings.specs.Settings.{answer, stored, validate, result_of, step}
use Rattle.freestar_examples.specs.Examples.{examples, AllHold}

pub example_count : length examples ≡ 77
example_count = refl

pub examples_hold : AllHold examples
unfolding written byte_sum fits_in packet_bytes read_frame read_packet encode answer stored validate result_of step
examples_hold =
    (refl, (refl, (refl, (refl, (refl, (refl, (refl, (refl, (refl, (refl, (refl, (refl, (refl, (refl, (refl, (refl, (refl, (refl, (refl, (refl, (refl, (refl, (refl, (refl, (refl, (refl, (refl, (refl, (refl, (refl, (refl, (refl, (refl, (refl, (refl, (refl, (refl, (refl, (refl, (refl, (refl, (refl, (refl, (refl, (refl, (refl, (refl, (refl, (refl, (refl, (refl, (refl, (refl, (refl, (refl, (refl, (refl, (refl, (refl, (refl, (refl, (refl, (refl, (refl, (refl, (refl, (refl, (refl, (refl, (refl, (refl, (refl, (refl, (refl, (refl, (refl, (refl, tt)))))))))))))))))))))))))))))))))))))))))))))))))))))))))))))))))))))))))))))
