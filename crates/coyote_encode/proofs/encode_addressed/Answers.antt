-- `encode_addressed` meets its contract: sixteen targets and 1,023 bytes of data are few enough for `write`.
use Rattle.std.proofs.Common.{length, sym, ◌∙◌, arith}
use Rattle.coyote_packet.proofs.Fits.{targets-length, data_size}
use Rattle.coyote_encode.proofs.encode_addressed.Goals as goal

pub write-requires : goal.write-requires
write-requires c =
    omega (
      arith,
      targets-length c.args.route.targets.now (sym c.fits_targets.ensures ∙ c.if-not-fits_targets.false),
      data_size c.args.kind (length c.args.content.now) (sym c.fits_data.ensures ∙ c.if-not-fits_data.false),
    )
