-- What include/coyote.h has for a charge that was imported.
use Rattle.refusal.specs.Refusal.{Result, accepted, refused, none}
use Rattle.coyote_charge.specs.declared.Charge.{Charge}
use Rattle.coyote_c.specs.declared.ChargeFields.{ChargeFields}

-- the number of the refusal or none, and the charge, whose numbers are 0 after a refusal
abbrev pub charge_fields : Result Charge → ChargeFields
charge_fields (accepted c) = record { refusal = none; input = c.input.0; readout = c.readout }
charge_fields (refused n) = record { refusal = n; input = 0; readout = 0 }
