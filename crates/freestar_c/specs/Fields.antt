-- What was read from a block as numbers: after a refusal the type and the length of the data are 0.
use Rattle.refusal.specs.Refusal.{Result, accepted, refused, none}
use Rattle.freestar_packet.specs.declared.Message.{Message}
use Rattle.freestar_c.specs.declared.MessageFields.{MessageFields}

abbrev pub message_fields : Result Message → MessageFields
message_fields (accepted m) = record { refusal = none; kind = m.kind; data_length = m.data_length }
message_fields (refused n) = record { refusal = n; kind = 0; data_length = 0 }
