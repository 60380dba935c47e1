-- Document 01, "Items": which commands only read.
use Rattle.std.specs.Prelude.{Bool, ◌||◌, eqb}
use Rattle.cdi_command.specs.declared.Command.{Command}
use Rattle.cdi_command.specs.Command.{read, read_nv}
use Rattle.cdi_command.specs.Payload.{command_code}

abbrev pub is_read : Command → Bool
is_read c = eqb (command_code c) read || eqb (command_code c) read_nv
