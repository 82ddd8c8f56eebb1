-- Why a run ends early, and the status that says so.
use Rattle.std.specs.Prelude.{ℕ}
use Rattle.query_program.specs.declared.stop.Stop.{Stop}
use Rattle.query_program.specs.declared.stop.Stop.TheVariants.{ReadFault, WriteFault, OutOfMemory, LineTooLong, InputTooLong}

abbrev pub status_of : Stop → ℕ
status_of ReadFault = 3
status_of WriteFault = 4
status_of OutOfMemory = 5
status_of LineTooLong = 6
status_of InputTooLong = 7
