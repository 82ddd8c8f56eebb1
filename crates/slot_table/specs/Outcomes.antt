-- How an install went, as the side that was found. Read by callers.
use Rattle.std.specs.Prelude.{ℕ, Option, Some, None}
use Rattle.slot_table.specs.declared.side.Installed.{Installed}
use Rattle.slot_table.specs.declared.side.Installed.TheVariants.{Won, Lost}

abbrev pub found_by : Installed → Option ℕ
found_by Won = None
found_by (Lost found) = Some found
