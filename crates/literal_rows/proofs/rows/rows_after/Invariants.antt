use Rattle.std.proofs.Common.{◌≡◌, take}
use Rattle.literal_rows.specs.Rows.{rows_of, row_starts}
use Rattle.literal_rows.proofs.rows.rows_after.Given as goal

abbrev pub invariant-loop-number : goal.invariant-loop-number
invariant-loop-number l = (l.rows.items ≡ rows_of (take l.number l.literals)) × (l.starts.items ≡ row_starts l.before (take l.number l.literals))
