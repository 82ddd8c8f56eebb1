use Rattle.std.proofs.Common.{◌<◌, ◌≤◌, ℕ, [], length, get_or}
use Rattle.literal_rows.proofs.rows.first_too_long.Given as goal

abbrev pub invariant-loop-number : goal.invariant-loop-number
invariant-loop-number l = (m : ℕ) → m < l.number → length (get_or l.literals m []) ≤ l.most
