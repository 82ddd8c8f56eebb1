use Rattle.std.proofs.Common.{◌≡◌, ◌+◌, length}
use Rattle.made_input.specs.Made.{made}
use Rattle.query_program.proofs.summary.length_of.Given as goal

abbrev pub invariant-loop-count : goal.invariant-loop-count
invariant-loop-count l = l.total + length l.input ≡ length (made l.fn.asked.number l.fn.asked.lines)

abbrev pub decreases-loop-count : goal.decreases-loop-count
decreases-loop-count l = length l.input
