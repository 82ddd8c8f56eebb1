use Rattle.std.proofs.Common.{◌++◌}
use Rattle.made_input.specs.Made.{comma, job, after_ops}
use Rattle.made_input.proofs.Turns.{Put}
use Rattle.made_input.proofs.ops.put_jobs.Given as goal

abbrev pub invariant-loop-number : goal.invariant-loop-number
invariant-loop-number l = Put (λ j y. comma j ++ job l.units j y) (λ j. after_ops) 8 l.number l.fn.draws.state l.draws.state l.fn.line l.line
