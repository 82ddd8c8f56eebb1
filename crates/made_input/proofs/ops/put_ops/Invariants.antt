use Rattle.std.proofs.Common.{◌++◌}
use Rattle.made_input.specs.Made.{comma, op, after_op}
use Rattle.made_input.proofs.Turns.{Put}
use Rattle.made_input.proofs.ops.put_ops.Given as goal

abbrev pub invariant-loop-number : goal.invariant-loop-number
invariant-loop-number l = Put (λ t y. comma t ++ op l.units t y) after_op 210 l.number l.fn.draws.state l.draws.state l.fn.line l.line
