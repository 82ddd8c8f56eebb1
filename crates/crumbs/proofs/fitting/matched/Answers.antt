use Rattle.std.proofs.Common.{arith}
use Rattle.crumbs.proofs.Growing.{multiple_most}
use Rattle.crumbs.proofs.fitting.matched.Goals as goal

pub overflow_mul-next : goal.overflow_mul-next
overflow_mul-next c =
    omega (arith, multiple_most c.due.next c.args.stride c.args.stop c.due.invariant.last)
