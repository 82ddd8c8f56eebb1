use Rattle.std.proofs.Common.{arith}
use Rattle.batch_workers.proofs.Spreading.{spread-nothing}
use Rattle.batch_workers.proofs.workers.empty_bundles.Goals as goal

pub returns : goal.returns
returns c = (omega (arith, c.loop.invariant.count), spread-nothing c.loop.bundles.items c.loop.invariant.empty)
