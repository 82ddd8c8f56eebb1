use Rattle.std.proofs.Common.{◌≡◌}
use Rattle.slot_tests.proofs.racing.publish_often.Given as goal

abbrev pub invariant-loop-word : goal.invariant-loop-word
invariant-loop-word l = (l.holder.pass.heap ≡ l.fn.holder.pass.heap) × (l.holder.held ≡ l.fn.holder.held)
