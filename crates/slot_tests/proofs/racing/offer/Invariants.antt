use Rattle.std.proofs.Common.{◌≡◌, ◌<◌, length}
use Rattle.slot_tests.proofs.racing.offer.Given as goal

abbrev pub invariant-loop : goal.invariant-loop
invariant-loop l = (l.reference.heap ≡ l.holder.pass.heap) × (l.holder.pass.heap ≡ l.fn.holder.pass.heap) × (0 < length l.reference.known)
