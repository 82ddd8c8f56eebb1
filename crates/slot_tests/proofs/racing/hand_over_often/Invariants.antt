use Rattle.std.proofs.Common.{◌≡◌, ◌<◌, length}
use Rattle.std.specs.Prelude.{IfSome}
use Rattle.slot_tests.proofs.racing.hand_over_often.Given as goal

abbrev pub invariant-loop : goal.invariant-loop
invariant-loop g l = (l.pass.heap ≡ l.fn.pass.heap) × (l.one.pass.heap ≡ l.fn.pass.heap) × (l.other.pass.heap ≡ l.fn.pass.heap)
    × IfSome l.one.held (λ r. (r.heap ≡ l.fn.pass.heap) × (0 < length r.known)) × IfSome l.other.held (λ r. (r.heap ≡ l.fn.pass.heap) × (0 < length r.known))
