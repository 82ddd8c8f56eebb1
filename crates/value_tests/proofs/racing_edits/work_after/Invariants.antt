use Rattle.std.proofs.Common.{◌≡◌}
use Rattle.value_tests.proofs.racing_edits.work_after.Given as goal

abbrev pub invariant-loop : goal.invariant-loop
invariant-loop l = (l.owner.pass ≡ l.fn.owner.pass) × (l.owner.value ≡ l.fn.owner.value)
