use Rattle.std.proofs.Common.{◌≡◌, true}
use Rattle.view_tests.proofs.crumbs_tests.check_questions.Given as goal

abbrev pub invariant-loop-p : goal.invariant-loop-p
invariant-loop-p g l = (goal.iterator-loop-p g).can_next l.p-iterator × (goal.iterator-loop-p g).is_finite l.p-iterator × (l.t.2 ≡ true)
