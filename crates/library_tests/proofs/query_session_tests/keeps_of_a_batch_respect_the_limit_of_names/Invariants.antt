use Rattle.std.proofs.Common.{◌≡◌, false}
use Rattle.library_tests.proofs.query_session_tests.keeps_of_a_batch_respect_the_limit_of_names.Given as goal

abbrev pub invariant-loop-line : goal.invariant-loop-line
invariant-loop-line g l = l.session.failed ≡ false

abbrev pub invariant-loop-number : goal.invariant-loop-number
invariant-loop-number g l = l.session.failed ≡ false
