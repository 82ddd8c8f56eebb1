use Rattle.std.proofs.Common.{◌≡◌, false}
use Rattle.library_tests.proofs.query_session_tests.batches_work_on_copies_and_keep_what_they_leave.Given as goal

abbrev pub invariant-loop-line : goal.invariant-loop-line
invariant-loop-line g l = l.session.failed ≡ false
