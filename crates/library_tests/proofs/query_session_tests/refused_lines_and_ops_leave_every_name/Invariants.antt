use Rattle.std.proofs.Common.{◌≡◌, false}
use Rattle.library_tests.proofs.query_session_tests.refused_lines_and_ops_leave_every_name.Given as goal

abbrev pub invariant-loop-line : goal.invariant-loop-line
invariant-loop-line g l = l.session.failed ≡ false

abbrev pub invariant-loop-refused : goal.invariant-loop-refused
invariant-loop-refused g l = l.session.failed ≡ false

abbrev pub invariant-loop-question : goal.invariant-loop-question
invariant-loop-question g l = l.session.failed ≡ false
