use Rattle.std.proofs.Common.{◌≡◌, false}
use Rattle.library_tests.proofs.query_session_tests.lines_get_the_replies_worked_out_by_hand.Given as goal

abbrev pub invariant-loop-line : goal.invariant-loop-line
invariant-loop-line g l = l.session.failed ≡ false
