use Rattle.std.proofs.Common.{◌≡◌, false}
use Rattle.library_tests.proofs.query_session_tests.no_more_than_256_names_are_in_use.Given as goal

abbrev pub invariant-loop-number : goal.invariant-loop-number
invariant-loop-number g l = l.session.failed ≡ false

abbrev pub invariant-loop-line : goal.invariant-loop-line
invariant-loop-line g l = l.session.failed ≡ false
