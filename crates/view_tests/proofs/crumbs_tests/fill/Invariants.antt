use Rattle.std.proofs.Common.{◌≡◌, take, ◌++◌}
use Rattle.view_tests.proofs.crumbs_tests.fill.Given as goal

abbrev pub invariant-loop-k : goal.invariant-loop-k
invariant-loop-k g l = l.draft ≡ record l.fn.draft { written = l.fn.draft.written ++ take l.k l.words }
