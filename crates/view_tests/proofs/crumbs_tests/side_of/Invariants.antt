use Rattle.std.proofs.Common.{◌≡◌, take}
use Rattle.view_tests.proofs.crumbs_tests.side_of.Given as goal

abbrev pub invariant-loop-j : goal.invariant-loop-j
invariant-loop-j g l = record { same : l.reference ≡ l.fn.reference; front : l.words.items ≡ take l.j l.fn.reference.side_words }
