use Rattle.std.proofs.Common.{◌≡◌}
use Rattle.text_spec.specs.Views.{size_in}
use Rattle.view_tests.proofs.word_units_tests.floors_of.Given as goal

abbrev pub invariant-loop-p : goal.invariant-loop-p
invariant-loop-p g l = (l.t ≡ l.fn.t) × (l.end ≡ size_in (g.T.Text.part l.fn.t).storage (g.T.Text.part l.fn.t).whole)
