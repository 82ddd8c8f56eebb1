use Rattle.std.proofs.Common.{◌≡◌}
use Rattle.text_spec.specs.declared.encoding.Encoding.TheVariants.{Utf16}
use Rattle.text_spec.specs.Views.{size_in}
use Rattle.view_tests.proofs.word_units_tests.units_read.Given as goal

abbrev pub invariant-loop-p : goal.invariant-loop-p
invariant-loop-p g l = (l.t ≡ l.fn.t) × (l.end ≡ size_in Utf16 (g.T.Text.part l.fn.t).whole)
