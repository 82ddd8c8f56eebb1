use Rattle.std.proofs.Common.{sym, ap, ◌∙◌, length, arith}
use Rattle.text_spec.specs.Offsets.{start, down}
use Rattle.text_spec.specs.Views.{width_in}
use Rattle.text_spec.proofs.Walk.{start-zero, down-start}
use Rattle.text_spec.proofs.Widths.{width_some}
use Rattle.word_units.specs.Owned.{text_of}
use Rattle.view_tests.proofs.word_units_tests.backward.Goals as goal

pub fill_backward-size-requires-clause-boundary : goal.fill_backward-size-requires-clause-boundary
fill_backward-size-requires-clause-boundary g c =
    let w = width_in (c.args.t.now.1) in
    let b = text_of c.args.t.now in
    ap (λ p. start w b (down w b p)) c.high-high.ensures.value
    ∙ ap (start w b) (down-start w (width_some (c.args.t.now.1)) b (length b) (omega arith)) ∙ sym c.high-high.ensures.value

pub fill_backward-size-requires-clause-low : goal.fill_backward-size-requires-clause-low
fill_backward-size-requires-clause-low g c = omega (arith, start-zero (width_in (c.args.t.now.1)) (text_of c.args.t.now))
