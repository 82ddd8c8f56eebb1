use Rattle.std.proofs.Common.{sym, ap, ◌∙◌, arith}
use Rattle.text_spec.specs.Offsets.{start, down}
use Rattle.text_spec.specs.Views.{width_in}
use Rattle.text_spec.proofs.Walk.{down-start, start-mono}
use Rattle.text_spec.proofs.Widths.{width_some}
use Rattle.value_tests.proofs.readers.backward.Goals as goal

pub fill_backward-size-requires-clause-boundary : goal.fill_backward-size-requires-clause-boundary
fill_backward-size-requires-clause-boundary g c =
    let t = g.T.Text.part c.args.t.now in
    let w = width_in t.storage in
    ap (λ p. start w t.whole (down w t.whole p)) c.high-high.ensures.value
    ∙ ap (start w t.whole) (down-start w (width_some t.storage) t.whole t.end c.high-high.ensures.inside)
    ∙ sym c.high-high.ensures.value

pub fill_backward-size-requires-clause-low : goal.fill_backward-size-requires-clause-low
fill_backward-size-requires-clause-low g c =
    let t = g.T.Text.part c.args.t.now in
    omega (arith, c.high-high.ensures.value, start-mono (width_in t.storage) t.whole t.first t.end c.low-low.ensures.order)
