use Rattle.std.proofs.Common.{sym, ap, ◌∙◌, arith}
use Rattle.text_spec.specs.Offsets.{start, down}
use Rattle.text_spec.specs.Views.{width_in}
use Rattle.text_spec.proofs.Walk.{down-start, start-mono}
use Rattle.text_spec.proofs.Widths.{width_some}
use Rattle.value_tests.proofs.readers.forward.Goals as goal

pub fill_forward-size-requires-clause-boundary : goal.fill_forward-size-requires-clause-boundary
fill_forward-size-requires-clause-boundary g c =
    let t = g.T.Text.part c.args.t.now in
    let w = width_in t.storage in
    ap (λ p. start w t.whole (down w t.whole p)) c.low-low.ensures.value
    ∙ ap (start w t.whole) (down-start w (width_some t.storage) t.whole t.first
    (omega (arith, c.low-low.ensures.order, c.high-high.ensures.inside)))
    ∙ sym c.low-low.ensures.value

pub fill_forward-size-requires-clause-high : goal.fill_forward-size-requires-clause-high
fill_forward-size-requires-clause-high g c =
    let t = g.T.Text.part c.args.t.now in
    omega (arith, c.low-low.ensures.value, start-mono (width_in t.storage) t.whole t.first t.end c.low-low.ensures.order)
