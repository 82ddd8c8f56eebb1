use Rattle.std.proofs.Common.{sym, ap, ◌∙◌, arith}
use Rattle.text_spec.specs.Offsets.{start, down}
use Rattle.text_spec.specs.Views.{width_in}
use Rattle.text_spec.proofs.Walk.{start-le, down-start}
use Rattle.text_spec.proofs.Widths.{width_some}
use Rattle.word_units.proofs.fill.fill_forward.Goals as goal

pub fill-requires-clause-inside : goal.fill-requires-clause-inside
fill-requires-clause-inside g c =
    omega (arith, c.high-high.ensures.value, start-le (width_in (g.T.Text.part c.args.t.now).storage) (g.T.Text.part c.args.t.now).whole (g.T.Text.part c.args.t.now).end)

pub fill-requires-clause-end_boundary : goal.fill-requires-clause-end_boundary
fill-requires-clause-end_boundary g c =
    let w = width_in (g.T.Text.part c.args.t.now).storage in
    let b = (g.T.Text.part c.args.t.now).whole in
    ap (λ p. start w b (down w b p)) c.high-high.ensures.value
    ∙ ap (start w b) (down-start w (width_some (g.T.Text.part c.args.t.now).storage) b (g.T.Text.part c.args.t.now).end c.high-high.ensures.inside) ∙ sym c.high-high.ensures.value
