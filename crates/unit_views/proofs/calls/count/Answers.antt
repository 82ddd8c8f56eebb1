use Rattle.std.proofs.Common.{sym, ap, ◌∙◌, arith}
use Rattle.text_spec.specs.Offsets.{start}
use Rattle.unit_views.specs.Elements.{is_own, view_width}
use Rattle.unit_views.proofs.Between.{order_of}
use Rattle.unit_views.proofs.Moves.{count_own}
use Rattle.unit_views.proofs.Widths.{count-is}
use Rattle.unit_views.proofs.calls.count.Goals as goal

pub returns-then-is_own-clause-value : goal.returns-then-is_own-clause-value
returns-then-is_own-clause-value g c =
    let is = c.bounds-low.ensures in
    omega (
      arith,
      is.low_is,
      is.high_is,
      is.order,
      count_own c.args.view (g.T.Text.part c.args.t.now).storage (g.T.Text.part c.args.t.now).whole (g.T.Text.part c.args.t.now).first (g.T.Text.part c.args.t.now).end (order_of _ _ _ _ _ _ is) is.end_inside (omega (arith, is.high_is, is.high_small))
          (ap (is_own c.args.view) (sym c.encoding.ensures) ∙ sym c.is_own.ensures ∙ c.if-is_own.true),
    )

pub returns-clause-value : goal.returns-clause-value
returns-clause-value g c =
    let is = c.bounds-low.ensures in
    let v = view_width c.args.view in
    let b = (g.T.Text.part c.args.t.now).whole in
    omega (
      arith,
      c.elements_between.ensures.value,
      ap (start v b) is.first_is,
      ap (start v b) is.end_is,
      count-is c.args.view b (g.T.Text.part c.args.t.now).first (g.T.Text.part c.args.t.now).end (order_of (g.T.Text.part c.args.t.now).storage b _ _ _ _ is) is.end_inside,
    )
