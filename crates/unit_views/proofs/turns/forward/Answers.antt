use Rattle.std.proofs.Common.{sym, ap, ◌∙◌, ◌+◌, arith}
use Rattle.unit_views.specs.Elements.{is_own}
use Rattle.unit_views.proofs.Between.{order_of}
use Rattle.unit_views.proofs.Moves.{offset_own_spot, count_own, own_moved}
use Rattle.unit_views.proofs.turns.forward.Goals as goal

pub returns-then-n-left-clause-left : goal.returns-then-n-left-clause-left
returns-then-n-left-clause-left g c =
    let is = c.bounds-low.ensures in
    let own = ap (is_own c.args.view) (sym c.encoding.ensures) ∙ sym c.is_own.ensures ∙ c.if-not-is_own.false in
    let offset = offset_own_spot c.args.view (g.T.Text.part c.args.t.now).storage (g.T.Text.part c.args.t.now).whole (g.T.Text.part c.args.t.now).first (g.T.Text.part c.args.t.now).end (order_of _ _ _ _ _ _ is) is.end_inside (omega (arith, is.high_is, is.high_small))
    c.args.spot.at c.args.spot.past own c.requires.spot in
    let total = count_own c.args.view (g.T.Text.part c.args.t.now).storage (g.T.Text.part c.args.t.now).whole (g.T.Text.part c.args.t.now).first (g.T.Text.part c.args.t.now).end (order_of _ _ _ _ _ _ is) is.end_inside (omega (arith, is.high_is, is.high_small)) own in
    (omega (arith, offset, total, is.high_is, c.requires.spot.high), c.if-n-left.true)

pub returns-clause-spot : goal.returns-clause-spot
returns-clause-spot g c =
    let is = c.bounds-low.ensures in
    let own = ap (is_own c.args.view) (sym c.encoding.ensures) ∙ sym c.is_own.ensures ∙ c.if-not-is_own.false in
    (own_moved c.args.view (g.T.Text.part c.args.t.now).storage (g.T.Text.part c.args.t.now).whole (g.T.Text.part c.args.t.now).first (g.T.Text.part c.args.t.now).end (order_of _ _ _ _ _ _ is) is.end_inside (omega (arith, is.high_is, is.high_small))
    c.args.spot.at c.args.spot.past (c.args.spot.at + c.args.n) c.args.n own c.requires.spot (omega (arith, c.requires.spot.low)) (omega (arith, c.if-n-left.false, is.high_is, c.requires.spot.high))).0
