use Rattle.std.proofs.Common.{sym, subst, arith}
use Rattle.unit_views.specs.Spots.{IsSpot}
use Rattle.unit_views.proofs.Between.{order_of}
use Rattle.unit_views.proofs.Moves.{edge_spot}
use Rattle.unit_views.proofs.calls.start_spot.Goals as goal

pub returns-clause-spot : goal.returns-clause-spot
returns-clause-spot g c =
    let is = c.bounds-low.ensures in
    let order = order_of _ _ _ _ _ _ is in
    subst (λ p. IsSpot c.args.view (g.T.Text.part c.args.t.now) p 0) (sym is.low_is)
    (edge_spot c.args.view (g.T.Text.part c.args.t.now).storage (g.T.Text.part c.args.t.now).whole (g.T.Text.part c.args.t.now).first (g.T.Text.part c.args.t.now).end order is.end_inside (omega (arith, is.high_is, is.high_small))
    (g.T.Text.part c.args.t.now).first (omega arith) order).0
