use Rattle.std.proofs.Common.{arith}
use Rattle.unit_views.proofs.Between.{order_of}
use Rattle.unit_views.proofs.Moves.{near_spot, back_spot, spot_numbers}
use Rattle.unit_views.proofs.turns.back_across.Goals as goal

pub returns-then-n-spot-clause-spot : goal.returns-then-n-spot-clause-spot
returns-then-n-spot-clause-spot g c =
    let is = c.bounds-low.ensures in
    (near_spot c.args.view (g.T.Text.part c.args.t.now).storage (g.T.Text.part c.args.t.now).whole (g.T.Text.part c.args.t.now).first (g.T.Text.part c.args.t.now).end (order_of _ _ _ _ _ _ is) is.end_inside (omega (arith, is.high_is, is.high_small))
    c.args.spot.at c.args.spot.past c.args.n c.requires.across c.requires.spot c.if-n-spot.true).0

pub returns-in-Some-clause-spot : goal.returns-in-Some-clause-spot
returns-in-Some-clause-spot g c =
    let is = c.bounds-low.ensures in
    (back_spot c.args.view (g.T.Text.part c.args.t.now).storage (g.T.Text.part c.args.t.now).whole (g.T.Text.part c.args.t.now).first (g.T.Text.part c.args.t.now).end (order_of _ _ _ _ _ _ is) is.end_inside (omega (arith, is.high_is, is.high_small))
    c.requires.across c.args.spot.at c.args.spot.past _ c.args.n c.requires.spot is.low_is (omega (arith, c.if-n-spot.false)) c.in-Some.at c.in-Some.past c.in-Some.ensures.walked).0

pub returns-in-Some-clause-cost : goal.returns-in-Some-clause-cost
returns-in-Some-clause-cost g c =
    let is = c.bounds-low.ensures in
    omega (
      arith,
      c.walk_back.ensures.pass,
      is.first_is,
      (spot_numbers c.args.view (g.T.Text.part c.args.t.now).storage (g.T.Text.part c.args.t.now).whole (g.T.Text.part c.args.t.now).first (g.T.Text.part c.args.t.now).end (order_of _ _ _ _ _ _ is) is.end_inside (omega (arith, is.high_is, is.high_small))
          c.args.spot.at c.args.spot.past c.requires.spot).1,
    )

pub returns-in-None-clause-cost : goal.returns-in-None-clause-cost
returns-in-None-clause-cost g c =
    let is = c.bounds-low.ensures in
    omega (
      arith,
      c.walk_back.ensures.pass,
      is.first_is,
      (spot_numbers c.args.view (g.T.Text.part c.args.t.now).storage (g.T.Text.part c.args.t.now).whole (g.T.Text.part c.args.t.now).first (g.T.Text.part c.args.t.now).end (order_of _ _ _ _ _ _ is) is.end_inside (omega (arith, is.high_is, is.high_small))
          c.args.spot.at c.args.spot.past c.requires.spot).1,
    )
