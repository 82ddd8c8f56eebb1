use Rattle.std.proofs.Common.{refl, arith}
use Rattle.unit_views.proofs.Between.{order_of}
use Rattle.unit_views.proofs.Moves.{ahead_spot, ahead_end, spot_numbers}
use Rattle.unit_views.proofs.turns.forward_across.Goals as goal
use Rattle.unit_views.proofs.turns.forward_across.Goals.{else-at-high-via-then-at-high+else-past-gt0, else-at-high-via-else-at-high}

pub overflow_sub-result : goal.overflow_sub-result
overflow_sub-result g c =
    let is = c.bounds-low.ensures in
    (ahead_end c.args.view (g.T.Text.part c.args.t.now).storage (g.T.Text.part c.args.t.now).whole (g.T.Text.part c.args.t.now).first (g.T.Text.part c.args.t.now).end (order_of _ _ _ _ _ _ is) is.end_inside (omega (arith, is.high_is, is.high_small))
    c.requires.across c.args.spot.at c.args.spot.past _ _ _ _ c.args.n c.requires.spot is.high_is c.walk_on-at.ensures.walked refl c.if-at-high.true c.if-past-gt0.true).0

pub returns-then-past-gt0-clause-left : goal.returns-then-past-gt0-clause-left
returns-then-past-gt0-clause-left g c =
    let is = c.bounds-low.ensures in
    (ahead_end c.args.view (g.T.Text.part c.args.t.now).storage (g.T.Text.part c.args.t.now).whole (g.T.Text.part c.args.t.now).first (g.T.Text.part c.args.t.now).end (order_of _ _ _ _ _ _ is) is.end_inside (omega (arith, is.high_is, is.high_small))
    c.requires.across c.args.spot.at c.args.spot.past _ _ _ _ c.args.n c.requires.spot is.high_is c.walk_on-at.ensures.walked refl c.if-at-high.true c.if-past-gt0.true).1

pub returns-then-past-gt0-clause-cost : goal.returns-then-past-gt0-clause-cost
returns-then-past-gt0-clause-cost g c =
    let is = c.bounds-low.ensures in
    omega (
      arith,
      c.walk_on-at.ensures.pass,
      is.end_is,
      (spot_numbers c.args.view (g.T.Text.part c.args.t.now).storage (g.T.Text.part c.args.t.now).whole (g.T.Text.part c.args.t.now).first (g.T.Text.part c.args.t.now).end (order_of _ _ _ _ _ _ is) is.end_inside (omega (arith, is.high_is, is.high_small))
          c.args.spot.at c.args.spot.past c.requires.spot).0,
    )

pub returns-clause-spot : goal.returns-clause-spot
returns-clause-spot g c =
    let is = c.bounds-low.ensures in
    (ahead_spot c.args.view (g.T.Text.part c.args.t.now).storage (g.T.Text.part c.args.t.now).whole (g.T.Text.part c.args.t.now).first (g.T.Text.part c.args.t.now).end (order_of _ _ _ _ _ _ is) is.end_inside (omega (arith, is.high_is, is.high_small))
    c.requires.across c.args.spot.at c.args.spot.past _ _ _ _ c.args.n c.requires.spot is.high_is c.walk_on-at.ensures.walked refl
    (λ at_end. elim c.else-at-high.branch [
      | else-at-high-via-then-at-high+else-past-gt0 w ↦ omega (arith, w.if-past-gt0.false)
      | else-at-high-via-else-at-high w ↦ absurd (w.if-at-high.false at_end)
    ])).0

pub returns-clause-cost : goal.returns-clause-cost
returns-clause-cost g c =
    let is = c.bounds-low.ensures in
    omega (
      arith,
      c.walk_on-at.ensures.pass,
      is.end_is,
      (spot_numbers c.args.view (g.T.Text.part c.args.t.now).storage (g.T.Text.part c.args.t.now).whole (g.T.Text.part c.args.t.now).first (g.T.Text.part c.args.t.now).end (order_of _ _ _ _ _ _ is) is.end_inside (omega (arith, is.high_is, is.high_small))
          c.args.spot.at c.args.spot.past c.requires.spot).0,
    )
