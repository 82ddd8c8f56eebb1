use Rattle.std.proofs.Common.{arith}
use Rattle.unit_views.proofs.Between.{order_of}
use Rattle.unit_views.proofs.Moves.{spot_numbers}
use Rattle.unit_views.proofs.turns.apart.Goals as goal

pub returns-then-from-to-clause-cost : goal.returns-then-from-to-clause-cost
returns-then-from-to-clause-cost g c =
    let is = c.bounds-low.ensures in
    let numbers = spot_numbers c.args.view (g.T.Text.part c.args.t.now).storage (g.T.Text.part c.args.t.now).whole (g.T.Text.part c.args.t.now).first (g.T.Text.part c.args.t.now).end (order_of _ _ _ _ _ _ is) is.end_inside (omega (arith, is.high_is, is.high_small)) in
    omega (arith, c.elements_between-between.ensures.pass, (numbers c.args.from.at c.args.from.past c.requires.from).0, (numbers c.args.to.at c.args.to.past c.requires.to).1)

pub returns-clause-cost : goal.returns-clause-cost
returns-clause-cost g c =
    let is = c.bounds-low.ensures in
    let numbers = spot_numbers c.args.view (g.T.Text.part c.args.t.now).storage (g.T.Text.part c.args.t.now).whole (g.T.Text.part c.args.t.now).first (g.T.Text.part c.args.t.now).end (order_of _ _ _ _ _ _ is) is.end_inside (omega (arith, is.high_is, is.high_small)) in
    omega (arith, c.elements_between-between-2.ensures.pass, (numbers c.args.to.at c.args.to.past c.requires.to).0, (numbers c.args.from.at c.args.from.past c.requires.from).1)
