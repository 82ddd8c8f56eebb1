use Rattle.std.proofs.Common.{arith}
use Rattle.char_view.proofs.Stepping.{last_number}
use Rattle.char_view.proofs.span.count_all.Goals as goal

pub returns-clause-value : goal.returns-clause-value
returns-clause-value g c =
    let walk = c.characters.invariant.walk in
    last_number (g.T.Text.part c.args.t.now).storage (g.T.Text.part c.args.t.now).whole (g.T.Text.part c.args.t.now).first (g.T.Text.part c.args.t.now).end _ _ _ walk.place walk.passed walk.within
    (omega (arith, c.characters-test.false, c.high-high.ensures.value))
