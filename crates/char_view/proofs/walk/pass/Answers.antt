use Rattle.std.proofs.Common.{arith}
use Rattle.char_view.proofs.Parts.{inside_bytes}
use Rattle.char_view.proofs.Stepping.{pass_one, few_passed}
use Rattle.char_view.proofs.walk.pass.Goals as goal

pub next_break-at-requires-clause-inside : goal.next_break-at-requires-clause-inside
next_break-at-requires-clause-inside g c =
    let walk = c.requires.walk in
    omega (arith, walk.len, inside_bytes (g.T.Text.part c.args.t.now).storage (g.T.Text.part c.args.t.now).whole (g.T.Text.part c.args.t.now).first (g.T.Text.part c.args.t.now).end _ _ walk.place c.requires.inside)

pub returns-clause-walk : goal.returns-clause-walk
returns-clause-walk g c =
    let walk = c.requires.walk in
    let next = c.next_break-at.ensures in
    let step = pass_one (g.T.Text.part c.args.t.now).storage (g.T.Text.part c.args.t.now).whole (g.T.Text.part c.args.t.now).first (g.T.Text.part c.args.t.now).end _ _ _ _ _ walk.place next.place walk.passed next.ahead next.ends next.first in
    record {
      place = next.place;
      passed = step.passed;
      within = omega (arith, step.inside);
      small = few_passed (g.T.Text.part c.args.t.now).storage (g.T.Text.part c.args.t.now).whole (g.T.Text.part c.args.t.now).first (g.T.Text.part c.args.t.now).end _ walk.place.text (omega (arith, step.inside));
      len = walk.len;
      on = next.on;
      offset = next.offset;
      extended = next.extended;
      done = next.done;
      piece = next.piece;
    }

pub returns-clause-ahead : goal.returns-clause-ahead
returns-clause-ahead g c =
    let walk = c.requires.walk in
    let next = c.next_break-at.ensures in
    let step = pass_one (g.T.Text.part c.args.t.now).storage (g.T.Text.part c.args.t.now).whole (g.T.Text.part c.args.t.now).first (g.T.Text.part c.args.t.now).end _ _ _ _ _ walk.place next.place walk.passed next.ahead next.ends next.first in
    step.ahead
