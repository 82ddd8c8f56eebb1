use Rattle.std.proofs.Common.{◌≡◌, refl, sym, ◌∙◌, ◌+◌, arith}
use Rattle.text_spec.specs.Offsets.{start}
use Rattle.text_spec.specs.Views.{width_in}
use Rattle.char_view.proofs.Stepping.{last_number, position-past}
use Rattle.char_view.proofs.span.pass_any.Goals as goal

pub returns-then-walk-high-clause-position : goal.returns-then-walk-high-clause-position
returns-then-walk-high-clause-position g c =
    let e = (g.T.Text.part c.args.t.now).storage in
    let b = (g.T.Text.part c.args.t.now).whole in
    let first = (g.T.Text.part c.args.t.now).first in
    let end = (g.T.Text.part c.args.t.now).end in
    let walk = c.requires.walk in
    let last = last_number e b first end _ _ _ walk.place walk.passed walk.within (omega (arith, c.if-walk-high.true, c.high-high.ensures.value)) in
    let at : c.args.walk.now.at.position ≡ start (width_in e) b end = omega (arith, c.if-walk-high.true, c.high-high.ensures.value, walk.place.high) in
    at ∙ sym (position-past e b first end (c.args.walk.now.number + 1) walk.place.text (omega (arith, last)))

pub returns-then-walk-high-clause-last : goal.returns-then-walk-high-clause-last
returns-then-walk-high-clause-last g c = λ _.
    let walk = c.requires.walk in (
      last_number (g.T.Text.part c.args.t.now).storage (g.T.Text.part c.args.t.now).whole (g.T.Text.part c.args.t.now).first (g.T.Text.part c.args.t.now).end _ _ _ walk.place walk.passed walk.within
          (omega (arith, c.if-walk-high.true, c.high-high.ensures.value)),
      refl,
    )
