use Rattle.std.proofs.Common.{◌<◌, ◌≤◌, ⊎_elim, arith}
use Rattle.std.proofs.lemmas.Bool.{cases_lt, eqb-false, iff_false}
use Rattle.char_view.proofs.Stepping.{last_number}
use Rattle.char_view.proofs.span.pass_until.Goals as goal

pub returns-clause-past : goal.returns-clause-past
returns-clause-past g c = λ differs.
    let walk = c.characters.invariant.walk in
    let stopped = iff_false c.may_pass.ensures c.characters-test.false in
    let fewer : c.characters.walk.number < c.args.number =
    ⊎_elim (λ (h : c.characters.walk.number < c.args.number). h)
    (λ (h : c.args.number ≤ c.characters.walk.number). absurd (eqb-false c.characters.walk.number c.args.number differs (omega (arith, h, c.characters.invariant.before))))
    (cases_lt c.characters.walk.number c.args.number) in
    ⊎_elim (λ (h : c.characters.walk.at.position < c.high-high.result). absurd (stopped (fewer, h)))
    (λ (h : c.high-high.result ≤ c.characters.walk.at.position).
    let last = last_number (g.T.Text.part c.args.t.now).storage (g.T.Text.part c.args.t.now).whole (g.T.Text.part c.args.t.now).first (g.T.Text.part c.args.t.now).end _ _ _ walk.place walk.passed walk.within
    (omega (arith, h, c.high-high.ensures.value)) in
    omega (arith, last, fewer))
    (cases_lt c.characters.walk.at.position c.high-high.result)
