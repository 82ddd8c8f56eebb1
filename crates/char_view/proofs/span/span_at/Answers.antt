use Rattle.std.proofs.Common.{◌<◌, ◌≤◌, ⊎_elim, arith}
use Rattle.std.proofs.lemmas.Bool.{cases_lt, iff_false}
use Rattle.char_view.proofs.Stepping.{offset_inside, offset_last}
use Rattle.char_view.proofs.span.span_at.Goals as goal

pub returns-clause-number : goal.returns-clause-number
returns-clause-number g c =
    let e = (g.T.Text.part c.args.t.now).storage in
    let b = (g.T.Text.part c.args.t.now).whole in
    let first = (g.T.Text.part c.args.t.now).first in
    let end = (g.T.Text.part c.args.t.now).end in
    let l = c.characters in
    let i = l.invariant in
    let stopped = iff_false c.ends_by.ensures c.characters-test.false in
    ⊎_elim
    (λ (h : l.from < l.walk.at.position).
    offset_inside e b first end c.args.p l.number i.walk.place.text c.requires.boundary c.requires.low c.requires.high (omega (arith, i.from, i.below)) (i.passed h).1
    (⊎_elim (λ (m : c.args.p < l.walk.at.position). omega (arith, m, i.to)) (λ (m : l.walk.at.position ≤ c.args.p). absurd (stopped (h, m))) (cases_lt c.args.p l.walk.at.position)))
    (λ (h : l.walk.at.position ≤ l.from).
    offset_last e b first end c.args.p l.number i.walk.place.text c.requires.boundary c.requires.low c.requires.high (omega (arith, i.from, i.below)) (i.is_end (omega (arith, h, i.order))).1)
    (cases_lt l.from l.walk.at.position)
