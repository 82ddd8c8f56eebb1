use Rattle.std.proofs.Common.{arith}
use Rattle.text_spec.proofs.Walk.{start-le}
use Rattle.text_spec.specs.Views.{width_in}
use Rattle.char_view.proofs.Parts.{next_place}
use Rattle.char_view.proofs.place.place_after.Goals as goal

pub scalar_at-scalar-requires-clause-inside : goal.scalar_at-scalar-requires-clause-inside
scalar_at-scalar-requires-clause-inside g c =
    omega (arith, c.requires.inside, start-le (width_in (g.T.Text.part c.args.t.now).storage) (g.T.Text.part c.args.t.now).whole (g.T.Text.part c.args.t.now).end)

pub returns-clause-place : goal.returns-clause-place
returns-clause-place g c =
    let read = c.scalar_at-scalar in
    let next = next_place _ _ _ _ _ _ read.result.0 read.result.1 c.len_utf8.result c.requires.place c.requires.inside read.ensures.scalar read.ensures.width c.len_utf8.ensures.value in
    next.place

pub returns-clause-number : goal.returns-clause-number
returns-clause-number g c =
    let read = c.scalar_at-scalar in
    let next = next_place _ _ _ _ _ _ read.result.0 read.result.1 c.len_utf8.result c.requires.place c.requires.inside read.ensures.scalar read.ensures.width c.len_utf8.ensures.value in
    next.number
