use Rattle.std.proofs.Common.{◌≡◌, ap, ◌∙◌, ◌+◌, ◌-◌, ◌<◌, arith}
use Rattle.word_units.specs.Parts.{part_of}
use Rattle.char_view.specs.Answers.{character_position}
use Rattle.char_view.proofs.Indexing.{index_is}
use Rattle.char_view.proofs.characters.before.Goals as goal

pub index_between-requires-clause-from_in : goal.index_between-requires-clause-from_in
index_between-requires-clause-from_in g c = let span = c.in_ok-span.ensures.span in omega (arith, span.behind, span.order, span.small)

pub index_between-requires-clause-order : goal.index_between-requires-clause-order
index_between-requires-clause-order g c = let span = c.in_ok-span.ensures.span in span.behind

pub returns-clause-previous : goal.returns-clause-previous
returns-clause-previous g c =
    let span = c.in_ok-span.ensures.span in
    let e = (g.T.Text.part c.args.t.now).storage in
    let b = (g.T.Text.part c.args.t.now).whole in
    let first = (g.T.Text.part c.args.t.now).first in
    let end = (g.T.Text.part c.args.t.now).end in
    let n = c.in_ok-span.span.number in
    let some : 0 < n = omega (arith, c.if-span-eq0.false) in
    let back : n ≡ n - 1 + 1 = omega (arith, some) in (
      n,
      c.in_ok-span.ensures.offset,
      some,
      index_is c.encoding.result e b first end (n - 1) _ _ c.index_between.result (c.encoding.ensures ∙ ap (λ t. (g.T.Text.part t).storage) c.span_of.ensures.kept) (span.previous some)
          (span.from ∙ ap (character_position (part_of e b first end)) back) c.index_between.ensures,
    )
