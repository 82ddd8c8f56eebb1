use Rattle.std.proofs.Common.{sym, ◌∙◌, ◌+◌, arith}
use Rattle.text_spec.specs.Views.{width_in}
use Rattle.text_spec.proofs.Walk.{start-le}
use Rattle.word_units.specs.Parts.{part_of}
use Rattle.char_view.specs.Answers.{characters_in}
use Rattle.char_view.proofs.Indexing.{index_is}
use Rattle.char_view.proofs.Parts.{text_of}
use Rattle.char_view.proofs.Stepping.{position-past}
use Rattle.char_view.proofs.characters.end.Goals as goal

pub index_between-requires-clause-from_in : goal.index_between-requires-clause-from_in
index_between-requires-clause-from_in g c =
    omega (
      arith,
      c.high-high.ensures.value,
      start-le (width_in (g.T.Text.part c.args.t.now).storage) (g.T.Text.part c.args.t.now).whole (g.T.Text.part c.args.t.now).end,
      c.count-count.ensures.value,
      c.count-count.ensures.small,
    )

pub returns : goal.returns
returns g c =
    let e = (g.T.Text.part c.args.t.now).storage in
    let b = (g.T.Text.part c.args.t.now).whole in
    let first = (g.T.Text.part c.args.t.now).first in
    let end = (g.T.Text.part c.args.t.now).end in
    let text = text_of e _ c.count-count.result b first end c.count-count.ensures.value c.count-count.ensures.small c.count-count.ensures.denotes c.low-low.ensures.order c.high-high.ensures.inside in
    let n = characters_in (part_of e b first end) in
    index_is c.encoding.result e b first end n c.high-high.result c.high-high.result c.index_between.result c.encoding.ensures
    (c.high-high.ensures.value ∙ sym (position-past e b first end n text (omega arith)))
    (c.high-high.ensures.value ∙ sym (position-past e b first end (n + 1) text (omega arith))) c.index_between.ensures
