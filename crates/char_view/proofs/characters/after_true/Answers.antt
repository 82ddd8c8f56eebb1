use Rattle.std.proofs.Common.{◌≡◌, ◌+◌, ◌<◌, ◌^◌, arith}
use Rattle.text_spec.specs.Views.{width_in}
use Rattle.text_spec.proofs.Walk.{start-le}
use Rattle.index_words.specs.Fields.{position_of}
use Rattle.word_units.specs.Parts.{part_of}
use Rattle.char_view.specs.Answers.{character_position, offset_at}
use Rattle.char_view.proofs.Indexing.{word_added}
use Rattle.char_view.proofs.Parts.{text_of}
use Rattle.char_view.proofs.Stepping.{position-within}
use Rattle.char_view.proofs.characters.after_true.Goals as goal

pub new-requires-clause-position_in : goal.new-requires-clause-position_in
new-requires-clause-position_in g c =
    let e = (g.T.Text.part c.args.t.now).storage in
    let b = (g.T.Text.part c.args.t.now).whole in
    let first = (g.T.Text.part c.args.t.now).first in
    let end = (g.T.Text.part c.args.t.now).end in
    let text = text_of e _ c.count-count.result b first end c.count-count.ensures.value c.count-count.ensures.small c.count-count.ensures.denotes c.low-low.ensures.order c.high-high.ensures.inside in
    let n = offset_at (part_of e b first end) (position_of c.args.i) in
    omega (arith, c.requires.holds.stride, c.position.ensures.value, c.stride.ensures.value, position-within e b first end (n + 1) text, start-le (width_in e) b end, text.small)

pub returns-clause-next : goal.returns-clause-next
returns-clause-next g c =
    let e = (g.T.Text.part c.args.t.now).storage in
    let b = (g.T.Text.part c.args.t.now).whole in
    let first = (g.T.Text.part c.args.t.now).first in
    let end = (g.T.Text.part c.args.t.now).end in
    let text = text_of e _ c.count-count.result b first end c.count-count.ensures.value c.count-count.ensures.small c.count-count.ensures.denotes c.low-low.ensures.order c.high-high.ensures.inside in
    let n = offset_at (part_of e b first end) (position_of c.args.i) in
    let at : c.position.result + c.stride.result ≡ character_position (part_of e b first end) (n + 1) = omega (arith, c.requires.holds.stride, c.position.ensures.value, c.stride.ensures.value) in
    let small : character_position (part_of e b first end) (n + 1) < 2 ^ 48 = omega (arith, position-within e b first end (n + 1) text, start-le (width_in e) b end, text.small) in
    word_added c.fields_are_read_back.ensures.fields c.encoding.result e 0 (character_position (part_of e b first end) (n + 1)) (character_position (part_of e b first end) (n + 1 + 1)) (c.position.result + c.stride.result)
    c.new.result c.with_scalar_aligned.result c.with_character_aligned.result c.encoding.ensures at small c.new.ensures c.with_scalar_aligned.ensures c.with_character_aligned.ensures
