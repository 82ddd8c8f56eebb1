use Rattle.std.proofs.Common.{arith}
use Rattle.canon_order.specs.Codes.{HoldsCodes}
use Rattle.canon_order.proofs.AsciiCodes.{same_word, holds, word_inside}
use Rattle.canon_order.proofs.ascii.compare_block.Goals as goal

pub word-left-requires : goal.word-left-requires
word-left-requires g c =
    word_inside _ _ (g.T.Text.part c.args.a.now).whole c.args.from _ (c.ascii-ascii.ensures.below c.requires.ascii) (omega (arith, c.requires.some, c.requires.inside)) c.encoding.ensures c.in_a_word.ensures

pub word-right-requires : goal.word-right-requires
word-right-requires g c =
    word_inside _ _ (g.T.Text.part c.args.b.now).whole c.args.from _ (c.ascii-other_ascii.ensures.below c.requires.other_ascii) (omega (arith, c.requires.some, c.requires.other_inside)) c.encoding-2.ensures c.in_a_word-2.ensures

-- the words hold the scalars of the places
left : (g : _) (c : goal.After-compare_words g) → HoldsCodes c.encoding.result c.word-left.result (g.T.Text.part c.args.a.now).whole c.args.from c.args.to
left g c =
    let e = (g.T.Text.part c.args.a.now).storage in
    let f = (g.T.Text.part c.args.b.now).storage in
    let count = c.count-count.ensures in
    holds e _ (g.T.Text.words c.args.a.now) _ (g.T.Text.part c.args.a.now).whole c.args.from c.args.to _ _ count.value count.denotes (c.ascii-ascii.ensures.below c.requires.ascii)
    c.requires.inside (λ p above before. (same_word e f c.args.from c.args.to p c.requires.aligned c.requires.near above before).0)
    c.encoding.ensures c.in_a_word.ensures c.word-left.ensures.value

right : (g : _) (c : goal.After-compare_words g) → HoldsCodes c.encoding-2.result c.word-right.result (g.T.Text.part c.args.b.now).whole c.args.from c.args.to
right g c =
    let e = (g.T.Text.part c.args.a.now).storage in
    let f = (g.T.Text.part c.args.b.now).storage in
    let count = c.count-other_count.ensures in
    holds f _ (g.T.Text.words c.args.b.now) _ (g.T.Text.part c.args.b.now).whole c.args.from c.args.to _ _ count.value count.denotes (c.ascii-other_ascii.ensures.below c.requires.other_ascii)
    c.requires.other_inside (λ p above before. (same_word e f c.args.from c.args.to p c.requires.aligned c.requires.near above before).1)
    c.encoding-2.ensures c.in_a_word-2.ensures c.word-right.ensures.value

pub returns-clause-order : goal.returns-clause-order
returns-clause-order g c = c.compare_words.ensures (g.T.Text.part c.args.a.now).whole (g.T.Text.part c.args.b.now).whole (left g c) (right g c)
