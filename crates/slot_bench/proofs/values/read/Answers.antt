use Rattle.std.proofs.Common.{sym, subst, ap, ◌<◌, ◌/◌, arith}
use Rattle.text_spec.specs.Packed.{content_words}
use Rattle.text_spec.specs.Views.{size_in}
use Rattle.word_units.specs.Parts.{storage_size}
use Rattle.slot_bench.proofs.values.read.Goals as goal

pub word-sum-requires : goal.word-sum-requires
word-sum-requires g c =
    let T = g.T.Text in
    subst (λ t. c.words.k < content_words (T.part t).storage (storage_size (T.part t))) (sym c.words.invariant)
    (subst (λ e. c.words.k < content_words e (size_in e (T.part c.args.t.now).whole)) (sym c.requires.storage)
    (let n = c.count-words.ensures.value in omega (arith, n, ap (λ e. size_in e (T.part c.args.t.now).whole) c.requires.storage, c.words-test.true)))
