use Rattle.std.proofs.Common.{ap, ◌∙◌, ◌/◌, ◌++◌, get_or, take, arith}
use Rattle.text_spec.specs.Text.{utf8}
use Rattle.canon_order.proofs.Copying.{word-more, whole-bytes}
use Rattle.canon_order.proofs.form.bytes_of.Goals as goal

pub words-preserved : goal.words-preserved
words-preserved g c =
    let i = c.words.invariant in
    let aligned = i.aligned c.words-test.true in
    let size = c.min-size.ensures in
    let count = c.count-count.ensures in
    let word = c.word-word.ensures.value ∙ ap (λ t. get_or (g.T.Text.words t) (c.words.at / 8) 0) i.same in
    record {
      same = c.word-word.ensures.kept ∙ i.same;
      bytes = c.in_ok-extend_from_slice.ensures.items ∙ ap (λ l. l ++ take c.min-size.result c.to_le_bytes.result) i.bytes
          ∙ ap (λ bs. take c.words.at (utf8 (g.T.Text.part c.args.t.now).whole) ++ take c.min-size.result bs) c.to_le_bytes.ensures
          ∙ word-more _ (g.T.Text.words c.args.t.now) _ (g.T.Text.part c.args.t.now).whole c.words.at c.min-size.result c.word-word.result c.requires count.value count.denotes
          aligned (omega (arith, size)) (omega (arith, size, c.words-test.true)) word;
      within = omega (arith, size, c.words-test.true);
      aligned = λ h. omega (arith, size, aligned, h);
      cost = omega (arith, c.word-word.ensures.cost, i.cost, size, aligned, c.words-test.true);
    }

pub returns-clause-bytes : goal.returns-clause-bytes
returns-clause-bytes g c =
    let i = c.words.invariant in
    let count = c.count-count.ensures in
    i.bytes ∙ whole-bytes _ (g.T.Text.words c.args.t.now) _ (g.T.Text.part c.args.t.now).whole c.words.at c.requires count.value count.denotes (omega (arith, i.within, c.words-test.false))
