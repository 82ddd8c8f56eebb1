use Rattle.std.proofs.Common.{◌≡◌, ap, subst, ◌∙◌, ◌*◌, ◌/◌, ◌%◌, ◌^◌, Some, arith}
use Rattle.text_spec.specs.Packed.{denoted_text}
use Rattle.text_spec.proofs.Bytes.{length-utf8}
use Rattle.text_spec.proofs.Denoting.{utf8_words}
use Rattle.word_units.proofs.reading.byte_at.Goals as goal

pub returns-clause-value : goal.returns-clause-value
returns-clause-value g c =
    let b = (g.T.Text.part c.args.t.now).whole in
    let ws = g.T.Text.words c.args.t.now in
    let w = utf8_words ws c.count-count.result b (subst (λ e. denoted_text e ws c.count-count.result ≡ Some b) c.requires.encoding c.count-count.ensures.denotes) in
    c.byte_in.ensures ∙ ap (λ n. n / 2 ^ (8 * (c.args.p % 8)) % 256) c.word-word.ensures.value ∙ w.held.1 c.args.p (omega (arith, c.requires.inside, length-utf8 b))
