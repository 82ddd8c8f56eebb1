use Rattle.std.proofs.Common.{rules, sym, ◌∙◌, arith, chars}
use Rattle.std.proofs.lemmas.List.FromFn.{map-range_with_len_more}
use Rattle.word_units.specs.Packing.{byte_word}
use Rattle.word_units.proofs.Packed.{bytes-all, bytes-denoted, some_of, text_is}
use Rattle.word_units.proofs.vec_text.VecText.from_utf8.Goals as goal

pub loop-k-preserved : goal.loop-k-preserved
loop-k-preserved c =
    c.in_ok-push.ensures.items
    ∙ rw (c.loop-k.invariant, c.byte_word.ensures, c.as_bytes-bytes.ensures.value)
    (sym (map-range_with_len_more (byte_word c.args.text.now) 0 c.loop-k.k c.loop-k.k (omega arith)))

pub new-requires-clause-denotes : goal.new-requires-clause-denotes
new-requires-clause-denotes c =
    some_of _ _ (chars c.args.text.now)
    (bytes-all c.args.text.now _ _ _ c.loop-k.invariant c.as_bytes-bytes.ensures.value c.loop-k.auto.k-end c.loop-k-test.false)
    (bytes-denoted c.args.text.now (λ i. search (rules, c.type_inv.text i)) c.utf8.text)

pub returns-clause-words : goal.returns-clause-words
returns-clause-words c =
    c.new.ensures ∙ bytes-all c.args.text.now _ _ _ c.loop-k.invariant c.as_bytes-bytes.ensures.value c.loop-k.auto.k-end c.loop-k-test.false

pub returns-clause-text : goal.returns-clause-text
returns-clause-text c =
    text_is _ _ (chars c.args.text.now)
    (c.new.ensures ∙ bytes-all c.args.text.now _ _ _ c.loop-k.invariant c.as_bytes-bytes.ensures.value c.loop-k.auto.k-end c.loop-k-test.false)
    (bytes-denoted c.args.text.now (λ i. search (rules, c.type_inv.text i)) c.utf8.text)
