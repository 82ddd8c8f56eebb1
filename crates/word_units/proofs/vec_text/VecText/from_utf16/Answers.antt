use Rattle.std.proofs.Common.{rules, sym, ◌∙◌, arith, refl}
use Rattle.std.proofs.lemmas.List.FromFn.{map-range_with_len_more}
use Rattle.text_spec.specs.Text.{repair}
use Rattle.word_units.specs.Packing.{unit_word}
use Rattle.word_units.proofs.Packed.{units-all, units-denoted, some_of, text_is}
use Rattle.word_units.proofs.vec_text.VecText.from_utf16.Goals as goal

pub loop-k-preserved : goal.loop-k-preserved
loop-k-preserved c =
    c.in_ok-push.ensures.items
    ∙ rw (c.loop-k.invariant, c.unit_word.ensures)
    (sym (map-range_with_len_more (unit_word c.args.units.now) 0 c.loop-k.k c.loop-k.k (omega arith)))

pub new-requires-clause-denotes : goal.new-requires-clause-denotes
new-requires-clause-denotes c =
    some_of _ _ (repair c.args.units.now)
    (units-all c.args.units.now _ _ _ c.loop-k.invariant refl c.loop-k.auto.k-end c.loop-k-test.false)
    (units-denoted c.args.units.now (λ i. search (rules, c.type_inv.units i)))

pub returns-clause-words : goal.returns-clause-words
returns-clause-words c =
    c.new.ensures ∙ units-all c.args.units.now _ _ _ c.loop-k.invariant refl c.loop-k.auto.k-end c.loop-k-test.false

pub returns-clause-text : goal.returns-clause-text
returns-clause-text c =
    text_is _ _ (repair c.args.units.now)
    (c.new.ensures ∙ units-all c.args.units.now _ _ _ c.loop-k.invariant refl c.loop-k.auto.k-end c.loop-k-test.false)
    (units-denoted c.args.units.now (λ i. search (rules, c.type_inv.units i)))
