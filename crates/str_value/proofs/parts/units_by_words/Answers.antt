use Rattle.std.proofs.Common.{◌≡◌, ◌<◌, ◌+◌, ◌*◌, ◌/◌, ◌%◌, ◌^◌, ◌-◌, sym, ap, subst, ◌∙◌, ◌++◌, ◌∷◌, [], map, length, slice_index, arith}
use Rattle.std.specs.List.{range_with_len}
use Rattle.std.proofs.lemmas.Bool.{and_parts, ltb-true}
use Rattle.std.proofs.lemmas.List.FromFn.{map-range_with_len_more, length-map-range_with_len}
use Rattle.text_spec.specs.Packed.{unit_of, content_words}
use Rattle.text_spec.specs.Views.{size_in}
use Rattle.str_value.specs.Meaning.{Meaning, storage_of}
use Rattle.str_value.proofs.parts.units_by_words.Goals as goal

pub word_again-word-requires-clause-inside : goal.word_again-word-requires-clause-inside
word_again-word-requires-clause-inside c =
    let p = c.loop-p.p in
    subst (λ (m : Meaning). p / 4 < content_words (storage_of m.row) (size_in (storage_of m.row) m.text)) (sym c.loop-p.invariant.1)
    (subst (λ e. p / 4 < content_words e (size_in e c.args.value.now.text)) (sym c.requires.storage) (omega (arith, c.loop-p-test.true, c.requires.inside)))

pub word_again-word-requires-clause-had : goal.word_again-word-requires-clause-had
word_again-word-requires-clause-had c =
    λ read. let parts = and_parts _ _ read in
    c.loop-p.invariant.2 (ltb-true _ _ parts.0) (ltb-true _ _ parts.1) ∙ ap (λ (m : Meaning). slice_index m.words (c.loop-p.p / 4)) (sym c.loop-p.invariant.1)

pub push_reserved-requires : goal.push_reserved-requires
push_reserved-requires c =
    let n = length-map-range_with_len (unit_of c.args.value.now.words) c.args.low (c.loop-p.p - c.args.low) in
    omega (arith, n, ap length c.loop-p.invariant.0, c.loop-p.invariant.3, c.loop-p.invariant.4, c.loop-p-test.true)

pub loop-p-preserved : goal.loop-p-preserved
loop-p-preserved c =
    let f = unit_of c.args.value.now.words in
    let p = c.loop-p.p in
    let n = p - c.args.low in
    let word : c.word_again-word.result ≡ slice_index c.args.value.now.words (p / 4) =
    c.word_again-word.ensures.word ∙ ap (λ (m : Meaning). slice_index m.words (p / 4)) c.loop-p.invariant.1 in
    let more : p + 1 - c.args.low ≡ n + 1 = omega (arith, c.loop-p.invariant.4) in (
      c.push_reserved.ensures.items ∙ ap (λ us. us ++ (c.word_again-word.result / 2 ^ (16 * (p % 4)) % 65536) ∷ []) c.loop-p.invariant.0
          ∙ ap (λ v. map f (range_with_len c.args.low n) ++ (v / 2 ^ (16 * (p % 4)) % 65536) ∷ []) word
          ∙ sym (map-range_with_len_more f c.args.low n p (omega (arith, c.loop-p.invariant.4))) ∙ ap (λ i. map f (range_with_len c.args.low i)) (sym more),
      c.word_again-word.ensures.kept ∙ c.loop-p.invariant.1,
      λ later within. word ∙ ap (slice_index c.args.value.now.words) (omega (arith, within)),
      omega (arith, c.loop-p.invariant.3, c.push_reserved.ensures.capacity),
      omega (arith, c.loop-p.invariant.4),
    )
