-- Indices of Characters as words, and indices rounded down to scalars.
use Rattle.std.proofs.Common.{◌≡◌, refl, sym, ap, ◌∙◌, ℕ, ◌+◌, ◌-◌, ◌<◌, ◌≤◌, ◌^◌, ⊎_elim, true, nat_le, List, arith}
use Rattle.std.proofs.lemmas.Bool.{cases_lt, cond-true, cond-false, le-leb, lt-leb}
use Rattle.text_spec.specs.declared.encoding.Encoding.{Encoding}
use Rattle.text_spec.specs.Offsets.{down}
use Rattle.index_words.specs.Fields.{Fields, Fit, position_of, fields_of, plain, word_of}
use Rattle.word_units.specs.Parts.{part_of}
use Rattle.char_view.specs.Answers.{character_fields, character_index, character_position, kept_stride, without_stride}

pub kept-few : (n : ℕ) → kept_stride n < 64
kept-few n =
    ⊎_elim (λ (h : n < 64). omega (arith, cond-true (nat_le n 63) n 0 (le-leb n 63 (omega (arith, h))), h))
    (λ (h : 64 ≤ n). omega (arith, cond-false (nat_le n 63) n 0 (lt-leb n 63 (omega (arith, h))))) (cases_lt n 64)

module _ (law : (fields : Fields) → Fit fields → fields_of (word_of fields) ≡ fields) where
  pub position-word : (fields : Fields) → Fit fields → position_of (word_of fields) ≡ fields.position
  position-word fields fit = ap (λ f. f.position) (law fields fit)

  -- the marks and the stride, one after another
  pub word_built : (e : Encoding) (from to plain_word marked aligned index : ℕ) → from < 2 ^ 48 → to - from ≤ 63 → plain_word ≡ word_of (plain from 0 e)
      → marked ≡ word_of (record (fields_of plain_word) { scalar_aligned = true }) → aligned ≡ word_of (record (fields_of marked) { character_aligned = true })
      → index ≡ word_of (record (fields_of aligned) { stride = to - from }) → index ≡ word_of (character_fields e from to)
  word_built e from to plain_word marked aligned index small few is0 is1 is2 is3 =
      let fit = λ (f : Fields) (p : f.position ≡ from) (t : f.transcoded ≡ 0) (s : f.stride ≡ 0). let fits : Fit f = record { position = omega (arith, p, small); transcoded = omega (arith, t); stride = omega (arith, s) } in fits in
      let f0 = plain from 0 e in
      let f1 : Fields = record f0 { scalar_aligned = true } in
      let f2 : Fields = record f1 { character_aligned = true } in
      let b0 : fields_of plain_word ≡ f0 = ap fields_of is0 ∙ law f0 (fit f0 refl refl refl) in
      let b1 : fields_of marked ≡ f1 = ap fields_of (is1 ∙ ap (λ f. word_of (record f { scalar_aligned = true })) b0) ∙ law f1 (fit f1 refl refl refl) in
      let b2 : fields_of aligned ≡ f2 = ap fields_of (is2 ∙ ap (λ f. word_of (record f { character_aligned = true })) b1) ∙ law f2 (fit f2 refl refl refl) in
      let kept : kept_stride (to - from) ≡ to - from = cond-true _ _ _ (le-leb (to - from) 63 few) in
      is3 ∙ ap (λ f. word_of (record f { stride = to - from })) b2 ∙ ap (λ n. word_of (record f2 { stride = n })) (sym kept)

  -- the same without a stride, by an addition
  pub word_added : (kind e : Encoding) (p from to at plain_word marked aligned : ℕ) → kind ≡ e → at ≡ from → from < 2 ^ 48 → plain_word ≡ word_of (plain at 0 kind)
      → marked ≡ word_of (record (fields_of plain_word) { scalar_aligned = true }) → aligned ≡ word_of (record (fields_of marked) { character_aligned = true })
      → aligned ≡ without_stride (word_of (character_fields e from to))
  word_added kind e p from to at plain_word marked aligned same at_is small is0 is1 is2 =
      let fit = λ (f : Fields) (p : f.position ≡ from) (t : f.transcoded ≡ 0) (s : f.stride < 64). let fits : Fit f = record { position = omega (arith, p, small); transcoded = omega (arith, t); stride = omega (arith, s) } in fits in
      let f0 = plain from 0 e in
      let f1 : Fields = record f0 { scalar_aligned = true } in
      let f2 : Fields = record f1 { character_aligned = true } in
      let w0 : plain_word ≡ word_of f0 = is0 ∙ ap (λ k. word_of (plain at 0 k)) same ∙ ap (λ n. word_of (plain n 0 e)) at_is in
      let b0 : fields_of plain_word ≡ f0 = ap fields_of w0 ∙ law f0 (fit f0 refl refl (omega arith)) in
      let b1 : fields_of marked ≡ f1 = ap fields_of (is1 ∙ ap (λ f. word_of (record f { scalar_aligned = true })) b0) ∙ law f1 (fit f1 refl refl (omega arith)) in
      let whole = law (character_fields e from to) (fit (character_fields e from to) refl refl (kept-few (to - from))) in
      is2 ∙ ap (λ f. word_of (record f { character_aligned = true })) b1 ∙ sym (ap (λ f. word_of (record f { stride = 0 })) whole)

-- the index of Character n, by its two ends
pub index_is : (kind e : Encoding) (b : List ℕ) (first end n from to index : ℕ) → kind ≡ e → from ≡ character_position (part_of e b first end) n
    → to ≡ character_position (part_of e b first end) (n + 1) → index ≡ word_of (character_fields kind from to) → index ≡ character_index (part_of e b first end) n
index_is kind e b first end n from to index same from_is to_is is =
    is ∙ ap (λ k. word_of (character_fields k from to)) same ∙ ap (λ p. word_of (character_fields e p to)) from_is
    ∙ ap (λ p. word_of (character_fields e (character_position (part_of e b first end) n) p)) to_is
