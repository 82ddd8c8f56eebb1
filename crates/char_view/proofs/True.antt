-- The index of a Character is true of its text where it keeps a stride.
use Rattle.std.proofs.Common.{◌≡◌, ◌≢◌, sym, ap, ◌∙◌, ℕ, suc, ◌+◌, ◌-◌, ◌<◌, ◌≤◌, ⊎_elim, nat_le, List, arith}
use Rattle.std.proofs.lemmas.Bool.{cases_lt, cond-true, cond-false, le-leb, lt-leb}
use Rattle.text_spec.specs.declared.encoding.Encoding.{Encoding}
use Rattle.text_spec.specs.Offsets.{start, down}
use Rattle.text_spec.specs.Views.{width_in, part}
use Rattle.text_spec.proofs.Walk.{start-mono, start-le, start-strict, down-start}
use Rattle.text_spec.proofs.Widths.{width_some}
use Rattle.index_words.specs.Fields.{Fields, Fit, position_of, stride_of, fields_of, word_of}
use Rattle.word_units.specs.Parts.{part_of}
use Rattle.char_view.specs.Answers.{character_fields, character_index, character_position, characters_in, kept_stride, offset_at, IsTrueAt}
use Rattle.char_view.specs.Characters.{character_start}
use Rattle.char_view.specs.Places.{IsText}
use Rattle.char_view.proofs.Cuts.{start-more, start-within}
use Rattle.char_view.proofs.Indexing.{kept-few}
use Rattle.char_view.proofs.Stepping.{position-past, position-within, offset_inside}

pub true_where_kept : (law : (fields : Fields) → Fit fields → fields_of (word_of fields) ≡ fields) (e : Encoding) (b : List ℕ) (first end n : ℕ) → IsText (part_of e b first end)
    → stride_of (character_index (part_of e b first end) n) ≢ 0
    → IsTrueAt (part_of e b first end) (character_index (part_of e b first end) n) (offset_at (part_of e b first end) (position_of (character_index (part_of e b first end) n)))
true_where_kept law e b first end n text some =
    let w = width_in e in
    let t = part b first end in
    let from = character_position (part_of e b first end) n in
    let to = character_position (part_of e b first end) (n + 1) in
    let f = character_fields e from to in
    let high = position-within e b first end n text in
    let fit : Fit f = record {
      position = omega (arith, high, start-le w b end, text.small);
      transcoded = omega arith;
      stride = kept-few (to - from);
    } in
    let read : fields_of (word_of f) ≡ f = law f fit in
    let position_is : position_of (word_of f) ≡ from = ap (λ fields. fields.position) read in
    let stride_is : stride_of (word_of f) ≡ kept_stride (to - from) = ap (λ fields. fields.stride) read in
    let kept : kept_stride (to - from) ≡ to - from =
    ⊎_elim (λ (h : to - from < 64). cond-true (nat_le (to - from) 63) (to - from) 0 (le-leb (to - from) 63 (omega (arith, h))))
    (λ (h : 64 ≤ to - from). absurd (some (stride_is ∙ cond-false (nat_le (to - from) 63) (to - from) 0 (lt-leb (to - from) 63 (omega (arith, h)))))) (cases_lt (to - from) 64) in
    let inside : n < characters_in (part_of e b first end) =
    ⊎_elim (λ h. h)
    (λ (h : characters_in (part_of e b first end) ≤ n). absurd (some (omega (arith, stride_is, kept, position-past e b first end n text h, position-past e b first end (n + 1) text (omega (arith, h)))))) (cases_lt n (characters_in (part_of e b first end))) in
    let next : suc n ≡ n + 1 = omega arith in
    let above : from < to = start-strict w (width_some e) b (first + character_start t n) (first + character_start t (n + 1)) (omega (arith, start-more t n inside, ap (character_start t) next))
    (omega (arith, start-within t (n + 1), text.size, text.order, text.inside)) in
    let boundary : start w b (down w b from) ≡ from =
    ap (start w b) (down-start w (width_some e) b (first + character_start t n) (omega (arith, start-within t n, text.size, text.order, text.inside))) in
    let low : start w b first ≤ from = start-mono w b first (first + character_start t n) (omega arith) in
    let here : n ≡ offset_at (part_of e b first end) from = offset_inside e b first end from n text boundary low high (omega arith) inside above in
    let number : n ≡ offset_at (part_of e b first end) (position_of (word_of f)) = here ∙ ap (offset_at (part_of e b first end)) (sym position_is) in
    let ends : position_of (word_of f) + stride_of (word_of f) ≡ to = omega (arith, position_is, stride_is, kept, above) in
    record {
      resolved = record {
        marked8 = ap (λ fields. fields.utf8) read;
        marked16 = ap (λ fields. fields.utf16) read;
        not_below = omega (arith, low, position_is);
        not_above = omega (arith, high, position_is);
      };
      inside = omega (arith, inside, number);
      position = position_is ∙ ap (character_position (part_of e b first end)) number;
      none_passed = ap (λ fields. fields.transcoded) read;
      stride = ends ∙ ap (λ k. character_position (part_of e b first end) (k + 1)) number;
    }
