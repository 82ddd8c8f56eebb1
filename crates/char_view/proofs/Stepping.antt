-- A walk from Character to Character: where it stands, and what it has passed.
use Rattle.std.proofs.Common.{◌≡◌, sym, ap, subst, ◌∙◌, ℕ, suc, ◌+◌, ◌<◌, ◌≤◌, ◌^◌, ⊎_elim, true, List, length, arith}
use Rattle.std.proofs.lemmas.Bool.{cases_lt}
use Rattle.std.specs.Char.{len_utf8}
use Rattle.text_spec.specs.declared.encoding.Encoding.{Encoding}
use Rattle.text_spec.specs.Offsets.{start, down}
use Rattle.text_spec.specs.Views.{width_in, part}
use Rattle.text_spec.proofs.Walk.{start-zero, start-strict, start-mono}
use Rattle.text_spec.proofs.Widths.{width_some}
use Rattle.word_units.specs.Parts.{part_of}
use Rattle.char_view.specs.Answers.{characters_in, character_position, offset_at}
use Rattle.char_view.specs.Characters.{character_sizes, character_start}
use Rattle.char_view.specs.Places.{IsText, IsPlace, own_bytes, own_number}
use Rattle.char_view.specs.Walks.{breaks, HasNone}
use Rattle.char_view.proofs.Cuts.{next_character, start-count, start-more, start-past, start-within, start-ordered, number-few, character_of-inside, character_of-end}
use Rattle.char_view.proofs.Parts.{number_of, cut_at, breaks_at-scalars, before_by_offset, before_by_number, before_in_storage}

module _ (e : Encoding) (b : List ℕ) (first end : ℕ) where
  -- what the next boundary of bytes passes
  pub record IsPassed (number offset position next_offset next_position : ℕ) : Type 0 where
    pub inside : number < characters_in (part_of e b first end)
    pub passed : character_start (part b first end) (number + 1) ≡ own_number (part_of e b first end) next_position
    pub ahead : position < next_position

  pub pass_one : (number offset position next_offset next_position : ℕ) → IsPlace (part_of e b first end) offset position → IsPlace (part_of e b first end) next_offset next_position
      → character_start (part b first end) number ≡ own_number (part_of e b first end) position → offset < next_offset → breaks (own_bytes (part_of e b first end)) next_offset ≡ true
      → HasNone (own_bytes (part_of e b first end)) (offset + 1) next_offset → IsPassed number offset position next_offset next_position
  pass_one number offset position next_offset next_position p q passed before ends none =
      let t = part b first end in
      let ok = p.text.scalars in
      let n = number_of e b first end offset position p in
      let m = number_of e b first end next_offset next_position q in
      let k = own_number (part_of e b first end) position in
      let j = own_number (part_of e b first end) next_position in
      let less : k < j = before_by_offset t k j (omega (arith, before, n.offset_is, m.offset_is)) in
      let there = next_character t number k j passed less m.own (sym (breaks_at-scalars t ok j) ∙ ap (breaks (own_bytes (part_of e b first end))) (sym m.offset_is) ∙ ends)
      (λ i low high.
      sym (breaks_at-scalars t ok i)
      ∙ none (start len_utf8 t i) (omega (arith, n.offset_is, before_by_number t k i low (omega (arith, high, m.own)))) (omega (arith, m.offset_is, before_by_number t i j high m.own)) (cut_at t ok i (omega (arith, high, m.own)))) in
      let next : suc number ≡ number + 1 = omega arith in
      record {
        inside = there.0;
        passed = ap (character_start t) (sym next) ∙ there.1;
        ahead = omega (arith, n.position_is, m.position_is, start-strict (width_in e) (width_some e) b (first + k) (first + j) (omega (arith, less)) (omega (arith, m.inside, p.text.inside)));
      }

  -- where a walk stands
  pub stands : (number offset position : ℕ) → IsPlace (part_of e b first end) offset position → character_start (part b first end) number ≡ own_number (part_of e b first end) position
      → position ≡ character_position (part_of e b first end) number
  stands number offset position p passed =
      let n = number_of e b first end offset position p in n.position_is ∙ ap (λ k. start (width_in e) b (first + k)) (sym passed)

  pub last_number : (number offset position : ℕ) → IsPlace (part_of e b first end) offset position → character_start (part b first end) number ≡ own_number (part_of e b first end) position
      → number ≤ characters_in (part_of e b first end) → start (width_in e) b end ≤ position → number ≡ characters_in (part_of e b first end)
  last_number number offset position p passed within high =
      let t = part b first end in
      let n = number_of e b first end offset position p in
      let all : own_number (part_of e b first end) position ≡ length t = omega (arith, ap (down (width_in e) b) {x = position} {y = start (width_in e) b end} (omega (arith, high, p.high)), p.text.high_number, p.text.size) in
      ⊎_elim
      (λ (h : number < characters_in (part_of e b first end)).
      absurd (omega (arith, start-more t number h, start-ordered t (suc number) (characters_in (part_of e b first end)) h, start-count t, passed, all)))
      (λ (h : characters_in (part_of e b first end) ≤ number). omega (arith, h, within)) (cases_lt number (characters_in (part_of e b first end)))

  pub position-past : (number : ℕ) → IsText (part_of e b first end) → characters_in (part_of e b first end) ≤ number → character_position (part_of e b first end) number ≡ start (width_in e) b end
  position-past number text h =
      let all : first + character_start (part b first end) number ≡ end = omega (arith, start-past (part b first end) number h, text.size, text.order) in
      ap (start (width_in e) b) all

  pub position-first : character_position (part_of e b first end) 0 ≡ start (width_in e) b first
  position-first =
      let none : first + character_start (part b first end) 0 ≡ first = omega (arith, start-zero (λ size. size) (character_sizes (part b first end))) in
      ap (start (width_in e) b) none

  pub position-within : (number : ℕ) → IsText (part_of e b first end) → character_position (part_of e b first end) number ≤ start (width_in e) b end
  position-within number text =
      start-mono (width_in e) b (first + character_start (part b first end) number) end (omega (arith, start-within (part b first end) number, text.size, text.order))

  pub position-ordered : (number : ℕ) → character_position (part_of e b first end) number ≤ character_position (part_of e b first end) (number + 1)
  position-ordered number =
      start-mono (width_in e) b _ _ (omega (arith, start-ordered (part b first end) number (number + 1) (omega arith)))

  pub few_passed : (number : ℕ) → IsText (part_of e b first end) → number ≤ characters_in (part_of e b first end) → number < 2 ^ 48
  few_passed number text within =
      omega (arith, number-few (part b first end) number within, start-within (part b first end) number, text.short)

  -- the Character that a boundary of scalars lies in
  module _ (p number : ℕ) (text : IsText (part_of e b first end)) (boundary : start (width_in e) b (down (width_in e) b p) ≡ p) (low : start (width_in e) b first ≤ p)
      (high : p ≤ start (width_in e) b end) (below : character_position (part_of e b first end) number ≤ p) where
    at_first : first ≤ down (width_in e) b p
    at_first =
        ⊎_elim (λ (l : down (width_in e) b p < first). absurd (omega (arith, low, boundary, start-strict (width_in e) (width_some e) b (down (width_in e) b p) first l (omega (arith, text.order, text.inside)))))
        (λ l. l) (cases_lt (down (width_in e) b p) first)

    pub offset_inside : number < characters_in (part_of e b first end) → p < character_position (part_of e b first end) (number + 1) → number ≡ offset_at (part_of e b first end) p
    offset_inside inside above =
        let t = part b first end in
        let k = own_number (part_of e b first end) p in
        let from_first = at_first in
        let at : first + k ≡ down (width_in e) b p = omega (arith, from_first) in
        let here : p ≡ start (width_in e) b (first + k) = sym boundary ∙ ap (start (width_in e) b) (sym at) in
        let next : number + 1 ≡ suc number = omega arith in
        sym (character_of-inside t number k inside
        (⊎_elim (λ (l : k < character_start t number).
        absurd (omega (arith, below, here, start-strict (width_in e) (width_some e) b (first + k) (first + character_start t number) (omega (arith, l)) (omega (arith, start-within t number, text.size, text.order, text.inside)))))
        (λ l. l) (cases_lt k (character_start t number)))
        (subst (λ m. k < character_start t m) next (before_in_own k (character_start t (number + 1)) (omega (arith, here, above)))))
      where
        before_in_own : (k j : ℕ) → start (width_in e) b (first + k) < start (width_in e) b (first + j) → k < j
        before_in_own k j h = omega (arith, before_in_storage e b (first + k) (first + j) h)

    pub offset_last : number ≡ characters_in (part_of e b first end) → number ≡ offset_at (part_of e b first end) p
    offset_last last =
        let t = part b first end in
        let end_is = position-past number text (omega (arith, last)) in
        let p_is : p ≡ start (width_in e) b end = omega (arith, below, end_is, high) in
        let all : own_number (part_of e b first end) p ≡ length t = omega (arith, ap (down (width_in e) b) p_is, text.high_number, text.size) in
        last ∙ sym (character_of-end t (own_number (part_of e b first end) p) (omega (arith, all)))
