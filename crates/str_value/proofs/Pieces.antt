-- The pieces before and behind a part, where all that is left of the text is short.
use Rattle.std.proofs.Common.{◌≡◌, refl, sym, ap, subst, ◌∙◌, ℕ, ◌+◌, ◌-◌, ◌<◌, ◌≤◌, ⊎_elim, List, ◌++◌, length, take, drop, slice_index, length-append, arith}
use Rattle.std.proofs.lemmas.Bool.{cases_lt}
use Rattle.std.proofs.lemmas.List.{take_at, take_all, take-take, take-append-le, take-append-drop, length-take-le, length-drop}
use Rattle.std.proofs.lemmas.Str.{encodes-append}
use Rattle.std.specs.Char.{len_utf8}
use Rattle.text_spec.specs.declared.encoding.Encoding.{Encoding}
use Rattle.text_spec.specs.declared.encoding.Encoding.TheVariants.{Utf8}
use Rattle.text_spec.specs.Offsets.{start, down}
use Rattle.text_spec.specs.Text.{utf8}
use Rattle.text_spec.specs.Views.{width_in, part}
use Rattle.text_spec.proofs.Bytes.{length-utf8}
use Rattle.text_spec.proofs.Downward.{down-length}
use Rattle.text_spec.proofs.Walk.{start-zero, start-strict, start-le, start-mono, down-start}
use Rattle.text_spec.proofs.Widths.{width_some, width_most}
use Rattle.word_units.specs.Filling.{IsPiece}
use Rattle.word_units.specs.Parts.{all_of}
use Rattle.std.specs.List.{splice}
use Rattle.str_value.specs.Meaning.{Meaning, storage_of, own_part, text_between}
use Rattle.text_spec.proofs.Replacing.{back8}
use Rattle.str_value.proofs.Between.{down-mono}
use Rattle.str_value.proofs.Spliced.{length-splice, number, part8}

-- `size` bytes of the buffer are the scalars from `from` to `to`, and no more had room in 64 bytes
module _ (e : Encoding) (t : List ℕ) (from to size : ℕ) (buf : List ℕ) (piece : IsPiece (all_of e t) from to (take size buf)) (room : size ≤ length buf)
    (most : to < start (width_in e) t (length t) → 64 < size + len_utf8 (slice_index t (down (width_in e) t to))) where
  last : ℕ
  last = down (width_in e) t to

  sized : start len_utf8 t (down (width_in e) t from) + size ≡ start len_utf8 t last
  unfolding last
  sized = omega (arith, piece.size, length-take-le size buf room)

  -- it stops early only behind more than 60 bytes
  stops : last < length t → 60 < size
  unfolding last
  stops l =
      let scalar = slice_index t (down (width_in e) t to) in
      omega (arith, most (omega (arith, piece.end_boundary, start-strict (width_in e) (width_some e) t last (length t) l (omega arith))), width_most Utf8 scalar)

  pub piece-front : (n : ℕ) → from ≡ 0 → n ≤ length (utf8 t) → n ≤ 15 → (n ≤ size) × (take n buf ≡ take n (utf8 t))
  unfolding last
  piece-front n at_start is few =
      let zero-is : down (width_in e) t from ≡ 0 =
      ap (down (width_in e) t) (at_start ∙ sym (start-zero (width_in e) t)) ∙ down-start (width_in e) (width_some e) t 0 (omega arith) in
      let before : size ≡ start len_utf8 t last = omega (arith, sized, ap (start len_utf8 t) zero-is, start-zero len_utf8 t) in
      let reaches : n ≤ size =
      ⊎_elim (λ l. omega (arith, stops l, few))
      (λ l. let all : last ≡ length t = omega (arith, l, down-length (width_in e) t to) in omega (arith, is, length-utf8 t, before, ap (start len_utf8 t) all))
      (cases_lt last (length t)) in
      let none : last - 0 ≡ last = omega arith in
      let bytes : take size buf ≡ utf8 (take last t) = piece.bytes ∙ ap (λ k. utf8 (part t k last)) zero-is ∙ ap (λ n. utf8 (take n t)) none in
      let long : length (utf8 (take last t)) ≡ size = sym (ap length bytes) ∙ length-take-le size buf room in (
        reaches,
        sym (take-take n size buf reaches) ∙ ap (take n) bytes
            ∙ sym (take-append-le n (utf8 (take last t)) (utf8 (drop last t)) (omega (arith, long, reaches)))
            ∙ ap (take n) (sym (encodes-append (take last t) (drop last t)) ∙ ap utf8 (take-append-drop last t)),
      )

  pub piece-back : (n : ℕ) → n ≡ start len_utf8 t (down (width_in e) t from) → length (utf8 t) ≤ n + 15 → take size buf ≡ drop n (utf8 t)
  unfolding last
  piece-back n is few =
      let j = down (width_in e) t from in
      let all : length t ≤ last =
      ⊎_elim (λ l. absurd (omega (arith, stops l, sized, is, few, start-le len_utf8 t last, length-utf8 t))) (λ l. l) (cases_lt last (length t)) in
      piece.bytes ∙ ap utf8 (take_all (last - j) (drop j t) (omega (arith, length-drop j t, all)))
      ∙ sym (back8 t j) ∙ ap (λ k. drop k (utf8 t)) (sym is)

  -- a short part that begins where the piece does is a front of it
  pub piece-part : (high n : ℕ) → from ≤ high → n ≡ length (utf8 (part t (down (width_in e) t from) (down (width_in e) t high))) → n ≤ 15
      → take n buf ≡ utf8 (part t (down (width_in e) t from) (down (width_in e) t high))
  unfolding last
  piece-part high n order is few =
      let i = down (width_in e) t from in
      let j = down (width_in e) t high in
      let ends = part8 t i j (down-mono (width_in e) t from high order) in
      let reaches : j ≤ last =
      ⊎_elim (λ l. absurd (omega (arith, stops (omega (arith, l, down-length (width_in e) t high)), sized, start-mono len_utf8 t last j (omega (arith, l)), ends, is, few))) (λ l. l) (cases_lt last j) in
      let shown = part t i j in
      let behind = drop (j - i) (part t i last) in
      let cut : part t i last ≡ shown ++ behind =
      sym (take-append-drop (j - i) (part t i last)) ∙ ap (λ x. x ++ behind) (take-take (j - i) (last - i) (drop i t) (omega (arith, reaches))) in
      let inside : n ≤ size = omega (arith, sized, ends, is, start-mono len_utf8 t j last reaches) in
      sym (take-take n size buf inside) ∙ ap (take n) (piece.bytes ∙ ap utf8 cut ∙ encodes-append shown behind) ∙ take_at (utf8 shown) (utf8 behind) n (sym is)

-- both pieces with a text between them
module _ (now seen : Meaning) (same : seen ≡ now) (high l h : ℕ) (with : List ℕ) (is : h ≡ start len_utf8 (now.text) (number now high))
    (order : l ≤ h) (inside : h ≤ length (utf8 (now.text))) (few : length (splice (utf8 (now.text)) l h with) ≤ 15)
    (to size : ℕ) (buf : List ℕ) (piece : IsPiece (own_part now) 0 to (take size buf)) (room : size ≤ length buf)
    (most : to < start (width_in (storage_of (now.row))) (now.text) (length (now.text)) → 64 < size + len_utf8 (slice_index (now.text) (number now to)))
    (to-2 size-2 : ℕ) (buf-2 : List ℕ) (piece-2 : IsPiece (own_part seen) high to-2 (take size-2 buf-2)) (room-2 : size-2 ≤ length buf-2)
    (most-2 : to-2 < start (width_in (storage_of (seen.row))) (seen.text) (length (seen.text))
    → 64 < size-2 + len_utf8 (slice_index (seen.text) (number seen to-2))) where
  long : length (splice (utf8 (now.text)) l h with) ≡ length (utf8 (now.text)) - (h - l) + length with
  long = length-splice (utf8 (now.text)) with l h order inside

  pub pieces-joined : take l buf ++ (with ++ take size-2 buf-2) ≡ splice (utf8 (now.text)) l h with
  pieces-joined =
      let front = (piece-front (storage_of (now.row)) (now.text) 0 to size buf piece room most l refl (omega arith) (omega (arith, few, long))).1 in
      let back =
      piece-back (storage_of (now.row)) (now.text) high to-2 size-2 buf-2
      (subst (λ m. IsPiece (own_part m) high to-2 (take size-2 buf-2)) same piece-2) room-2
      (subst (λ m. to-2 < start (width_in (storage_of (m.row))) (m.text) (length (m.text)) → 64 < size-2 + len_utf8 (slice_index (m.text) (number m to-2))) same most-2)
      h is (omega (arith, few, long)) in
      ap (λ x. x ++ (with ++ take size-2 buf-2)) front ∙ ap (λ x. take l (utf8 (now.text)) ++ (with ++ x)) back

  pub pieces-few : length (take l buf) + length with + length (take size-2 buf-2) ≤ 15
  pieces-few =
      omega (arith, ap length pieces-joined, few, length-append (take l buf) (with ++ take size-2 buf-2), length-append with (take size-2 buf-2))

-- a short part of a value's text, read from where it begins
pub part-of_piece : (now seen : Meaning) → seen ≡ now → (low high n to size : ℕ) (buf : List ℕ) → IsPiece (own_part seen) low to (take size buf) → size ≤ length buf
    → (to < start (width_in (storage_of (seen.row))) (seen.text) (length (seen.text)) → 64 < size + len_utf8 (slice_index (seen.text) (number seen to)))
    → low ≤ high → n ≡ length (utf8 (text_between now low high)) → n ≤ 15 → take n buf ≡ utf8 (text_between now low high)
part-of_piece now seen same low high n to size buf piece room most order is few =
    piece-part (storage_of (now.row)) (now.text) low to size buf (subst (λ m. IsPiece (own_part m) low to (take size buf)) same piece) room
    (subst (λ m. to < start (width_in (storage_of (m.row))) (m.text) (length (m.text)) → 64 < size + len_utf8 (slice_index (m.text) (number m to))) same most)
    high n order is few
