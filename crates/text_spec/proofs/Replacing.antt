-- A text with a part replaced, its scalars and its UTF-8.
use Rattle.std.proofs.Common.{◌≡◌, sym, ap, ◌∙◌, ℕ, ◌+◌, ◌-◌, ◌<◌, ◌≤◌, List, ◌++◌, length, take, drop, get_or, slice_index, length-append, arith}
use Rattle.std.proofs.lemmas.List.{take-append-drop, take_at, drop_at, length-take-le, length-drop, get_or-take, get_or-drop, get_or_append_left, get_or-append_right}
use Rattle.std.proofs.lemmas.Str.{encodes-append}
use Rattle.std.specs.Char.{len_utf8}
use Rattle.std.specs.List.{splice}
use Rattle.text_spec.specs.Editing.{replaced}
use Rattle.text_spec.specs.Offsets.{start}
use Rattle.text_spec.specs.Text.{utf8}
use Rattle.text_spec.proofs.Lengths.{start-utf8}

-- ---- the scalars
module _ (text with : List ℕ) (i j : ℕ) (inside : i ≤ length text) where
  pub length-replaced : i ≤ j → j ≤ length text → length (replaced text i j with) + (j - i) ≡ length text + length with
  length-replaced order within =
      omega (arith, length-append (take i text) (with ++ drop j text), length-append with (drop j text), length-take-le i text inside, length-drop j text)

  pub replaced-before : (k : ℕ) → k < i → slice_index (replaced text i j with) k ≡ slice_index text k
  replaced-before k h =
      get_or_append_left (take i text) (with ++ drop j text) 0 k (omega (arith, length-take-le i text inside)) ∙ get_or-take i text k 0 h

  behind-front : (k : ℕ) → slice_index (replaced text i j with) (i + k) ≡ slice_index (with ++ drop j text) k
  behind-front k =
      let n : i + k - i ≡ k = omega arith in
      get_or-append_right (take i text) (with ++ drop j text) i (i + k) 0 (length-take-le i text inside) (omega arith) ∙ ap (slice_index (with ++ drop j text)) n

  pub replaced-within : (k : ℕ) → k < length with → slice_index (replaced text i j with) (i + k) ≡ slice_index with k
  replaced-within k h = behind-front k ∙ get_or_append_left with (drop j text) 0 k h

  pub replaced-behind : (k : ℕ) → slice_index (replaced text i j with) (i + length with + k) ≡ slice_index text (j + k)
  replaced-behind k =
      let n : i + length with + k ≡ i + (length with + k) = omega arith in
      let m : length with + k - length with ≡ k = omega arith in
      ap (slice_index (replaced text i j with)) n ∙ behind-front (length with + k)
      ∙ get_or-append_right with (drop j text) (length with) (length with + k) 0 (omega arith) (omega arith) ∙ ap (slice_index (drop j text)) m ∙ get_or-drop j text k 0

-- ---- the UTF-8 of a front of a text, and of what is behind it
cut : (t : List ℕ) (i : ℕ) → utf8 t ≡ utf8 (take i t) ++ utf8 (drop i t)
cut t i = ap utf8 (sym (take-append-drop i t)) ∙ encodes-append (take i t) (drop i t)

pub front8 : (t : List ℕ) (i : ℕ) → take (start len_utf8 t i) (utf8 t) ≡ utf8 (take i t)
front8 t i = ap (take (start len_utf8 t i)) (cut t i) ∙ take_at (utf8 (take i t)) (utf8 (drop i t)) (start len_utf8 t i) (sym (start-utf8 t i))

pub back8 : (t : List ℕ) (i : ℕ) → drop (start len_utf8 t i) (utf8 t) ≡ utf8 (drop i t)
back8 t i = ap (drop (start len_utf8 t i)) (cut t i) ∙ drop_at (utf8 (take i t)) (utf8 (drop i t)) (start len_utf8 t i) (sym (start-utf8 t i))

-- and of both with another text between them
pub utf8-replaced : (t r : List ℕ) (i j : ℕ) → utf8 (replaced t i j r) ≡ splice (utf8 t) (start len_utf8 t i) (start len_utf8 t j) (utf8 r)
utf8-replaced t r i j =
    sym (ap (λ l. l ++ (utf8 r ++ drop (start len_utf8 t j) (utf8 t))) (front8 t i) ∙ ap (λ l. utf8 (take i t) ++ (utf8 r ++ l)) (back8 t j)
    ∙ ap (λ l. utf8 (take i t) ++ l) (sym (encodes-append r (drop j t))) ∙ sym (encodes-append (take i t) (r ++ drop j t)))
