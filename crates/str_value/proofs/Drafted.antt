-- The UTF-8 of a value's text, piece by piece.
use Rattle.std.proofs.Common.{◌≡◌, refl, sym, ap, subst, ◌∙◌, ℕ, suc, ◌+◌, ◌-◌, ◌<◌, ◌≤◌, ⊎_elim, List, [], ◌∷◌, ◌++◌, length, take, drop, slice_index, append_assoc, Bool, true, false, ◌&&◌, arith}
use Rattle.std.proofs.Math.Bool.{true-and, false-and}
use Rattle.std.proofs.Math.Seq.{take-add}
use Rattle.std.proofs.lemmas.Bool.{cases_lt, lt-ltb}
use Rattle.std.proofs.lemmas.List.{get_or_past, take_all, take-append-drop, take-append-le, take-take, length-take-le, length-drop, drop-drop}
use Rattle.std.proofs.lemmas.Str.{encodes-append, encodes-IsAscii}
use Rattle.std.specs.Char.{len_utf8}
use Rattle.std.specs.List.{splice}
use Rattle.text_spec.specs.declared.encoding.Encoding.TheVariants.{Utf8}
use Rattle.text_spec.specs.Boundaries.{IsScalarBoundary}
use Rattle.text_spec.specs.Offsets.{start, down}
use Rattle.text_spec.specs.Text.{utf8}
use Rattle.text_spec.specs.Views.{width_in, part}
use Rattle.text_spec.proofs.Bytes.{length-utf8}
use Rattle.text_spec.proofs.Downward.{down-length}
use Rattle.text_spec.proofs.Replacing.{back8}
use Rattle.text_spec.proofs.Walk.{start-zero, start-strict, down-start}
use Rattle.text_spec.proofs.Widths.{width_some, width_most}
use Rattle.word_units.specs.Filling.{IsPiece}
use Rattle.object_words.specs.Rows.{is_ascii}
use Rattle.str_value.specs.Meaning.{Meaning, storage_of, own_part, byte_place}
use Rattle.str_value.specs.Drafting.{utf8_from}
use Rattle.str_value.proofs.Between.{both-true}
use Rattle.str_value.proofs.Spliced.{ascii-append, ascii-both}

-- ---- a piece that was read: `size` bytes of the buffer from the place `at` to the place `next`
module _ (s : Meaning) (at next size left : ℕ) (buf : List ℕ) (piece : IsPiece (own_part s) at next (take size buf)) (room : size ≤ length buf)
    (sized : byte_place s at + size ≡ byte_place s next)
    (most : next < start (width_in (storage_of (s.row))) (s.text) (length (s.text)) → 64 < size + len_utf8 (slice_index (s.text) (down (width_in (storage_of (s.row))) (s.text) next)))
    (some : 0 < left) (inside : byte_place s at + left ≤ length (utf8 (s.text))) where
  pub piece-some : 0 < size
  piece-some =
      let t = s.text in
      let w = width_in (storage_of (s.row)) in
      let last = down w t next in
      ⊎_elim (λ l. omega (arith, most l, width_most Utf8 (slice_index t last)))
      (λ l.
      let all : last ≡ length t =
      ⊎_elim (λ k. absurd (omega (arith, l, piece.end_boundary, start-strict w (width_some (storage_of (s.row))) t last (length t) k (omega arith)))) (λ k. omega (arith, k, down-length w t next))
      (cases_lt last (length t)) in
      omega (arith, sized, ap (start len_utf8 t) all, length-utf8 t, inside, some))
      (cases_lt next (start w t (length t)))

  pub piece-bytes : (n : ℕ) → n ≤ size → take n buf ≡ utf8_from s at n
  piece-bytes n few =
      let t = s.text in
      let w = width_in (storage_of (s.row)) in
      let j = down w t at in
      let last = down w t next in
      let shown = utf8 (part t j last) in
      let behind = utf8 (drop (last - j) (drop j t)) in
      let long : length shown ≡ size = sym (ap length piece.bytes) ∙ length-take-le size buf room in
      let cut : utf8 (drop j t) ≡ shown ++ behind =
      ap utf8 (sym (take-append-drop (last - j) (drop j t))) ∙ encodes-append (part t j last) (drop (last - j) (drop j t)) in
      sym (take-take n size buf few) ∙ ap (take n) piece.bytes ∙ sym (take-append-le n shown behind (omega (arith, long, few)))
      ∙ ap (take n) (sym cut ∙ sym (back8 t j))

-- ---- pieces one behind another
pub joined : (s : Meaning) (from at d n : ℕ) → byte_place s at ≡ byte_place s from + d → utf8_from s from d ++ utf8_from s at n ≡ utf8_from s from (d + n)
joined s from at d n is =
    let u = utf8 (s.text) in
    ap (λ (l : List ℕ). utf8_from s from d ++ take n l) (ap (λ k. drop k u) is ∙ sym (drop-drop d (byte_place s from) u))
    ∙ sym (take-add d n (drop (byte_place s from) u))

-- once the next n of `left` bytes are read, the value being as it was
module _ (now seen : Meaning) (same : seen ≡ now) (from count at left n next : ℕ) (piece : List ℕ) (some : left ≤ count) (more : 0 < left) (few : n ≤ left)
    (here : 0 < left → byte_place now at ≡ byte_place now from + (count - left))
    (bytes : take n piece ≡ utf8_from seen at n) (behind : n < left → byte_place seen next ≡ byte_place seen at + n) where
  pub piece-is : take n piece ≡ utf8_from now at n
  piece-is = bytes ∙ ap (λ (s : Meaning). utf8_from s at n) same

  pub next-here : 0 < left - n → byte_place now next ≡ byte_place now from + (count - (left - n))
  next-here l =
      omega (arith, here more, behind (omega arith), ap (λ (s : Meaning). byte_place s next) same, ap (λ (s : Meaning). byte_place s at) same)

  pub next-bytes : utf8_from now from (count - left) ++ take n piece ≡ utf8_from now from (count - (left - n))
  next-bytes =
      let size : count - left + n ≡ count - (left - n) = omega arith in
      ap (λ (l : List ℕ). utf8_from now from (count - left) ++ l) piece-is ∙ joined now from at (count - left) n (here more) ∙ ap (utf8_from now from) size

-- ---- the place where the text begins
pub before-none : (s : Meaning) → byte_place s 0 ≡ 0
before-none s =
    let t = s.text in
    let w = width_in (storage_of (s.row)) in
    let none : down w t 0 ≡ 0 = ap (down w t) (sym (start-zero w t)) ∙ down-start w (width_some (storage_of (s.row))) t 0 (omega arith) in
    ap (start len_utf8 t) none ∙ start-zero len_utf8 t

pub begins : (s : Meaning) → IsScalarBoundary (width_in (storage_of (s.row))) (s.text) 0
begins s =
    let t = s.text in
    let w = width_in (storage_of (s.row)) in
    let none : down w t 0 ≡ 0 = ap (down w t) (sym (start-zero w t)) ∙ down-start w (width_some (storage_of (s.row))) t 0 (omega arith) in
    ap (start w t) none ∙ start-zero w t

-- a place of UTF-8 storage
pub before-stored : (s : Meaning) (at : ℕ) → storage_of (s.row) ≡ Utf8 → IsScalarBoundary (width_in (storage_of (s.row))) (s.text) at → byte_place s at ≡ at
before-stored s at is boundary =
    subst (λ e. IsScalarBoundary (width_in e) (s.text) at → start len_utf8 (s.text) (down (width_in e) (s.text) at) ≡ at) (sym is) (λ b. b) boundary

-- the front and the back of a text
pub front-is : (s : Meaning) (n : ℕ) → utf8_from s 0 n ≡ take n (utf8 (s.text))
front-is s n = ap (λ k. take n (drop k (utf8 (s.text)))) (before-none s)

pub back-is : (s : Meaning) (high h n : ℕ) → h ≡ byte_place s high → length (utf8 (s.text)) ≤ h + n → utf8_from s high n ≡ drop h (utf8 (s.text))
back-is s high h n is all =
    let u = utf8 (s.text) in
    take_all n (drop (byte_place s high) u) (omega (arith, length-drop (byte_place s high) u, is)) ∙ ap (λ k. drop k u) (sym is)

-- ---- the mark of ASCII
ascii-low : (bytes : List ℕ) → ((k : ℕ) → slice_index bytes k < 128) → is_ascii bytes ≡ true
ascii-low [] low = refl
ascii-low (b ∷ bytes) low = both-true _ _ (lt-ltb b 128 (low 0)) (ascii-low bytes (λ k. low (suc k)))

each-low : (t : List ℕ) → ((k : ℕ) → k < length t → slice_index t k < 128) → (k : ℕ) → slice_index t k < 128
each-low t low k = ⊎_elim (λ l. low k l) (λ l. omega (arith, get_or_past t k 0 l)) (cases_lt k (length t))

-- of a text whose scalars are ASCII
pub scalars-ascii : (t : List ℕ) → ((k : ℕ) → k < length t → slice_index t k < 128) → is_ascii (utf8 t) ≡ true
scalars-ascii t low =
    let each = each-low t low in
    ap is_ascii (encodes-IsAscii t each) ∙ ascii-low t each

-- of one piece more, and of a text with a piece that isn't
pub ascii-joined : (xs ys zs : List ℕ) → is_ascii xs ≡ true → is_ascii ys ≡ true → xs ++ ys ≡ zs → is_ascii zs ≡ true
ascii-joined xs ys zs a b is = sym (ap is_ascii is) ∙ ascii-append xs ys ∙ both-true _ _ a b

pub ascii-stops : (s : Meaning) (from at d n count : ℕ) → byte_place s at ≡ byte_place s from + d → d + n ≤ count → is_ascii (utf8_from s from d) ≡ true
    → is_ascii (utf8_from s at n) ≡ false → false ≡ is_ascii (utf8_from s from count)
ascii-stops s from at d n count is inside a b =
    let xs = drop (byte_place s from) (utf8 (s.text)) in
    let rest = take (count - (d + n)) (drop (d + n) xs) in
    let size : count ≡ (d + n) + (count - (d + n)) = omega arith in
    let front : is_ascii (utf8_from s from (d + n)) ≡ false =
    sym (ap is_ascii (joined s from at d n is)) ∙ ascii-append (utf8_from s from d) (utf8_from s at n) ∙ ap (λ x. x && is_ascii (utf8_from s at n)) a
    ∙ true-and (is_ascii (utf8_from s at n)) ∙ b in
    sym (ap (λ m. is_ascii (take m xs)) size ∙ ap is_ascii (take-add (d + n) (count - (d + n)) xs) ∙ ascii-append (utf8_from s from (d + n)) rest
    ∙ ap (λ x. x && is_ascii rest) front ∙ false-and (is_ascii rest))

pub ascii-cut_off : (xs : List ℕ) (d n count : ℕ) → d + n ≤ count → is_ascii (take d xs) ≡ true → is_ascii (take n (drop d xs)) ≡ false → false ≡ is_ascii (take count xs)
ascii-cut_off xs d n count inside a b =
    let rest = take (count - (d + n)) (drop (d + n) xs) in
    let size : count ≡ (d + n) + (count - (d + n)) = omega arith in
    let front : is_ascii (take (d + n) xs) ≡ false =
    ap is_ascii (take-add d n xs) ∙ ascii-append (take d xs) (take n (drop d xs)) ∙ ap (λ x. x && is_ascii (take n (drop d xs))) a
    ∙ true-and (is_ascii (take n (drop d xs))) ∙ b in
    sym (ap (λ m. is_ascii (take m xs)) size ∙ ap is_ascii (take-add (d + n) (count - (d + n)) xs) ∙ ascii-append (take (d + n) xs) rest
    ∙ ap (λ x. x && is_ascii rest) front ∙ false-and (is_ascii rest))

-- of the new text, by those of its front and its back where what is added is ASCII
pub ascii-spliced : (s : Meaning) (low high h n : ℕ) (with : List ℕ) (front back : Bool) → h ≡ byte_place s high → length (utf8 (s.text)) ≤ h + n
    → is_ascii with ≡ true → front ≡ is_ascii (utf8_from s 0 low) → back ≡ is_ascii (utf8_from s high n) → (front && back) ≡ is_ascii (splice (utf8 (s.text)) low h with)
ascii-spliced s low high h n with front back is all added a b =
    let u = utf8 (s.text) in
    ap (λ x. x && back) (a ∙ ap is_ascii (front-is s low)) ∙ ap (λ x. is_ascii (take low u) && x) (b ∙ ap is_ascii (back-is s high h n is all)) ∙ ascii-both u with low h added

-- ---- the new text in three pieces
pub three-pieces : (s : Meaning) (low high h n : ℕ) (with : List ℕ) → h ≡ byte_place s high → length (utf8 (s.text)) ≤ h + n
    → (utf8_from s 0 low ++ with) ++ utf8_from s high n ≡ splice (utf8 (s.text)) low h with
three-pieces s low high h n with is all =
    append_assoc (utf8_from s 0 low) with (utf8_from s high n) ∙ ap (λ (l : List ℕ). l ++ (with ++ utf8_from s high n)) (front-is s low)
    ∙ ap (λ (l : List ℕ). take low (utf8 (s.text)) ++ (with ++ l)) (back-is s high h n is all)
