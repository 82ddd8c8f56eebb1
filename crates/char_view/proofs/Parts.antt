-- The text of a storage, its UTF-8, and where scalars lie in both.
use Rattle.std.proofs.Common.{◌≡◌, refl, sym, ap, subst, ◌∙◌, ℕ, zero, suc, ◌+◌, ◌-◌, ◌*◌, ◌<◌, ◌≤◌, ◌^◌, ⊎_elim, inl, inr, true, List, [], ◌∷◌, ◌++◌, length, take, drop, get_or, arith, Some}
use Rattle.std.proofs.lemmas.Bool.{cases_lt, and_parts, lt-ltb, cond-true}
use Rattle.std.proofs.lemmas.List.{take-append-drop, length-take-le, length-drop, get_or-take, get_or-drop}
use Rattle.std.proofs.lemmas.Str.{chars-encodes, encodes-append, len_utf8_bounds}
use Rattle.std.proofs.Math.Seq.{take-append_seam, drop-append_seam}
use Rattle.std.proofs.str.Utf16.{lone_unit_char_low, lone_unit_char_high, lone_unit_char_surrogate}
use Rattle.std.specs.Char.{encode_utf8, len_utf8, IsScalar}
use Rattle.std.specs.Char.Utf16.{utf16_lossy_chars, lone_unit_char, surrogate_pair_char}
use Rattle.std.specs.Option.{unwrap_or}
use Rattle.std.specs.Prelude.{reverse}
use Rattle.std.specs.Str.{all_scalars, encode_utf8_all, chars, IsCharBoundary}
use Rattle.unicode_segmentation.specs.Grapheme.{is_grapheme_break}
use Rattle.unicode_segmentation.specs.Segments.{breaks_at}
use Rattle.text_spec.specs.declared.encoding.Encoding.{Encoding}
use Rattle.text_spec.specs.declared.encoding.Encoding.TheVariants.{Utf8, Utf16}
use Rattle.text_spec.specs.Offsets.{len_utf16, start, down}
use Rattle.text_spec.specs.Packed.{denoted_text, units_of}
use Rattle.text_spec.specs.Views.{width_in, size_in, part}
use Rattle.text_spec.proofs.Bytes.{length-utf8, covered, byte-after, lead-boundary, floor-end, decoded}
use Rattle.text_spec.proofs.Denoting.{utf8_words, utf16_words}
use Rattle.text_spec.proofs.Downward.{down-length}
use Rattle.text_spec.proofs.Lengths.{start-utf8}
use Rattle.text_spec.proofs.Repaired.{Stands16, read16, pair_cases}
use Rattle.text_spec.proofs.Walk.{start-mono, start-le, start-strict, start-suc, down-start}
use Rattle.text_spec.proofs.Widths.{width_some, len8_some}
use Rattle.word_units.specs.Parts.{part_of}
use Rattle.char_view.specs.Characters.{is_character_boundary}
use Rattle.char_view.specs.Places.{IsText, IsPlace, own_bytes, own_number}

-- ---- scalars
cons-scalars : (c : ℕ) (t : List ℕ) → IsScalar c → all_scalars t ≡ true → all_scalars (c ∷ t) ≡ true
cons-scalars c t h i = rw (h, i) refl

pub scalars-take : (t : List ℕ) (k : ℕ) → all_scalars t ≡ true → all_scalars (take k t) ≡ true
scalars-take [] zero h = refl
scalars-take [] (suc k) h = refl
scalars-take (c ∷ t) zero h = refl
scalars-take (c ∷ t) (suc k) h = let p = and_parts _ _ h in cons-scalars c (take k t) p.0 (scalars-take t k p.1)

pub scalars-drop : (t : List ℕ) (k : ℕ) → all_scalars t ≡ true → all_scalars (drop k t) ≡ true
scalars-drop [] zero h = refl
scalars-drop [] (suc k) h = refl
scalars-drop (c ∷ t) zero h = h
scalars-drop (c ∷ t) (suc k) h = scalars-drop t k (and_parts _ _ h).1

scalars-each : (t : List ℕ) → ((k : ℕ) → k < length t → IsScalar (get_or t k 0)) → all_scalars t ≡ true
scalars-each [] each = refl
scalars-each (c ∷ t) each = let first : IsScalar c = each 0 (omega arith) in cons-scalars c t first (scalars-each t (λ k h. each (suc k) (omega (arith, h))))

low_scalar : (c : ℕ) → c < 0xD800 → IsScalar c
low_scalar c h = cond-true _ _ _ (lt-ltb c 55296 h)

high_scalar : (c : ℕ) → 0xE000 ≤ c → c < 0x11_0000 → IsScalar c
high_scalar c low high = grind (arith, low, high)

-- units that are repaired read as scalars
repaired : (us : List ℕ) (fits : (i : ℕ) → get_or us i 0 < 65536) → all_scalars (utf16_lossy_chars us) ≡ true
repaired us fits = scalars-each (utf16_lossy_chars us) (λ k h. at k (read16 us fits k h))
  where
    lone : (u : ℕ) → u < 65536 → IsScalar (unwrap_or (lone_unit_char u) 0xFFFD)
    lone u h =
        ⊎_elim (λ a. subst (λ o. IsScalar (unwrap_or o 0xFFFD)) (sym (lone_unit_char_low u a)) (low_scalar u a))
        (λ a. ⊎_elim (λ b. subst (λ o. IsScalar (unwrap_or o 0xFFFD)) (sym (lone_unit_char_surrogate u a b)) refl)
        (λ b. subst (λ o. IsScalar (unwrap_or o 0xFFFD)) (sym (lone_unit_char_high u b)) (high_scalar u b (omega arith))) (cases_lt u 0xE000)) (cases_lt u 0xD800)

    at : (k : ℕ) → Stands16 us fits (start len_utf16 (utf16_lossy_chars us) k) (get_or (utf16_lossy_chars us) k 0) → IsScalar (get_or (utf16_lossy_chars us) k 0)
    at k s =
        let q = start len_utf16 (utf16_lossy_chars us) k in
        ⊎_elim (λ p. subst IsScalar (sym (s.pair p).0) (high_scalar (surrogate_pair_char (get_or us q 0) (get_or us (q + 1) 0)) (omega arith) (omega (arith, p.0, p.1, p.2, p.3))))
        (λ no. subst IsScalar (sym (s.alone no).0) (lone (get_or us q 0) (fits q))) (pair_cases (get_or us q 0) (get_or us (q + 1) 0))

denoted_scalars : (e : Encoding) (ws : List ℕ) (n : ℕ) (b : List ℕ) → denoted_text e ws n ≡ Some b → all_scalars b ≡ true
denoted_scalars Utf8 ws n b is = let w = utf8_words ws n b is in w.scalars
denoted_scalars Utf16 ws n b is = let w = utf16_words ws n b is in subst (λ t. all_scalars t ≡ true) w.text (repaired (units_of ws n) w.fits)

-- ---- parts
length-part : (b : List ℕ) (first end : ℕ) → end ≤ length b → length (part b first end) ≡ end - first
length-part b first end inside = length-take-le (end - first) (drop first b) (omega (arith, length-drop first b))

start-take : (w : ℕ → ℕ) (t : List ℕ) (end k : ℕ) → k ≤ end → start w (take end t) k ≡ start w t k
start-take w [] zero k h = refl
start-take w [] (suc end) k h = refl
start-take w (c ∷ t) zero zero h = refl
start-take w (c ∷ t) zero (suc k) h = absurd (omega arith)
start-take w (c ∷ t) (suc end) zero h = refl
start-take w (c ∷ t) (suc end) (suc k) h = omega (arith, start-take w t end k (omega arith))

start-drop : (w : ℕ → ℕ) (t : List ℕ) (first k : ℕ) → start w t first + start w (drop first t) k ≡ start w t (first + k)
start-drop w [] zero k = refl
start-drop w [] (suc first) k = refl
start-drop w (c ∷ t) zero k = omega (arith, ap (start w (c ∷ t)) {x = k} {y = 0 + k} (omega arith))
start-drop w (c ∷ t) (suc first) k = omega (arith, start-drop w t first k, ap (start w (c ∷ t)) {x = suc (first + k)} {y = suc first + k} (omega arith))

-- where scalar k of the part begins in the whole
pub start-part : (w : ℕ → ℕ) (b : List ℕ) (first end k : ℕ) → k ≤ end - first → start w b first + start w (part b first end) k ≡ start w b (first + k)
start-part w b first end k h = omega (arith, start-drop w b first k, start-take w (drop first b) (end - first) k h)

-- at most four bytes for each unit of the storage
bytes-few : (e : Encoding) (t : List ℕ) (k : ℕ) → start len_utf8 t k ≤ 4 * start (width_in e) t k
bytes-few e [] k = omega arith
bytes-few e (c ∷ t) zero = omega arith
bytes-few e (c ∷ t) (suc k) = omega (arith, bytes-few e t k, len_utf8_bounds c, width_some e c)

-- and a unit at least for each scalar
number-most : (e : Encoding) (t : List ℕ) (k : ℕ) → k ≤ length t → k ≤ start (width_in e) t k
number-most e [] k h = omega (arith, h)
number-most e (c ∷ t) zero h = omega arith
number-most e (c ∷ t) (suc k) h = omega (arith, number-most e t k (omega (arith, h)), width_some e c)

pub text_of : (e : Encoding) (ws : List ℕ) (n : ℕ) (b : List ℕ) (first end : ℕ) → n ≡ size_in e b → n < 2 ^ 48 → denoted_text e ws n ≡ Some b
    → first ≤ end → end ≤ length b → IsText (part_of e b first end)
text_of e ws n b first end long small is order inside =
    let w = width_in e in
    let t = part b first end in
    let ok : all_scalars t ≡ true = scalars-take (drop first b) (end - first) (scalars-drop b first (denoted_scalars e ws n b is)) in
    let size = length-part b first end inside in
    record {
      order = order;
      inside = inside;
      scalars = ok;
      utf8 = (t, (ok, refl));
      size = size;
      small = omega (arith, long, small);
      few = omega (
        arith,
        length-utf8 t,
        bytes-few e t (length t),
        start-part w b first end (length t) (omega (arith, size)),
        start-le w b (first + length t),
        long,
        small,
      );
      short = omega (
        arith,
        number-most e t (length t) (omega arith),
        start-part w b first end (length t) (omega (arith, size)),
        start-le w b (first + length t),
        long,
        small,
      );
      low_number = down-start w (width_some e) b first (omega (arith, order, inside));
      high_number = down-start w (width_some e) b end inside;
    }

-- ---- bytes
-- where a scalar begins the bytes may be cut, and nowhere else
module _ (t : List ℕ) (ok : all_scalars t ≡ true) where
  cut_from_start : (q : ℕ) → q ≤ length (encode_utf8_all t) → start len_utf8 t (down len_utf8 t q) ≡ q → IsCharBoundary (encode_utf8_all t) q
  cut_from_start q h at = (
    h,
    λ inside wide.
        let here = covered t ok q inside in
        let first = byte-after t ok q 0 inside at (omega (arith, here.width.0)) in
        let e : q + 0 ≡ q = omega arith in
        let same : get_or (encode_utf8_all t) q 0 ≡ get_or (encode_utf8 (get_or t (down len_utf8 t q) 0)) 0 0 = ap (λ n. get_or (encode_utf8_all t) n 0) (sym e) ∙ first in
        let c = get_or t (down len_utf8 t q) 0 in
        ⊎_elim (λ (a : get_or (encode_utf8 c) 0 0 < 128). absurd (omega arith)) (λ (a : 192 ≤ get_or (encode_utf8 c) 0 0). omega arith) (decoded c here.scalar).lead,
  )

  pub start_from_cut : (q : ℕ) → IsCharBoundary (encode_utf8_all t) q → start len_utf8 t (down len_utf8 t q) ≡ q
  start_from_cut q cut =
      ⊎_elim
      (λ inside.
      ⊎_elim (λ low. omega (arith, lead-boundary t ok q inside (inl low)))
      (λ high. lead-boundary t ok q inside (inr (cut.1 inside high))) (cases_lt (get_or (encode_utf8_all t) q 0) 128))
      (λ past. floor-end t q (omega (arith, cut.0))) (cases_lt q (length (encode_utf8_all t)))

  pub cut_at : (k : ℕ) → k ≤ length t → IsCharBoundary (encode_utf8_all t) (start len_utf8 t k)
  cut_at k h =
      cut_from_start (start len_utf8 t k) (omega (arith, start-le len_utf8 t k, length-utf8 t)) (ap (start len_utf8 t) (down-start len_utf8 len8_some t k h))

  -- a boundary by bytes is a boundary by scalars
  pub breaks_at-scalars : (k : ℕ) → breaks_at (is_grapheme_break true) (encode_utf8_all t) (start len_utf8 t k) ≡ is_character_boundary t k
  breaks_at-scalars k =
      let front = encode_utf8_all (take k t) in
      let back = encode_utf8_all (drop k t) in
      let halves : encode_utf8_all t ≡ front ++ back = ap encode_utf8_all (sym (take-append-drop k t)) ∙ encodes-append (take k t) (drop k t) in
      ap (breaks_at (is_grapheme_break true) (encode_utf8_all t)) (start-utf8 t k)
      ∙ ap (λ bs. breaks_at (is_grapheme_break true) bs (length front)) halves
      ∙ ap (λ bs. is_grapheme_break true (reverse (chars bs)) (chars (drop (length front) (front ++ back)))) (take-append_seam front back)
      ∙ ap (λ bs. is_grapheme_break true (reverse (chars front)) (chars bs)) (drop-append_seam front back)
      ∙ ap (λ cs. is_grapheme_break true (reverse cs) (chars back)) (chars-encodes (take k t) (scalars-take t k ok))
      ∙ ap (λ cs. is_grapheme_break true (reverse (take k t)) cs) (chars-encodes (drop k t) (scalars-drop t k ok))

-- ---- places
-- scalar k of the text, as a place
pub place_of : (e : Encoding) (b : List ℕ) (first end k offset position : ℕ) → IsText (part_of e b first end) → first + k ≤ end
    → offset ≡ start len_utf8 (part b first end) k → position ≡ start (width_in e) b (first + k) → IsPlace (part_of e b first end) offset position
place_of e b first end k offset position text inside offset_is position_is =
    let w = width_in e in
    let t = part b first end in
    let number : down w b position ≡ first + k = ap (down w b) position_is ∙ down-start w (width_some e) b (first + k) (omega (arith, inside, text.inside)) in
    let own : down w b position - first ≡ k = omega (arith, number) in
    let long : length (own_bytes (part_of e b first end)) ≡ start len_utf8 t (length t) = length-utf8 t in
    let whole : first + length t ≡ end = omega (arith, text.size, text.order) in
    let cut = cut_at t text.scalars k (omega (arith, inside, whole)) in
    record {
      text = text;
      boundary = ap (start w b) number ∙ sym position_is;
      low = omega (arith, position_is, start-mono w b first (first + k) (omega arith));
      high = omega (arith, position_is, start-mono w b (first + k) end inside);
      after_first = omega (arith, number);
      before_end = omega (arith, number, inside);
      offset_is = offset_is ∙ ap (start len_utf8 t) (sym own);
      cut = subst (IsCharBoundary (own_bytes (part_of e b first end))) (sym offset_is) cut;
      within = omega (arith, cut.0, offset_is);
      small = omega (arith, position_is, start-le w b (first + k), text.small);
      few = omega (arith, cut.0, offset_is, text.few);
      at_end = λ h.
          let last : first + k ≡ end = ⊎_elim (λ (l : k < length t). absurd (omega (arith, h, offset_is, long, start-strict len_utf8 len8_some t k (length t) l (omega arith)))) (λ (l : length t ≤ k). omega (arith, l, whole, inside)) (cases_lt k (length t)) in
          position_is ∙ ap (start w b) last;
      is_end = λ h.
          let last : k ≡ length t = ⊎_elim (λ (l : first + k < end). absurd (omega (arith, h, position_is, start-strict w (width_some e) b (first + k) end l text.inside))) (λ (l : end ≤ first + k). omega (arith, l, whole, inside)) (cases_lt (first + k) end) in
          offset_is ∙ ap (start len_utf8 t) last ∙ sym long;
    }

-- and a place as a scalar
pub record IsNumber (e : Encoding) (b : List ℕ) (first end k offset position : ℕ) : Type 0 where
  pub inside : first + k ≤ end
  pub own : k ≤ length (part b first end)
  pub whole : first + k ≡ down (width_in e) b position
  pub offset_is : offset ≡ start len_utf8 (part b first end) k
  pub position_is : position ≡ start (width_in e) b (first + k)

pub number_of : (e : Encoding) (b : List ℕ) (first end offset position : ℕ) → IsPlace (part_of e b first end) offset position
    → IsNumber e b first end (own_number (part_of e b first end) position) offset position
number_of e b first end offset position p =
    let whole : first + own_number (part_of e b first end) position ≡ down (width_in e) b position = omega (arith, p.after_first) in
    record {
      inside = omega (arith, whole, p.before_end);
      own = omega (arith, whole, p.before_end, p.text.size);
      whole = whole;
      offset_is = p.offset_is;
      position_is = sym p.boundary ∙ ap (start (width_in e) b) (sym whole);
    }

-- the scalar at a byte where the text may be cut
pub record IsCutNumber (e : Encoding) (b : List ℕ) (first end k offset : ℕ) : Type 0 where
  pub inside : first + k ≤ end
  pub own : k ≤ length (part b first end)
  pub offset_is : offset ≡ start len_utf8 (part b first end) k

pub cut_number : (e : Encoding) (b : List ℕ) (first end offset : ℕ) → IsText (part_of e b first end) → IsCharBoundary (own_bytes (part_of e b first end)) offset
    → IsCutNumber e b first end (down len_utf8 (part b first end) offset) offset
cut_number e b first end offset text cut =
    let t = part b first end in
    let at = start_from_cut t text.scalars offset cut in
    record {
      inside = omega (arith, down-length len_utf8 t offset, text.size, text.order);
      own = down-length len_utf8 t offset;
      offset_is = sym at;
    }

-- the order of places, by any of the three numbers
pub before_by_offset : (t : List ℕ) (j k : ℕ) → start len_utf8 t j < start len_utf8 t k → j < k
before_by_offset t j k h = ⊎_elim (λ l. l) (λ (l : k ≤ j). absurd (omega (arith, h, start-mono len_utf8 t k j l))) (cases_lt j k)

pub before_by_number : (t : List ℕ) (j k : ℕ) → j < k → k ≤ length t → start len_utf8 t j < start len_utf8 t k
before_by_number t j k h inside = start-strict len_utf8 len8_some t j k h inside

pub before_in_storage : (e : Encoding) (b : List ℕ) (j k : ℕ) → start (width_in e) b j < start (width_in e) b k → j < k
before_in_storage e b j k h = ⊎_elim (λ l. l) (λ (l : k ≤ j). absurd (omega (arith, h, start-mono (width_in e) b k j l))) (cases_lt j k)

-- ---- one scalar on
pub part-scalar : (b : List ℕ) (first end k : ℕ) → first + k < end → get_or (part b first end) k 0 ≡ get_or b (first + k) 0
part-scalar b first end k before =
    get_or-take (end - first) (drop first b) k 0 (omega (arith, before)) ∙ get_or-drop first b k 0

-- a place that isn't the end lies before it in the storage too
pub inside_storage : (e : Encoding) (b : List ℕ) (first end offset position : ℕ) → IsPlace (part_of e b first end) offset position → offset < length (own_bytes (part_of e b first end))
    → position < start (width_in e) b end
inside_storage e b first end offset position p h =
    ⊎_elim (λ l. l) (λ (l : start (width_in e) b end ≤ position). absurd (omega (arith, h, p.is_end (omega (arith, l, p.high))))) (cases_lt position (start (width_in e) b end))

pub inside_bytes : (e : Encoding) (b : List ℕ) (first end offset position : ℕ) → IsPlace (part_of e b first end) offset position → position < start (width_in e) b end
    → offset < length (own_bytes (part_of e b first end))
inside_bytes e b first end offset position p h =
    ⊎_elim (λ l. l) (λ (l : length (own_bytes (part_of e b first end)) ≤ offset). absurd (omega (arith, h, p.at_end (omega (arith, l, p.within))))) (cases_lt offset (length (own_bytes (part_of e b first end))))

pub record IsNextPlace (e : Encoding) (b : List ℕ) (first end offset position next_offset next_position : ℕ) : Type 0 where
  pub place : IsPlace (part_of e b first end) next_offset next_position
  pub number : down (width_in e) b next_position ≡ down (width_in e) b position + 1
  pub ahead : offset < next_offset
  pub storage_ahead : position < next_position

pub next_place : (e : Encoding) (b : List ℕ) (first end offset position scalar width long : ℕ) → IsPlace (part_of e b first end) offset position
    → position < start (width_in e) b end → scalar ≡ get_or b (down (width_in e) b position) 0
    → width ≡ width_in e (get_or b (down (width_in e) b position) 0) → long ≡ len_utf8 scalar
    → IsNextPlace e b first end offset position (offset + long) (position + width)
next_place e b first end offset position scalar width long p inside is takes wide =
    let w = width_in e in
    let t = part b first end in
    let k = own_number (part_of e b first end) position in
    let n = number_of e b first end offset position p in
    let before : first + k < end = before_in_storage e b (first + k) end (omega (arith, n.position_is, inside)) in
    let in_whole : first + k < length b = omega (arith, before, p.text.inside) in
    let in_part : k < length t = omega (arith, before, p.text.size, p.text.order) in
    let same : scalar ≡ get_or b (first + k) 0 = is ∙ ap (λ m. get_or b m 0) (sym n.whole) in
    let width_is : width ≡ w (get_or b (first + k) 0) = takes ∙ ap (λ m. w (get_or b m 0)) (sym n.whole) in
    let long_is : long ≡ len_utf8 (get_or t k 0) = wide ∙ ap len_utf8 (same ∙ sym (part-scalar b first end k before)) in
    let suc_is : first + suc k ≡ suc (first + k) = omega arith in
    let next : position + width ≡ start w b (first + suc k) = omega (arith, n.position_is, width_is, start-suc w b (first + k) in_whole, ap (start w b) suc_is) in
    let there = place_of e b first end (suc k) (offset + long) (position + width) p.text (omega (arith, before)) (omega (arith, n.offset_is, long_is, start-suc len_utf8 t k in_part)) next in
    record {
      place = there;
      number = omega (arith, ap (down w b) next ∙ down-start w (width_some e) b (first + suc k) (omega (arith, in_whole)), n.whole);
      ahead = omega (arith, long_is, len8_some (get_or t k 0));
      storage_ahead = omega (arith, width_is, width_some e (get_or b (first + k) 0));
    }

-- a step of one scalar doesn't pass a byte where the text may be cut
pub not_past : (e : Encoding) (b : List ℕ) (first end offset position next_offset next_position to : ℕ) → IsPlace (part_of e b first end) offset position
    → IsPlace (part_of e b first end) next_offset next_position → down (width_in e) b next_position ≡ down (width_in e) b position + 1
    → IsCharBoundary (own_bytes (part_of e b first end)) to → offset < to → next_offset ≤ to
not_past e b first end offset position next_offset next_position to p q one cut before =
    let t = part b first end in
    let m = cut_number e b first end to p.text cut in
    let n = number_of e b first end offset position p in
    let r = number_of e b first end next_offset next_position q in
    let less = before_by_offset t (own_number (part_of e b first end) position) (down len_utf8 t to) (omega (arith, before, n.offset_is, m.offset_is)) in
    omega (arith, r.offset_is, m.offset_is, start-mono len_utf8 t (own_number (part_of e b first end) next_position) (down len_utf8 t to) (omega (arith, less, n.whole, r.whole, one)))

-- where the storage is UTF-8, bytes of the text are code units
pub place_across : (e : Encoding) (b : List ℕ) (first end offset position to : ℕ) → e ≡ Utf8 → IsPlace (part_of e b first end) offset position
    → IsCharBoundary (own_bytes (part_of e b first end)) to → offset ≤ to → IsPlace (part_of e b first end) to (position + (to - offset))
place_across Utf8 b first end offset position to same p cut order =
    let t = part b first end in
    let m = cut_number Utf8 b first end to p.text cut in
    let n = number_of Utf8 b first end offset position p in
    place_of Utf8 b first end (down len_utf8 t to) to _ p.text m.inside m.offset_is
    (omega (
      arith,
      order,
      m.offset_is,
      n.offset_is,
      n.position_is,
      start-part len_utf8 b first end (down len_utf8 t to) (omega (arith, m.inside)),
      start-part len_utf8 b first end (own_number (part_of Utf8 b first end) position) (omega (arith, n.inside)),
    ))
place_across Utf16 b first end offset position to same p cut order = cc

pub length_across : (e : Encoding) (b : List ℕ) (first end low high : ℕ) → e ≡ Utf8 → IsText (part_of e b first end) → low ≡ start (width_in e) b first
    → high ≡ start (width_in e) b end → high - low ≡ length (own_bytes (part_of e b first end))
length_across Utf8 b first end low high same text low_is high_is =
    let t = part b first end in
    let whole : first + (end - first) ≡ end = omega (arith, text.order) in
    omega (arith, low_is, high_is, length-utf8 t, ap (start len_utf8 t) text.size, start-part len_utf8 b first end (end - first) (omega arith), ap (start len_utf8 b) whole)
length_across Utf16 b first end low high same text low_is high_is = cc
