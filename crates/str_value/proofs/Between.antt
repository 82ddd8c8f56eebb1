-- The part of a text between two scalar boundaries of its storage.
use Rattle.std.proofs.Common.{◌≡◌, refl, sym, ap, subst, ◌∙◌, ℕ, zero, suc, ◌+◌, ◌-◌, ◌^◌, ◌<◌, ◌≤◌, ⊎_elim, List, [], ◌∷◌, ◌++◌, length, take, drop, map, get_or, slice_index, slice_range, length-append, chars, Some, Bool, true, false, ◌&&◌, IsUtf8, Vec, Global, Result, Ok, Err, IfOk, arith}
use Rattle.std.proofs.Math.Seq.{take-add, take-append_seam, drop-append_seam}
use Rattle.std.specs.List.{range_with_len}
use Rattle.std.proofs.lemmas.List.FromFn.{length-map-range_with_len}
use Rattle.std.proofs.lemmas.List.{take_all, take-append-drop, length-take-le, get_or-drop, length-drop}
use Rattle.std.proofs.lemmas.Str.{encodes-append, encodes-chars, chars-encodes, scalars-chars, IsUtf8-from_is_utf8, utf16_chars-nil, utf16_chars_lone, utf16_chars_pair}
use Rattle.std.proofs.lemmas.Bool.{and_parts}
use Rattle.std.specs.Str.{all_scalars, is_utf8}
use Rattle.std.specs.Char.{len_utf8}
use Rattle.std.specs.Char.Utf16.{lone_unit_char, surrogate_pair_char}
use Rattle.std.specs.Option.{unwrap_or}
use Rattle.text_spec.specs.Boundaries.{IsScalarBoundary}
use Rattle.text_spec.specs.Offsets.{len_utf16, start, down}
use Rattle.text_spec.specs.Packed.{IsPair}
use Rattle.text_spec.specs.Text.{utf8, repair}
use Rattle.text_spec.specs.Views.{part, width_in}
use Rattle.text_spec.specs.declared.out_of_memory.OutOfMemory.{OutOfMemory}
use Rattle.str_value.specs.Meaning.{Meaning, storage_of, text_between}
use Rattle.text_spec.specs.Packed.{byte_of, unit_of, bytes_of, units_of, denoted_text}
use Rattle.text_spec.specs.declared.encoding.Encoding.TheVariants.{Utf8, Utf16}
use Rattle.text_spec.proofs.Denoting.{some_if, some_same, denoted_parts, utf16_words}
use Rattle.object_words.specs.Rows.{count_of}
use Rattle.str_value.specs.declared.storage.Storage.{Storage}
use Rattle.str_value.specs.declared.storage.Storage.TheVariants.{Bytes}
use Rattle.str_value.specs.Stored.{meaning_of, IsStored}
use Rattle.str_value.proofs.Kept.{denotes-kept}
use Rattle.str_value.proofs.Ranges.{range-between}
use Rattle.text_spec.proofs.Bytes.{length-utf8}
use Rattle.text_spec.proofs.Downward.{down-length, start-down, down-greatest}
use Rattle.text_spec.proofs.Lengths.{start-utf8}
use Rattle.text_spec.proofs.Repaired.{pair_cases, pair_width, lone_width, spelled, total16}
use Rattle.text_spec.specs.declared.encoding.Encoding.{Encoding}
use Rattle.text_spec.proofs.Walk.{start-le, start-zero, down-start}
use Rattle.text_spec.proofs.Widths.{width_some}

-- a later place has no earlier floor
pub down-mono : (w : ℕ → ℕ) (t : List ℕ) (a b : ℕ) → a ≤ b → down w t a ≤ down w t b
down-mono w t a b h = down-greatest w t b (down w t a) (down-length w t a) (omega (arith, start-down w t a, h))

-- ---- in UTF-8
cut8 : (t : List ℕ) (i j : ℕ) → i ≤ j → slice_range (utf8 t) (start len_utf8 t i) (start len_utf8 t j) ≡ utf8 (part t i j)
cut8 t i j h =
    let n : i + (j - i) ≡ j = omega arith in
    let front = utf8 (take i t) in
    let middle = utf8 (part t i j) in
    let after = utf8 (drop (j - i) (drop i t)) in
    let behind-i : utf8 (drop i t) ≡ middle ++ after =
    ap utf8 (sym (take-append-drop (j - i) (drop i t))) ∙ encodes-append (part t i j) (drop (j - i) (drop i t)) in
    let whole : utf8 t ≡ front ++ (middle ++ after) =
    ap utf8 (sym (take-append-drop i t)) ∙ encodes-append (take i t) (drop i t) ∙ ap (λ rest. front ++ rest) behind-i in
    let low : start len_utf8 t i ≡ length front = start-utf8 t i in
    let up_to_j : utf8 (take j t) ≡ front ++ middle =
    ap (λ k. utf8 (take k t)) (sym n) ∙ ap utf8 (take-add i (j - i) t) ∙ encodes-append (take i t) (part t i j) in
    let high : start len_utf8 t j ≡ length front + length middle = start-utf8 t j ∙ ap length up_to_j ∙ length-append front middle in
    let width : start len_utf8 t j - start len_utf8 t i ≡ length middle = omega (arith, low, high) in
    ap (λ k. take k (drop (start len_utf8 t i) (utf8 t))) width
    ∙ ap (λ k. take (length middle) (drop k (utf8 t))) low
    ∙ ap (λ bytes. take (length middle) (drop (length front) bytes)) whole
    ∙ ap (take (length middle)) (drop-append_seam front (middle ++ after))
    ∙ take-append_seam middle after

pub bytes-between : (t bytes : List ℕ) (low high : ℕ) → utf8 t ≡ bytes → IsScalarBoundary len_utf8 t low → IsScalarBoundary len_utf8 t high → low ≤ high
    → slice_range bytes low high ≡ utf8 (part t (down len_utf8 t low) (down len_utf8 t high))
bytes-between t bytes low high same is js h =
    ap (λ bs. slice_range bs low high) (sym same)
    ∙ ap (λ n. slice_range (utf8 t) n high) (sym is) ∙ ap (λ n. slice_range (utf8 t) (start len_utf8 t (down len_utf8 t low)) n) (sym js)
    ∙ cut8 t (down len_utf8 t low) (down len_utf8 t high) (down-mono len_utf8 t low high h)

-- a boundary lies in the storage
pub inside8 : (t bytes : List ℕ) (p : ℕ) → utf8 t ≡ bytes → IsScalarBoundary len_utf8 t p → p ≤ length bytes
inside8 t bytes p same is = omega (arith, start-le len_utf8 t (down len_utf8 t p), is, length-utf8 t, ap length same)

-- ---- in UTF-16: the front of the units up to a boundary spells the front of the text
repair-nil : repair [] ≡ []
repair-nil = ap (map (λ o. unwrap_or o 0xFFFD)) utf16_chars-nil

repair-lone : (u : ℕ) (us : List ℕ) → ¬ (IsPair u (get_or us 0 0)) → repair (u ∷ us) ≡ unwrap_or (lone_unit_char u) 0xFFFD ∷ repair us
repair-lone u us apart = ap (map (λ o. unwrap_or o 0xFFFD)) (utf16_chars_lone u us apart)

repair-pair : (u v : ℕ) (us : List ℕ) → IsPair u v → repair (u ∷ v ∷ us) ≡ surrogate_pair_char u v ∷ repair us
repair-pair u v us p = ap (map (λ o. unwrap_or o 0xFFFD)) (utf16_chars_pair u v us p)

first-taken : (m u : ℕ) (us : List ℕ) → IsPair u (get_or (take m us) 0 0) → IsPair u (get_or us 0 0)
first-taken zero u us p = absurd (omega (arith, p.2))
first-taken (suc m) u [] p = p
first-taken (suc m) u (v ∷ us) p = p

front16 : (k : ℕ) (us : List ℕ) → ((i : ℕ) → get_or us i 0 < 65536) → (n : ℕ) → k ≤ length (repair us) → n ≡ start len_utf16 (repair us) k
    → repair (take n us) ≡ take k (repair us)
front16 zero us fits n h is = ap (λ m. repair (take m us)) (is ∙ start-zero len_utf16 (repair us)) ∙ repair-nil
front16 (suc k) [] fits n h is = absurd (omega (arith, h, ap length repair-nil))
front16 (suc k) (u ∷ []) fits n h is =
    let apart : ¬ (IsPair u 0) = λ p. omega (arith, p.2) in
    let c = unwrap_or (lone_unit_char u) 0xFFFD in
    let whole : repair (u ∷ []) ≡ c ∷ repair [] = repair-lone u [] apart in
    let none : k ≡ 0 = omega (arith, h, ap length whole, ap length repair-nil) in
    let one : n ≡ suc (start len_utf16 (repair []) k) = omega (arith, is, ap (λ t. start len_utf16 t (suc k)) whole, lone_width u (fits 0)) in
    ap (λ m. repair (take m (u ∷ []))) one ∙ repair-lone u (take (start len_utf16 (repair []) k) []) (λ p. apart (first-taken (start len_utf16 (repair []) k) u [] p))
    ∙ ap (λ t. c ∷ t) (front16 k [] (λ i. fits (suc i)) (start len_utf16 (repair []) k) (omega (arith, none)) refl)
    ∙ sym (ap (take (suc k)) whole)
front16 (suc k) (u ∷ v ∷ us) fits n h is =
    ⊎_elim
    (λ p.
    let c = surrogate_pair_char u v in
    let whole : repair (u ∷ v ∷ us) ≡ c ∷ repair us = repair-pair u v us p in
    let m = start len_utf16 (repair us) k in
    let two : n ≡ suc (suc m) = omega (arith, is, ap (λ t. start len_utf16 t (suc k)) whole, pair_width u v) in
    ap (λ j. repair (take j (u ∷ v ∷ us))) two ∙ repair-pair u v (take m us) p
    ∙ ap (λ t. c ∷ t) (front16 k us (λ i. fits (suc (suc i))) m (omega (arith, h, ap length whole)) refl)
    ∙ sym (ap (take (suc k)) whole))
    (λ apart.
    let c = unwrap_or (lone_unit_char u) 0xFFFD in
    let rest = v ∷ us in
    let whole : repair (u ∷ rest) ≡ c ∷ repair rest = repair-lone u rest apart in
    let m = start len_utf16 (repair rest) k in
    let one : n ≡ suc m = omega (arith, is, ap (λ t. start len_utf16 t (suc k)) whole, lone_width u (fits 0)) in
    ap (λ j. repair (take j (u ∷ rest))) one ∙ repair-lone u (take m rest) (λ p. apart (first-taken m u rest p))
    ∙ ap (λ t. c ∷ t) (front16 k rest (λ i. fits (suc i)) m (omega (arith, h, ap length whole)) refl)
    ∙ sym (ap (take (suc k)) whole))
    (pair_cases u v)

start-drop : (w : ℕ → ℕ) (t : List ℕ) (i j : ℕ) → start w t (i + j) ≡ start w t i + start w (drop i t) j
start-drop w t zero j =
    let e : zero + j ≡ j = omega arith in
    let same : start w t j ≡ start w t 0 + start w t j = omega (arith, start-zero w t) in
    ap (start w t) e ∙ same
start-drop w [] (suc i) j = refl
start-drop w (c ∷ t) (suc i) j =
    let e : suc i + j ≡ suc (i + j) = omega arith in
    ap (start w (c ∷ t)) e ∙ omega (arith, start-drop w t i j)

cut16 : (us : List ℕ) → ((i : ℕ) → get_or us i 0 < 65536) → (i j : ℕ) → i ≤ j → j ≤ length (repair us)
    → repair (slice_range us (start len_utf16 (repair us) i) (start len_utf16 (repair us) j)) ≡ part (repair us) i j
cut16 us fits i j h hj =
    let t = repair us in
    let low = start len_utf16 t i in
    let high = start len_utf16 t j in
    let behind : drop i t ≡ repair (drop low us) = (spelled us fits i (omega (arith, h, hj))).0 in
    let n : i + (j - i) ≡ j = omega arith in
    let width : high ≡ low + start len_utf16 (repair (drop low us)) (j - i) =
    ap (start len_utf16 t) (sym n) ∙ start-drop len_utf16 t i (j - i) ∙ ap (λ rest. low + start len_utf16 rest (j - i)) behind in
    front16 (j - i) (drop low us) (λ q. subst (λ x. x < 65536) (sym (get_or-drop low us q 0)) (fits (low + q))) (high - low)
    (omega (arith, ap length behind, length-drop i t, hj)) (omega (arith, width))
    ∙ ap (take (j - i)) (sym behind)

pub units-between : (t us : List ℕ) (low high : ℕ) → t ≡ repair us → ((i : ℕ) → get_or us i 0 < 2 ^ 16) → IsScalarBoundary len_utf16 t low
    → IsScalarBoundary len_utf16 t high → low ≤ high → repair (slice_range us low high) ≡ part t (down len_utf16 t low) (down len_utf16 t high)
units-between t us low high same fits is js h =
    let i = down len_utf16 t low in
    let j = down len_utf16 t high in
    ap (λ n. repair (slice_range us n high)) (sym is ∙ ap (λ b. start len_utf16 b i) same)
    ∙ ap (λ n. repair (slice_range us (start len_utf16 (repair us) i) n)) (sym js ∙ ap (λ b. start len_utf16 b j) same)
    ∙ cut16 us fits i j (down-mono len_utf16 t low high h) (subst (λ b. j ≤ length b) same (down-length len_utf16 t high))
    ∙ ap (λ b. part b i j) (sym same)

pub inside16 : (t us : List ℕ) (p : ℕ) → t ≡ repair us → ((i : ℕ) → get_or us i 0 < 2 ^ 16) → IsScalarBoundary len_utf16 t p → p ≤ length us
inside16 t us p same fits is =
    omega (arith, start-le len_utf16 t (down len_utf16 t p), is, ap (λ b. start len_utf16 b (length b)) same, total16 us fits)

-- ---- a part is a text, and no longer than the whole
length-front : (n : ℕ) (t : List ℕ) → length (utf8 (take n t)) + length (utf8 (drop n t)) ≡ length (utf8 t)
length-front n t =
    omega (arith, length-append (utf8 (take n t)) (utf8 (drop n t)), ap length (encodes-append (take n t) (drop n t)), ap (λ xs. length (utf8 xs)) (take-append-drop n t))

pub part-le : (t : List ℕ) (i j : ℕ) → length (utf8 (part t i j)) ≤ length (utf8 t)
part-le t i j = omega (arith, length-front i t, length-front (j - i) (drop i t))

pub scalars-drop : (n : ℕ) (t : List ℕ) → all_scalars t ≡ true → all_scalars (drop n t) ≡ true
scalars-drop zero t h = h
scalars-drop (suc n) [] h = h
scalars-drop (suc n) (c ∷ t) h = scalars-drop n t (and_parts _ _ h).1

pub both-true : (x y : Bool) → x ≡ true → y ≡ true → (x && y) ≡ true
both-true true y e f = f
both-true false y e f = e

pub scalars-take : (n : ℕ) (t : List ℕ) → all_scalars t ≡ true → all_scalars (take n t) ≡ true
scalars-take zero t h = refl
scalars-take (suc n) [] h = h
scalars-take (suc n) (c ∷ t) h = let parts = and_parts _ _ h in both-true _ _ parts.0 (scalars-take n t parts.1)

pub part-utf8 : (t : List ℕ) (i j : ℕ) → all_scalars t ≡ true → IsUtf8 (utf8 (part t i j))
part-utf8 t i j ok = (part t i j, (scalars-take (j - i) (drop i t) (scalars-drop i t ok), refl))

-- ---- the code units that a value's content words hold
pub record Utf8Kept (now : Meaning) (bytes : List ℕ) : Type 0 where
  pub text : utf8 (now.text) ≡ bytes
  pub storage : storage_of (now.row) ≡ Utf8
  pub scalars : all_scalars (now.text) ≡ true

pub record Utf16Kept (now : Meaning) (units : List ℕ) : Type 0 where
  pub text : now.text ≡ repair units
  pub storage : storage_of (now.row) ≡ Utf16
  pub fits : (i : ℕ) → slice_index units i < 2 ^ 16

pub held-bytes : (ws : List ℕ) (n : ℕ) (t : List ℕ) → denoted_text Utf8 ws n ≡ Some t → (utf8 t ≡ bytes_of ws n) × (all_scalars t ≡ true)
held-bytes ws n t is =
    let read = some_if (is_utf8 (bytes_of ws n)) (Some (chars (bytes_of ws n))) t (denoted_parts Utf8 ws n t is).1 in
    let valid = IsUtf8-from_is_utf8 (bytes_of ws n) read.0 in
    let text : chars (bytes_of ws n) ≡ t = some_same _ _ read.1 in
    (ap utf8 (sym text) ∙ encodes-chars (bytes_of ws n) valid, subst (λ u. all_scalars u ≡ true) text (scalars-chars (bytes_of ws n) valid))

pub utf8-kept : (object : ℕ × ℕ) (storage : Storage) (now : Meaning) → IsStored object storage → meaning_of object storage ≡ now → storage_of (now.row) ≡ Utf8
    → Utf8Kept now (bytes_of (now.words) (count_of (now.row)))
utf8-kept object storage now is e s =
    let w = held-bytes (now.words) (count_of (now.row)) (now.text) (subst (λ enc. denoted_text enc (now.words) (count_of (now.row)) ≡ Some (now.text)) s (denotes-kept object storage now is e)) in
    record { text = w.0; storage = s; scalars = w.1 }

pub utf16-kept : (object : ℕ × ℕ) (storage : Storage) (now : Meaning) → IsStored object storage → meaning_of object storage ≡ now → storage_of (now.row) ≡ Utf16
    → Utf16Kept now (units_of (now.words) (count_of (now.row)))
utf16-kept object storage now is e s =
    let w = utf16_words (now.words) (count_of (now.row)) (now.text) (subst (λ enc. denoted_text enc (now.words) (count_of (now.row)) ≡ Some (now.text)) s (denotes-kept object storage now is e)) in
    record { text = sym w.text; storage = s; fits = w.fits }

-- those of a vector
pub bytes-kept : (object : ℕ × ℕ) (storage : Storage) (now : Meaning) (v : Vec ℕ Global) (shown : List ℕ) → IsStored object storage
    → meaning_of object storage ≡ now → storage ≡ Bytes v → shown ≡ v.items → Utf8Kept now shown
bytes-kept object storage now v shown is e s as_slice =
    let kept : IsStored object (Bytes v) = subst (IsStored object) s is in
    let seen : meaning_of object (Bytes v) ≡ now = ap (meaning_of object) (sym s) ∙ e in
    record {
      text = ap (λ m. utf8 (m.text)) (sym seen) ∙ encodes-chars v.items kept.kept.0 ∙ sym as_slice;
      storage = ap (λ m. storage_of (m.row)) (sym seen);
      scalars = ap (λ m. all_scalars (m.text)) (sym seen) ∙ scalars-chars v.items kept.kept.0;
    }

-- ---- the same of a value
module _ (now : Meaning) where
  pub inside-part8 : (bytes : List ℕ) (p : ℕ) → Utf8Kept now bytes → IsScalarBoundary (width_in (storage_of (now.row))) (now.text) p → p ≤ length bytes
  inside-part8 bytes p is at = inside8 (now.text) bytes p is.text (subst (λ e. IsScalarBoundary (width_in e) (now.text) p) is.storage at)

  pub text-part8 : (bytes : List ℕ) (low high : ℕ) → Utf8Kept now bytes → IsScalarBoundary (width_in (storage_of (now.row))) (now.text) low
      → IsScalarBoundary (width_in (storage_of (now.row))) (now.text) high → low ≤ high → slice_range bytes low high ≡ utf8 (text_between now low high)
  text-part8 bytes low high is i j h =
      let t = now.text in
      bytes-between t bytes low high is.text (subst (λ e. IsScalarBoundary (width_in e) t low) is.storage i) (subst (λ e. IsScalarBoundary (width_in e) t high) is.storage j) h
      ∙ ap (λ e. utf8 (part t (down (width_in e) t low) (down (width_in e) t high))) (sym is.storage)

  pub length-part8 : (bytes : List ℕ) (low high : ℕ) → Utf8Kept now bytes → IsScalarBoundary (width_in (storage_of (now.row))) (now.text) low
      → IsScalarBoundary (width_in (storage_of (now.row))) (now.text) high → low ≤ high → high - low ≡ length (utf8 (text_between now low high))
  length-part8 bytes low high is i j h =
      let inside = inside-part8 bytes high is j in
      let all : high - low ≤ length (drop low bytes) = omega (arith, inside, length-drop low bytes) in
      sym (length-take-le (high - low) (drop low bytes) all) ∙ ap length (text-part8 bytes low high is i j h)

  pub inside-part16 : (us : List ℕ) (p : ℕ) → Utf16Kept now us → IsScalarBoundary (width_in (storage_of (now.row))) (now.text) p → p ≤ length us
  inside-part16 us p is at = inside16 (now.text) us p is.text is.fits (subst (λ e. IsScalarBoundary (width_in e) (now.text) p) is.storage at)

  pub text-part16 : (us : List ℕ) (low high : ℕ) → Utf16Kept now us → IsScalarBoundary (width_in (storage_of (now.row))) (now.text) low
      → IsScalarBoundary (width_in (storage_of (now.row))) (now.text) high → low ≤ high
      → utf8 (repair (slice_range us low high)) ≡ utf8 (text_between now low high)
  text-part16 us low high is i j h =
      let t = now.text in
      ap utf8 (units-between t us low high is.text is.fits (subst (λ e. IsScalarBoundary (width_in e) t low) is.storage i)
      (subst (λ e. IsScalarBoundary (width_in e) t high) is.storage j) h)
      ∙ ap (λ e. utf8 (part t (down (width_in e) t low) (down (width_in e) t high))) (sym is.storage)

  pub length-part16 : (us : List ℕ) (low high : ℕ) → Utf16Kept now us → IsScalarBoundary (width_in (storage_of (now.row))) (now.text) low
      → IsScalarBoundary (width_in (storage_of (now.row))) (now.text) high → low ≤ high
      → length (utf8 (repair (slice_range us low high))) ≡ length (utf8 (text_between now low high))
  length-part16 us low high is i j h = ap length (text-part16 us low high is i j h)

  -- the same of code units that are read out of the words
  pub read-part8 : (low high : ℕ) → Utf8Kept now (bytes_of (now.words) (count_of (now.row))) → IsScalarBoundary (width_in (storage_of (now.row))) (now.text) low
      → IsScalarBoundary (width_in (storage_of (now.row))) (now.text) high → low ≤ high → map (byte_of (now.words)) (range_with_len low (high - low)) ≡ utf8 (text_between now low high)
  read-part8 low high is i j h =
      let n = count_of (now.row) in
      let inside = inside-part8 (bytes_of (now.words) n) high is j in
      sym (range-between (byte_of (now.words)) n low high h (omega (arith, inside, length-map-range_with_len (byte_of (now.words)) 0 n)))
      ∙ text-part8 (bytes_of (now.words) n) low high is i j h

  pub read-part16 : (low high : ℕ) → Utf16Kept now (units_of (now.words) (count_of (now.row))) → IsScalarBoundary (width_in (storage_of (now.row))) (now.text) low
      → IsScalarBoundary (width_in (storage_of (now.row))) (now.text) high → low ≤ high
      → utf8 (repair (map (unit_of (now.words)) (range_with_len low (high - low)))) ≡ utf8 (text_between now low high)
  read-part16 low high is i j h =
      let n = count_of (now.row) in
      let inside = inside-part16 (units_of (now.words) n) high is j in
      ap (λ us. utf8 (repair us)) (sym (range-between (unit_of (now.words)) n low high h (omega (arith, inside, length-map-range_with_len (unit_of (now.words)) 0 n))))
      ∙ text-part16 (units_of (now.words) n) low high is i j h

-- all of a list
pub range-all : (s us : List ℕ) (n : ℕ) → s ≡ us → n ≡ length s → slice_range s 0 n ≡ us
range-all s us n same count = take_all (n - 0) s (omega (arith, count)) ∙ same

-- where a scalar begins is a boundary
pub start-boundary : (e : Encoding) (t : List ℕ) (k p : ℕ) → k ≤ length t → p ≡ start (width_in e) t k → IsScalarBoundary (width_in e) t p
start-boundary e t k p h is = ap (start (width_in e) t) (ap (down (width_in e) t) is ∙ down-start (width_in e) (width_some e) t k h) ∙ sym is

pub part-limit : (now : Meaning) (low high : ℕ) → length (utf8 (text_between now low high)) ≤ length (utf8 (now.text))
part-limit now low high = part-le (now.text) (down (width_in (storage_of (now.row))) (now.text) low) (down (width_in (storage_of (now.row))) (now.text) high)

-- what was copied is UTF-8
pub ok-utf8 : (now : Meaning) (low high : ℕ) (copied : Result (Vec ℕ Global) OutOfMemory) → all_scalars (now.text) ≡ true
    → IfOk copied (λ v. v.items ≡ utf8 (text_between now low high)) → IfOk copied (λ v. IsUtf8 v.items)
ok-utf8 now low high (Ok v) ok same =
    subst IsUtf8 (sym same) (part-utf8 (now.text) (down (width_in (storage_of (now.row))) (now.text) low) (down (width_in (storage_of (now.row))) (now.text) high) ok)
ok-utf8 now low high (Err e) ok same = same

-- a part's UTF-8, and the text that this is
pub scalars-part : (now : Meaning) (low high : ℕ) → all_scalars (now.text) ≡ true → IsUtf8 (utf8 (text_between now low high)) × (chars (utf8 (text_between now low high)) ≡ text_between now low high)
scalars-part now low high ok =
    let i = down (width_in (storage_of (now.row))) (now.text) low in
    let j = down (width_in (storage_of (now.row))) (now.text) high in
    (part-utf8 (now.text) i j ok, chars-encodes (part (now.text) i j) (scalars-take (j - i) (drop i (now.text)) (scalars-drop i (now.text) ok)))
