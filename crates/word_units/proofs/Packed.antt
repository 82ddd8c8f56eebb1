-- Bytes and units that are packed into words, read back.
use Rattle.std.proofs.Common.{◌≡◌, refl, sym, ap, subst, ◌∙◌, ℕ, zero, suc, IsSome, ◌+◌, ◌*◌, ◌/◌, ◌%◌, ◌^◌, ◌<◌, ◌≤◌, List, [], ◌∷◌, length, map, drop, get_or, slice_index, w64, chars, IsUtf8, Some, None, arith, nat_le}
use Rattle.std.specs.Int.{to_le_bytes}
use Rattle.std.specs.List.{range_with_len}
use Rattle.std.specs.Option.{unwrap_or}
use Rattle.std.specs.Str.{is_utf8}
use Rattle.std.proofs.Math.Nat.{div-one}
use Rattle.std.proofs.lemmas.Bool.{le-leb, cond-true}
use Rattle.std.proofs.lemmas.Nat.{le_bytes_8}
use Rattle.std.proofs.lemmas.List.{get_or-drop}
use Rattle.std.proofs.lemmas.List.FromFn.{get_or-map-range_with_len, fill_by_all, length-map-range_with_len}
use Rattle.std.proofs.lemmas.Str.{is_utf8-from_IsUtf8}
use Rattle.text_spec.specs.declared.encoding.Encoding.{Encoding}
use Rattle.text_spec.specs.declared.encoding.Encoding.TheVariants.{Utf8, Utf16}
use Rattle.text_spec.specs.Packed.{byte_of, unit_of, bytes_of, units_of, content_words, denoted_text}
use Rattle.text_spec.specs.Text.{repair}
use Rattle.word_units.specs.Owned.{text_of}
use Rattle.word_units.specs.Packing.{byte_word, unit_word, byte_words, unit_words}

-- ---- a word of eight bytes
read_byte : (n j : ℕ) → j < 8 → n / 2 ^ (8 * j) % 256 ≡ slice_index (to_le_bytes w64 n) j
read_byte n zero h = ap (λ m. m % 256) (div-one n)
read_byte n (suc zero) h = refl
read_byte n (suc (suc zero)) h = refl
read_byte n (suc (suc (suc zero))) h = refl
read_byte n (suc (suc (suc (suc zero)))) h = refl
read_byte n (suc (suc (suc (suc (suc zero))))) h = refl
read_byte n (suc (suc (suc (suc (suc (suc zero)))))) h = refl
read_byte n (suc (suc (suc (suc (suc (suc (suc zero))))))) h = refl
read_byte n (suc (suc (suc (suc (suc (suc (suc (suc j)))))))) h = absurd (omega (arith, h))

-- the first eight members
abbrev eight : List ℕ → List ℕ
eight xs = get_or xs 0 0 ∷ get_or xs 1 0 ∷ get_or xs 2 0 ∷ get_or xs 3 0 ∷ get_or xs 4 0 ∷ get_or xs 5 0 ∷ get_or xs 6 0 ∷ get_or xs 7 0 ∷ []

eight-fits : (xs : List ℕ) → ((i : ℕ) → get_or xs i 0 < 256) → (i : ℕ) → get_or (eight xs) i 0 < 256
eight-fits xs fits zero = fits 0
eight-fits xs fits (suc zero) = fits 1
eight-fits xs fits (suc (suc zero)) = fits 2
eight-fits xs fits (suc (suc (suc zero))) = fits 3
eight-fits xs fits (suc (suc (suc (suc zero)))) = fits 4
eight-fits xs fits (suc (suc (suc (suc (suc zero))))) = fits 5
eight-fits xs fits (suc (suc (suc (suc (suc (suc zero)))))) = fits 6
eight-fits xs fits (suc (suc (suc (suc (suc (suc (suc zero))))))) = fits 7
eight-fits xs fits (suc (suc (suc (suc (suc (suc (suc (suc j)))))))) = omega arith

eight-at : (xs : List ℕ) (j : ℕ) → j < 8 → get_or (eight xs) j 0 ≡ get_or xs j 0
eight-at xs zero h = refl
eight-at xs (suc zero) h = refl
eight-at xs (suc (suc zero)) h = refl
eight-at xs (suc (suc (suc zero))) h = refl
eight-at xs (suc (suc (suc (suc zero)))) h = refl
eight-at xs (suc (suc (suc (suc (suc zero))))) h = refl
eight-at xs (suc (suc (suc (suc (suc (suc zero)))))) h = refl
eight-at xs (suc (suc (suc (suc (suc (suc (suc zero))))))) h = refl
eight-at xs (suc (suc (suc (suc (suc (suc (suc (suc j)))))))) h = absurd (omega (arith, h))

byte-of_word : (bytes : List ℕ) (k j : ℕ) → ((i : ℕ) → slice_index bytes i < 2 ^ 8) → j < 8
    → byte_word bytes k / 2 ^ (8 * j) % 256 ≡ slice_index bytes (8 * k + j)
byte-of_word bytes k j fits h =
    let rest = drop (8 * k) bytes in
    let below : (i : ℕ) → get_or rest i 0 < 256 = λ i. subst (λ x. x < 256) (sym (get_or-drop (8 * k) bytes i 0)) (fits (8 * k + i)) in
    read_byte (byte_word bytes k) j h
    ∙ ap (λ bs. get_or bs j 0) (le_bytes_8 (eight rest) (byte_word bytes k) refl (eight-fits rest below) refl)
    ∙ eight-at rest j h ∙ get_or-drop (8 * k) bytes j 0

-- ---- a word of four units
abbrev four : List ℕ → ℕ → List ℕ
four units q = slice_index units q ∷ slice_index units (q + 1) ∷ slice_index units (q + 2) ∷ slice_index units (q + 3) ∷ []

unit-of_four : (a b c d j : ℕ) → a < 2 ^ 16 → b < 2 ^ 16 → c < 2 ^ 16 → d < 2 ^ 16 → j < 4
    → (a + b * 2 ^ 16 + c * 2 ^ 32 + d * 2 ^ 48) / 2 ^ (16 * j) % 65536 ≡ get_or (a ∷ b ∷ c ∷ d ∷ []) j 0
unit-of_four a b c d zero ha hb hc hd h = omega arith
unit-of_four a b c d (suc zero) ha hb hc hd h = omega arith
unit-of_four a b c d (suc (suc zero)) ha hb hc hd h = omega arith
unit-of_four a b c d (suc (suc (suc zero))) ha hb hc hd h = omega arith
unit-of_four a b c d (suc (suc (suc (suc j)))) ha hb hc hd h = absurd (omega (arith, h))

four-at : (units : List ℕ) (q j : ℕ) → j < 4 → get_or (four units q) j 0 ≡ slice_index units (q + j)
four-at units q zero h = ap (slice_index units) (omega arith)
four-at units q (suc zero) h = refl
four-at units q (suc (suc zero)) h = refl
four-at units q (suc (suc (suc zero))) h = refl
four-at units q (suc (suc (suc (suc j)))) h = absurd (omega (arith, h))

unit-of_word : (units : List ℕ) (k j : ℕ) → ((i : ℕ) → slice_index units i < 2 ^ 16) → j < 4
    → unit_word units k / 2 ^ (16 * j) % 65536 ≡ slice_index units (4 * k + j)
unit-of_word units k j fits h =
    unit-of_four _ _ _ _ j (fits (4 * k)) (fits (4 * k + 1)) (fits (4 * k + 2)) (fits (4 * k + 3)) h ∙ four-at units (4 * k) j h

-- ---- all words
byte-packed : (bytes : List ℕ) (p : ℕ) → ((i : ℕ) → slice_index bytes i < 2 ^ 8) → p < length bytes → byte_of (byte_words bytes) p ≡ get_or bytes p 0
byte-packed bytes p fits h =
    ap (λ w. w / 2 ^ (8 * (p % 8)) % 256) (get_or-map-range_with_len (byte_word bytes) 0 (content_words Utf8 (length bytes)) (p / 8) (p / 8) 0 (omega arith) (omega arith))
    ∙ byte-of_word bytes (p / 8) (p % 8) fits (omega arith) ∙ ap (slice_index bytes) (omega arith)

unit-packed : (units : List ℕ) (p : ℕ) → ((i : ℕ) → slice_index units i < 2 ^ 16) → p < length units → unit_of (unit_words units) p ≡ get_or units p 0
unit-packed units p fits h =
    ap (λ w. w / 2 ^ (16 * (p % 4)) % 65536) (get_or-map-range_with_len (unit_word units) 0 (content_words Utf16 (length units)) (p / 4) (p / 4) 0 (omega arith) (omega arith))
    ∙ unit-of_word units (p / 4) (p % 4) fits (omega arith) ∙ ap (slice_index units) (omega arith)

pub bytes-packed : (bytes : List ℕ) → ((i : ℕ) → slice_index bytes i < 2 ^ 8) → bytes_of (byte_words bytes) (length bytes) ≡ bytes
bytes-packed bytes fits = sym (fill_by_all (byte_of (byte_words bytes)) bytes (length bytes) 0 refl (λ k h. sym (byte-packed bytes k fits h)))

pub units-packed : (units : List ℕ) → ((i : ℕ) → slice_index units i < 2 ^ 16) → units_of (unit_words units) (length units) ≡ units
units-packed units fits = sym (fill_by_all (unit_of (unit_words units)) units (length units) 0 refl (λ k h. sym (unit-packed units k fits h)))

-- ---- the text that the words denote
pub utf8-denoted : (ws bytes : List ℕ) (n : ℕ) → n ≤ 8 * length ws → IsUtf8 bytes → bytes_of ws n ≡ bytes → denoted_text Utf8 ws n ≡ Some (chars bytes)
utf8-denoted ws bytes n room ok same =
    cond-true (nat_le n (8 * length ws)) _ None (le-leb n (8 * length ws) room)
    ∙ cond-true (is_utf8 (bytes_of ws n)) _ None (is_utf8-from_IsUtf8 (bytes_of ws n) (subst IsUtf8 (sym same) ok))
    ∙ ap (λ bs. Some (chars bs)) same

pub bytes-denoted : (bytes : List ℕ) → ((i : ℕ) → slice_index bytes i < 2 ^ 8) → IsUtf8 bytes → denoted_text Utf8 (byte_words bytes) (length bytes) ≡ Some (chars bytes)
bytes-denoted bytes fits ok =
    utf8-denoted (byte_words bytes) bytes (length bytes)
    (omega (arith, length-map-range_with_len (byte_word bytes) 0 (content_words Utf8 (length bytes)))) ok (bytes-packed bytes fits)

pub units-denoted : (units : List ℕ) → ((i : ℕ) → slice_index units i < 2 ^ 16) → denoted_text Utf16 (unit_words units) (length units) ≡ Some (repair units)
units-denoted units fits =
    let ws = unit_words units in
    cond-true (nat_le (length units) (4 * length ws)) _ None
    (le-leb (length units) (4 * length ws) (omega (arith, length-map-range_with_len (unit_word units) 0 (content_words Utf16 (length units)))))
    ∙ ap (λ us. Some (repair us)) (units-packed units fits)

-- ---- the words packed so far are all of them once they are as many as the code units take
abbrev Kept : Type 0
Kept = List ℕ × Encoding × ℕ

abbrev pub kept : Encoding → List ℕ → List ℕ → Kept
kept e ws units = (ws, e, length units)

pub bytes-all : (bytes bs ws : List ℕ) (k : ℕ) → ws ≡ map (byte_word bytes) (range_with_len 0 k) → bs ≡ bytes → k ≤ (length bs + 7) / 8 → (length bs + 7) / 8 ≤ k
    → kept Utf8 ws bs ≡ kept Utf8 (byte_words bytes) bytes
bytes-all bytes bs ws k so e below above =
    let same : k ≡ content_words Utf8 (length bytes) = omega (arith, ap length e) in
    ap (λ v. kept Utf8 v bs) (so ∙ ap (λ n. map (byte_word bytes) (range_with_len 0 n)) same) ∙ ap (kept Utf8 (byte_words bytes)) e

pub units-all : (units us ws : List ℕ) (k : ℕ) → ws ≡ map (unit_word units) (range_with_len 0 k) → us ≡ units → k ≤ (length us + 3) / 4 → (length us + 3) / 4 ≤ k
    → kept Utf16 ws us ≡ kept Utf16 (unit_words units) units
units-all units us ws k so e below above =
    let same : k ≡ content_words Utf16 (length units) = omega (arith, ap length e) in
    ap (λ v. kept Utf16 v us) (so ∙ ap (λ n. map (unit_word units) (range_with_len 0 n)) same) ∙ ap (kept Utf16 (unit_words units)) e

-- words that are those which denote a text denote it
pub some_of : (t v : Kept) (text : List ℕ) → t ≡ v → denoted_text (v.1) (v.0) (v.2) ≡ Some text → IsSome (denoted_text (t.1) (t.0) (t.2))
some_of t v text same e = subst (λ w. IsSome (denoted_text (w.1) (w.0) (w.2))) (sym same) (subst IsSome (sym e) refl)

pub text_is : (t v : Kept) (text : List ℕ) → t ≡ v → denoted_text (v.1) (v.0) (v.2) ≡ Some text → text_of t ≡ text
text_is t v text same e = ap text_of same ∙ ap (λ o. unwrap_or o []) e
