-- What the two words of a row say: each of its fields is read back.
use Rattle.std.proofs.Common.{◌≡◌, ℕ, zero, suc, ◌+◌, ◌-◌, ◌*◌, ◌/◌, ◌%◌, ◌^◌, ◌<◌, ◌≤◌, ◌==◌, Bool, true, false, List, [], ◌∷◌, ◌++◌, length, take, drop, replicate, slice_index, w64, refl, sym, ◌∙◌, ap, subst, arith, nat_le, length-append, length-drop, if◌then◌else◌, ◌&&◌, nat_lt, MatchBool}
use Rattle.std.specs.Str.{IsAscii, IsNotAscii}
use Rattle.std.specs.Int.{to_le_bytes, from_le_bytes}
use Rattle.std.proofs.lemmas.Bool.{le-leb, lt-leb, lt-ltb, le-ltb}
use Rattle.std.proofs.lemmas.Nat.{le_bytes_8}
use Rattle.std.proofs.lemmas.List.{length-replicate, length-take-le, take-append-drop, get_or-drop, get_or-append_right}
use Rattle.object_words.specs.declared.layout.TheConstants.{SMALL_CAPACITY, NATIVE_TOP, FOREIGN_TOP, OWNED_TOP, LITERAL_TOP, SMALL_TOP, SMALL_ASCII_TOP}
use Rattle.object_words.specs.CountWord.{weight, count_word}
use Rattle.object_words.specs.Rows.{Row, small, native, literal, foreign, owned, Describes, form_word, small_bytes, small_top, is_ascii}

-- two words that are the words of a row
pub pair : {a b c d : ℕ} → c ≡ a → d ≡ b → ◌≡◌ {A = ℕ × ℕ} (a, b) (c, d)
pair {b = b} {c = c} first second = ap (λ x. (x, b)) (sym first) ∙ ap (λ y. (c, y)) (sym second)

-- a flag as the number that its bit is
abbrev bit : Bool → ℕ
bit true = 1
bit false = 0

bit-le : (b : Bool) → bit b ≤ 1
bit-le true = omega arith
bit-le false = omega arith

weight-bit : (b : Bool) (k : ℕ) → weight b k ≡ bit b * 2 ^ k
weight-bit true k = omega arith
weight-bit false k = omega arith

bit-is : (b : Bool) → (bit b == 1) ≡ b
bit-is true = refl
bit-is false = refl

-- the fields of a value that isn't Small, as they are read out of its words
pub record Counted (ascii nfc utf16 : Bool) (count top slot w0 w1 : ℕ) : Type 0 where
  pub form_read : w1 / 2 ^ 56 ≡ top
  pub slot_read : w1 % 2 ^ 32 ≡ slot
  pub ascii_read : (w0 / 2 ^ 63 == 1) ≡ ascii
  pub ascii_bit : (w0 / 2 ^ 63 % 2 == 1) ≡ ascii
  pub nfc_bit : (w0 / 2 ^ 62 % 2 == 1) ≡ nfc
  pub utf16_bit : (w0 / 2 ^ 59 % 2 == 1) ≡ utf16
  pub count_read : w0 % 2 ^ 48 ≡ count

-- the bits of word 0, apart
bits : (a n s t u c : ℕ) → a ≤ 1 → n ≤ 1 → s ≤ 1 → t ≤ 1 → u ≤ 1 → c < 2 ^ 48
    → let w = a * 2 ^ 63 + n * 2 ^ 62 + s * 2 ^ 61 + t * 2 ^ 60 + u * 2 ^ 59 + c in
    (w / 2 ^ 63 ≡ a) × (w / 2 ^ 63 % 2 ≡ a) × (w / 2 ^ 62 % 2 ≡ n) × (w / 2 ^ 59 % 2 ≡ u) × (w % 2 ^ 48 ≡ c)
bits a n s t u c a_in n_in s_in t_in u_in c_in = (omega arith, omega arith, omega arith, omega arith, omega arith)

counted : (ascii nfc stored table utf16 : Bool) (count top slot : ℕ) → count < 2 ^ 48 → slot < 2 ^ 32
    → Counted ascii nfc utf16 count top slot (count_word ascii nfc stored table utf16 count) (form_word top slot)
counted ascii nfc stored table utf16 count top slot count_in slot_in =
    let word = count_word ascii nfc stored table utf16 count in
    let apart : word ≡ bit ascii * 2 ^ 63 + bit nfc * 2 ^ 62 + bit stored * 2 ^ 61 + bit table * 2 ^ 60 + bit utf16 * 2 ^ 59 + count
    = omega (arith, weight-bit ascii 63, weight-bit nfc 62, weight-bit stored 61, weight-bit table 60, weight-bit utf16 59) in
    let read = bits (bit ascii) (bit nfc) (bit stored) (bit table) (bit utf16) count (bit-le ascii) (bit-le nfc) (bit-le stored) (bit-le table) (bit-le utf16) count_in in
    record {
      form_read = omega arith;
      slot_read = omega arith;
      ascii_read = ap (λ n. n / 2 ^ 63 == 1) apart ∙ (ap (λ n. n == 1) read.0 ∙ bit-is ascii);
      ascii_bit = ap (λ n. n / 2 ^ 63 % 2 == 1) apart ∙ (ap (λ n. n == 1) read.1 ∙ bit-is ascii);
      nfc_bit = ap (λ n. n / 2 ^ 62 % 2 == 1) apart ∙ (ap (λ n. n == 1) read.2 ∙ bit-is nfc);
      utf16_bit = ap (λ n. n / 2 ^ 59 % 2 == 1) apart ∙ (ap (λ n. n == 1) read.3 ∙ bit-is utf16);
      count_read = ap (λ n. n % 2 ^ 48) apart ∙ read.4;
    }

-- each member is a byte
abbrev Bytes : List ℕ → Type 0
Bytes bytes = (i : ℕ) → slice_index bytes i < 256

Bytes-append : (xs ys : List ℕ) → Bytes xs → Bytes ys → Bytes (xs ++ ys)
Bytes-append [] ys front back i = back i
Bytes-append (x ∷ xs) ys front back zero = front zero
Bytes-append (x ∷ xs) ys front back (suc i) = Bytes-append xs ys (λ j. front (suc j)) back i

Bytes-nil : Bytes []
Bytes-nil zero = omega arith
Bytes-nil (suc i) = omega arith

Bytes-one : (x : ℕ) → x < 256 → Bytes (x ∷ [])
Bytes-one x below zero = below
Bytes-one x below (suc i) = Bytes-nil i

Bytes-zeros : (n : ℕ) → Bytes (replicate n 0)
Bytes-zeros zero i = Bytes-nil i
Bytes-zeros (suc n) zero = omega arith
Bytes-zeros (suc n) (suc i) = Bytes-zeros n i

Bytes-take : (n : ℕ) (xs : List ℕ) → Bytes xs → Bytes (take n xs)
Bytes-take zero xs all i = Bytes-nil i
Bytes-take (suc n) [] all i = Bytes-nil i
Bytes-take (suc n) (x ∷ xs) all zero = all zero
Bytes-take (suc n) (x ∷ xs) all (suc i) = Bytes-take n xs (λ j. all (suc j)) i

Bytes-drop : (n : ℕ) (xs : List ℕ) → Bytes xs → Bytes (drop n xs)
Bytes-drop n xs all i = subst (λ x. x < 256) (sym (get_or-drop n xs i 0)) (all (n + i))

-- the byte that tells a Small value
top_in : (ascii : Bool) (n : ℕ) → n ≤ 15 → (if ascii then SMALL_ASCII_TOP else SMALL_TOP) + n < 256
top_in true n within = omega arith
top_in false n within = omega arith

pub top_low : (ascii : Bool) (n : ℕ) → SMALL_TOP ≤ (if ascii then SMALL_ASCII_TOP else SMALL_TOP) + n
top_low true n = omega arith
top_low false n = omega arith

pub top_count : (ascii : Bool) (n : ℕ) → n ≤ 15 → ((if ascii then SMALL_ASCII_TOP else SMALL_TOP) + n) % 16 ≡ n
top_count true n within = omega arith
top_count false n within = omega arith

pub top_ascii : (ascii : Bool) (n top : ℕ) → n ≤ 15 → top ≡ (if ascii then SMALL_ASCII_TOP else SMALL_TOP) + n → nat_le SMALL_ASCII_TOP top ≡ ascii
top_ascii true n top within is = le-leb 224 top (omega arith)
top_ascii false n top within is = lt-leb 224 top (omega arith)

length-block : (bytes : List ℕ) → length bytes ≤ 15 → length (small_bytes bytes) ≡ 16
length-block bytes within =
    let behind : List ℕ = replicate (SMALL_CAPACITY - length bytes) 0 in
    omega (arith, length-append bytes (behind ++ small_top bytes ∷ []), length-append behind (small_top bytes ∷ []), length-replicate {A = ℕ} (SMALL_CAPACITY - length bytes) 0)

Bytes-block : (bytes : List ℕ) → length bytes ≤ 15 → Bytes bytes → Bytes (small_bytes bytes)
Bytes-block bytes within all =
    Bytes-append bytes _ all (Bytes-append (replicate (SMALL_CAPACITY - length bytes) 0) (small_top bytes ∷ []) (Bytes-zeros _) (Bytes-one _ (top_in (is_ascii bytes) (length bytes) within)))

last-block : (bytes : List ℕ) → length bytes ≤ 15 → slice_index (small_bytes bytes) 15 ≡ small_top bytes
last-block bytes within =
    let behind : List ℕ = replicate (SMALL_CAPACITY - length bytes) 0 in
    let seam : (15 - length bytes) - (15 - length bytes) ≡ 0 = omega arith in
    get_or-append_right bytes (behind ++ small_top bytes ∷ []) (length bytes) 15 0 refl within
    ∙ (get_or-append_right behind (small_top bytes ∷ []) (15 - length bytes) (15 - length bytes) 0 (length-replicate (15 - length bytes) 0) (omega arith)
    ∙ ap (λ i. slice_index (small_top bytes ∷ []) i) seam)

-- the sixteen bytes of a Small value, as they are read out of its words
pub record Spelled (bytes : List ℕ) (w0 w1 : ℕ) : Type 0 where
  pub bytes_read : to_le_bytes w64 w0 ++ to_le_bytes w64 w1 ≡ small_bytes bytes
  pub form_read : w1 / 2 ^ 56 ≡ small_top bytes

spelled : (bytes : List ℕ) (w0 w1 : ℕ) → w1 < 2 ^ 64 → length bytes ≤ 15 → Bytes bytes
    → w0 ≡ from_le_bytes w64 (take 8 (small_bytes bytes)) → w1 ≡ from_le_bytes w64 (drop 8 (small_bytes bytes)) → Spelled bytes w0 w1
spelled bytes w0 w1 w1_in within all first second =
    let block = small_bytes bytes in
    let long = length-block bytes within in
    let fit = Bytes-block bytes within all in
    let low : to_le_bytes w64 w0 ≡ take 8 block = le_bytes_8 (take 8 block) w0 (length-take-le 8 block (omega arith)) (Bytes-take 8 block fit) first in
    let high : to_le_bytes w64 w1 ≡ drop 8 block = le_bytes_8 (drop 8 block) w1 (length-drop 8 block ∙ omega arith) (Bytes-drop 8 block fit) second in
    let top : w1 / 256 ^ 7 % 256 ≡ small_top bytes = ap (λ bs. slice_index bs 7) high ∙ (get_or-drop 8 block 7 0 ∙ last-block bytes within) in
    record {
      bytes_read = ap (λ bs. bs ++ to_le_bytes w64 w1) low ∙ (ap (λ bs. take 8 block ++ bs) high ∙ take-append-drop 8 block);
      form_read = omega (arith, top);
    }

-- what two words say, by row
abbrev pub Said : Row → ℕ → ℕ → Type 0
Said (small bytes) w0 w1 = Spelled bytes w0 w1
Said (native ascii nfc count slot) w0 w1 = Counted ascii nfc false count NATIVE_TOP slot w0 w1
Said (literal ascii nfc count number) w0 w1 = Counted ascii nfc false count LITERAL_TOP number w0 w1
Said (foreign ascii count slot) w0 w1 = Counted ascii ascii true count FOREIGN_TOP slot w0 w1
Said (owned utf16 ascii nfc count) w0 w1 = Counted ascii nfc utf16 count OWNED_TOP 0 w0 w1

pub said : (row : Row) (w0 w1 : ℕ) → w1 < 2 ^ 64 → Describes row (w0, w1) → Said row w0 w1
said (small bytes) w0 w1 w1_in d =
    spelled bytes w0 w1 w1_in d.is_row.0 d.is_row.1 (ap (λ w. w.0) (sym d.says)) (ap (λ w. w.1) (sym d.says))
said (native ascii nfc count slot) w0 w1 w1_in d =
    subst (λ w. Counted ascii nfc false count NATIVE_TOP slot (w.0) (w.1)) d.says (counted ascii nfc true true false count NATIVE_TOP slot d.is_row.1 d.is_row.2)
said (literal ascii nfc count number) w0 w1 w1_in d =
    subst (λ w. Counted ascii nfc false count LITERAL_TOP number (w.0) (w.1)) d.says (counted ascii nfc false true false count LITERAL_TOP number d.is_row.1 d.is_row.2)
said (foreign ascii count slot) w0 w1 w1_in d =
    subst (λ w. Counted ascii ascii true count FOREIGN_TOP slot (w.0) (w.1)) d.says (counted ascii ascii false false true count FOREIGN_TOP slot d.is_row.0 d.is_row.1)
said (owned utf16 ascii nfc count) w0 w1 w1_in d =
    subst (λ w. Counted ascii nfc utf16 count OWNED_TOP 0 (w.0) (w.1)) d.says (counted ascii nfc false false utf16 count OWNED_TOP 0 d.is_row.2 (omega arith))

and-false : (b : Bool) → (b && false) ≡ false
and-false true = refl
and-false false = refl

ascii-all : (bytes : List ℕ) → IsAscii bytes → is_ascii bytes ≡ true
ascii-all [] below = refl
ascii-all (byte ∷ bytes) below =
    ap (λ b. b && is_ascii bytes) (lt-ltb byte 128 (below zero)) ∙ ascii-all bytes (λ i. below (suc i))

ascii-some : (bytes : List ℕ) (i : ℕ) → 128 ≤ slice_index bytes i → is_ascii bytes ≡ false
ascii-some [] zero above = absurd (omega (arith, above))
ascii-some [] (suc i) above = absurd (omega (arith, above))
ascii-some (byte ∷ bytes) zero above = ap (λ b. b && is_ascii bytes) (le-ltb byte 128 above)
ascii-some (byte ∷ bytes) (suc i) above = ap (λ b. nat_lt byte 0x80 && b) (ascii-some bytes i above) ∙ and-false (nat_lt byte 0x80)

-- std's test of a slice answers ours
pub ascii-told : (told : Bool) (bytes : List ℕ) → MatchBool told (IsAscii bytes) (IsNotAscii bytes) → told ≡ is_ascii bytes
ascii-told true bytes below = sym (ascii-all bytes below)
ascii-told false bytes above = sym (ascii-some bytes above.0 above.1)
