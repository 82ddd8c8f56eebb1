-- The bytes of words that are made of others.
use Rattle.std.proofs.Common.{◌≡◌, sym, ap, ◌∙◌, ℕ, ◌+◌, ◌-◌, ◌*◌, ◌/◌, ◌%◌, ◌^◌, ◌<◌, ◌≤◌, ⊎_elim, List, length, slice_index, w64, arith}
use Rattle.std.specs.Int.{from_le_bytes}
use Rattle.std.proofs.Math.Pow.{mod-mod-pow, pow_mono}
use Rattle.std.proofs.lemmas.Bool.{cases_lt}
use Rattle.std.proofs.lemmas.Nat.{field_of, shr-shr, shr_below, mod_below, pow_pos}
use Rattle.std.proofs.lemmas.List.{get_or_past, get_or-drop}
use Rattle.std.proofs.lemmas.List.FromFn.{get_or-map-range_with_len, length-map-range_with_len, fill_by_all}
use Rattle.text_spec.specs.Packed.{byte_of}
use Rattle.word_units.specs.Packing.{byte_word, byte_words}
use Rattle.word_units.proofs.Packed.{bytes-packed}
use Rattle.slot_edits.specs.Words.{content, content_byte, content_bytes, HoldsAt}

-- ---- the bytes of a slot
pub length-bytes : (known : List ℕ) (n : ℕ) → length (content_bytes known n) ≡ n
length-bytes known n = length-map-range_with_len (byte_of (content known)) 0 n

-- where a byte stands in the slot's words
pub content-at : (known : List ℕ) (p : ℕ) → content_byte known p ≡ slice_index known (p / 8 + 1) / 2 ^ (8 * (p % 8)) % 256
content-at known p =
    let place : 1 + p / 8 ≡ p / 8 + 1 = omega arith in
    ap (λ v. v / 2 ^ (8 * (p % 8)) % 256) (get_or-drop 1 known (p / 8) 0 ∙ ap (slice_index known) place)

-- two slots have one byte that have its word
pub byte-same : (known later : List ℕ) (p : ℕ) → slice_index later (p / 8 + 1) ≡ slice_index known (p / 8 + 1) → content_byte later p ≡ content_byte known p
byte-same known later p same = content-at later p ∙ ap (λ v. v / 2 ^ (8 * (p % 8)) % 256) same ∙ sym (content-at known p)

-- a list that has each of the first n bytes is they
pub fill-bytes : (known xs : List ℕ) (n : ℕ) → length xs ≡ n → ((p : ℕ) → p < n → slice_index xs p ≡ content_byte known p) → xs ≡ content_bytes known n
fill-bytes known xs n long each = fill_by_all (byte_of (content known)) xs n 0 long each

pub bytes-below : (known : List ℕ) (n p : ℕ) → p < n → slice_index (content_bytes known n) p ≡ content_byte known p
bytes-below known n p h = get_or-map-range_with_len (byte_of (content known)) 0 n p p 0 h (omega arith)

pub bytes-past : (known : List ℕ) (n p : ℕ) → n ≤ p → slice_index (content_bytes known n) p ≡ 0
bytes-past known n p h = get_or_past (content_bytes known n) p 0 (omega (arith, length-bytes known n))

-- a byte of the word that holds it
pub byte-in : (known : List ℕ) (count k i word : ℕ) → i < 8 → 8 * k + i < count → word ≡ slice_index known (k + 1)
    → word / 2 ^ (8 * i) % 256 ≡ slice_index (content_bytes known count) (8 * k + i)
byte-in known count k i word few below is =
    let place : k + 1 ≡ (8 * k + i) / 8 + 1 = omega arith in
    let offset : i ≡ (8 * k + i) % 8 = omega arith in
    ap (λ w. w / 2 ^ (8 * i) % 256) is ∙ ap (λ j. slice_index known j / 2 ^ (8 * i) % 256) place
    ∙ ap (λ j. slice_index known ((8 * k + i) / 8 + 1) / 2 ^ (8 * j) % 256) offset ∙ sym (bytes-below known count (8 * k + i) below ∙ content-at known (8 * k + i))

-- ---- a byte below bit w of a number
pub byte_low : (x w b : ℕ) → b + 8 ≤ w → x % 2 ^ w / 2 ^ b % 256 ≡ x / 2 ^ b % 256
byte_low x w b h =
    let whole : w ≡ (w - b) + b = omega arith in
    let more : w - b ≡ (w - b - 8) + 8 = omega arith in
    ap (λ v. x % 2 ^ v / 2 ^ b % 256) whole ∙ ap (λ n. n % 256) (field_of x (w - b) b)
    ∙ ap (λ v. x / 2 ^ b % 2 ^ v % 256) more ∙ mod-mod-pow (x / 2 ^ b) (w - b - 8) 8

-- and one from bit w on
pub byte_high : (x w b : ℕ) → w ≤ b → x % 2 ^ w / 2 ^ b % 256 ≡ 0
byte_high x w b h =
    let below : x % 2 ^ w < 2 ^ (0 + b) = let wide : w ≤ 0 + b = omega arith in omega (arith, pow_mono wide, mod_below x (2 ^ w) (pow_pos w)) in
    omega (arith, shr_below (x % 2 ^ w) 0 b below)

-- ---- two words, and eight bytes of them
pub joined-holds : (bytes : List ℕ) (p near far r word : ℕ) → near < 2 ^ 64 → r < 8 → word ≡ (near + far * 2 ^ 64) / 2 ^ (8 * r) % 2 ^ 64
    → HoldsAt bytes p near → HoldsAt bytes (p + 8) far → HoldsAt bytes (p + r) word
joined-holds bytes p near far r word small few is a b = record {
  byte = λ i h.
      let both = near + far * 2 ^ 64 in
      let low : both % 2 ^ 64 ≡ near = omega arith in
      let high : both / 2 ^ 64 ≡ far = omega arith in
      let first : word / 2 ^ (8 * i) % 256 ≡ both / 2 ^ (8 * r + 8 * i) % 256 =
      ap (λ w. w / 2 ^ (8 * i) % 256) is ∙ byte_low (both / 2 ^ (8 * r)) 64 (8 * i) (omega arith) ∙ ap (λ n. n % 256) (shr-shr both (8 * r) (8 * i)) in
      ⊎_elim
      (λ l.
      let sum : 8 * r + 8 * i ≡ 8 * (r + i) = omega arith in
      first ∙ sym (byte_low both 64 (8 * r + 8 * i) (omega arith)) ∙ ap (λ n. n / 2 ^ (8 * r + 8 * i) % 256) low ∙ ap (λ n. near / 2 ^ n % 256) sum
      ∙ a.byte (r + i) l ∙ ap (slice_index bytes) (omega arith))
      (λ l.
      let sum : 8 * r + 8 * i ≡ 64 + 8 * (r + i - 8) = omega arith in
      first ∙ ap (λ n. both / 2 ^ n % 256) sum ∙ ap (λ n. n % 256) (sym (shr-shr both 64 (8 * (r + i - 8)))) ∙ ap (λ n. n / 2 ^ (8 * (r + i - 8)) % 256) high
      ∙ b.byte (r + i - 8) (omega arith) ∙ ap (slice_index bytes) (omega arith))
      (cases_lt (r + i) 8);
}

-- ---- the word of the first eight bytes
pub front-byte : (bytes : List ℕ) (word i : ℕ) → ((j : ℕ) → slice_index bytes j < 2 ^ 8) → 8 ≤ length bytes → word ≡ from_le_bytes w64 bytes → i < 8
    → word / 2 ^ (8 * i) % 256 ≡ slice_index bytes i
front-byte bytes word i fits long is few =
    let first : i / 8 ≡ 0 = omega arith in
    let rest : i % 8 ≡ i = omega arith in
    let read : slice_index (byte_words bytes) (i / 8) ≡ byte_word bytes 0 =
    get_or-map-range_with_len (byte_word bytes) 0 ((length bytes + 7) / 8) (i / 8) (i / 8) 0 (omega arith) (omega arith) ∙ ap (byte_word bytes) first in
    ap (λ w. w / 2 ^ (8 * i) % 256) (is ∙ sym read) ∙ ap (λ j. slice_index (byte_words bytes) (i / 8) / 2 ^ (8 * j) % 256) (sym rest)
    ∙ sym (get_or-map-range_with_len (byte_of (byte_words bytes)) 0 (length bytes) i i 0 (omega (arith, long, few)) (omega arith))
    ∙ ap (λ (l : List ℕ). slice_index l i) (bytes-packed bytes fits)
