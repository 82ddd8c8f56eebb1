-- Bytes that stand eight to a word in a slot, behind its count word, and what an edit makes of them. Read by callers.
use Rattle.std.specs.Prelude.{◌≡◌, ℕ, ◌+◌, ◌*◌, ◌/◌, ◌%◌, ◌^◌, ◌<◌, ◌≤◌, ◌⊎◌, List, drop, slice_index}
use Rattle.text_spec.specs.Packed.{byte_of, bytes_of}

-- the content words of a slot, which stand behind its count word
abbrev pub content : List ℕ → List ℕ
content known = drop 1 known

-- byte p of them, and the first n bytes
abbrev pub content_byte : List ℕ → ℕ → ℕ
content_byte known p = byte_of (content known) p

abbrev pub content_bytes : List ℕ → ℕ → List ℕ
content_bytes known n = bytes_of (content known) n

-- the word has the eight bytes from place p on, and zeros behind the last
pub record HoldsAt (bytes : List ℕ) (p word : ℕ) : Type 0 where
  pub byte : (i : ℕ) → i < 8 → word / 2 ^ (8 * i) % 256 ≡ slice_index bytes (p + i)

-- the content words from number `from` to before number `to` have the bytes `new`, and every other word is as it was
pub record Rewrites (known new : List ℕ) (from to : ℕ) (later : List ℕ) : Type 0 where
  pub within : (p : ℕ) → 8 * from ≤ p → p < 8 * to → content_byte later p ≡ slice_index new p
  pub outside : (j : ℕ) → (j < from + 1) ⊎ (to + 1 ≤ j) → slice_index later j ≡ slice_index known j
