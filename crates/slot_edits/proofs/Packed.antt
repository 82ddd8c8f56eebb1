-- The words that bytes are published as.
use Rattle.std.proofs.Common.{◌≡◌, sym, ap, ◌∙◌, ℕ, ◌+◌, ◌-◌, ◌*◌, ◌/◌, ◌%◌, ◌^◌, ◌<◌, ◌≤◌, ⊎_elim, List, [], ◌∷◌, ◌++◌, length, drop, get_or, slice_index, w64, arith}
use Rattle.std.specs.Int.{to_le_bytes, from_le_bytes}
use Rattle.std.proofs.lemmas.Bool.{cases_lt}
use Rattle.std.proofs.lemmas.Nat.{from_le_bytes-to_le_bytes_8}
use Rattle.std.proofs.lemmas.List.{get_or-drop}
use Rattle.std.proofs.lemmas.List.FromFn.{length-map-range_with_len, map-range_with_len_more}
use Rattle.word_units.specs.Packing.{byte_word}
use Rattle.word_units.proofs.Packed.{bytes-packed}
use Rattle.object_words.specs.Rows.{is_ascii}
use Rattle.slot_edits.specs.declared.part.Part.{Part}
use Rattle.slot_edits.specs.Parts.{spliced}
use Rattle.slot_edits.specs.Texts.{native_count, native_words, begun, Edited}
use Rattle.slot_edits.specs.Words.{content_bytes, HoldsAt}
use Rattle.slot_edits.proofs.Bytes.{length-bytes, bytes-below, bytes-past}
use Rattle.slot_edits.proofs.Splices.{splice-front, splice-with, splice-back}

-- ---- a word that has eight bytes is the word of them
pub holds-word : (bytes : List ℕ) (k word : ℕ) → word < 2 ^ 64 → HoldsAt bytes (8 * k) word → word ≡ byte_word bytes k
holds-word bytes k word small h =
    let rest = drop (8 * k) bytes in
    let byte = λ (i : ℕ) (few : i < 8).
    let e : word / 2 ^ (8 * i) % 256 ≡ get_or rest i 0 = h.byte i few ∙ sym (get_or-drop (8 * k) bytes i 0) in
    e in
    let whole : from_le_bytes w64 (to_le_bytes w64 word) ≡ word = from_le_bytes-to_le_bytes_8 word small in
    omega (arith, whole, byte 0 (omega arith), byte 1 (omega arith), byte 2 (omega arith), byte 3 (omega arith), byte 4 (omega arith), byte 5 (omega arith), byte 6 (omega arith), byte 7 (omega arith))

-- ---- each byte of the new text is a byte
pub old-fits : (known : List ℕ) (n p : ℕ) → slice_index (content_bytes known n) p < 256
old-fits known n p =
    ⊎_elim (λ l. omega (arith, bytes-below known n p l)) (λ l. omega (arith, bytes-past known n p l)) (cases_lt p n)

pub spliced-fits : (known : List ℕ) (part : Part) (with : List ℕ) → part.low ≤ part.high → part.high ≤ part.count → ((i : ℕ) → slice_index with i < 256)
    → (p : ℕ) → slice_index (spliced known part with) p < 256
spliced-fits known part with order inside fits p =
    let old = content_bytes known part.count in
    let within : part.low ≤ length old = omega (arith, length-bytes known part.count) in
    ⊎_elim (λ l. omega (arith, splice-front old with part.low part.high within p l, old-fits known part.count p))
    (λ a. ⊎_elim (λ l. omega (arith, splice-with old with part.low part.high within p a l, fits (p - part.low)))
    (λ b. omega (arith, splice-back old with part.low part.high within p b, old-fits known part.count (part.high + (p - (part.low + length with)))))
    (cases_lt p (part.low + length with)))
    (cases_lt p part.low)

-- ---- the published words
pub length-native : (bytes : List ℕ) → length (native_words bytes) ≡ (length bytes + 7) / 8 + 1
length-native bytes = omega (arith, length-map-range_with_len (byte_word bytes) 0 ((length bytes + 7) / 8))

pub native-edited : (known : List ℕ) (part : Part) (with later : List ℕ) → part.low ≤ part.high → part.high ≤ part.count → ((i : ℕ) → slice_index with i < 256)
    → later ≡ native_words (spliced known part with) → Edited known part with later
native-edited known part with later order inside fits is =
    let new = spliced known part with in
    let told : content_bytes later (length new) ≡ new =
    ap (λ (l : List ℕ). content_bytes l (length new)) is ∙ bytes-packed new (spliced-fits known part with order inside fits) in
    record {
      bytes = told;
      text = record {
        says = ap (λ (l : List ℕ). slice_index l 0) is;
        exact = ap is_ascii (sym told);
        room = omega (arith, ap length is, length-native new);
      };
    }

-- ---- one content word more
pub begun-more : (bytes : List ℕ) (k word : ℕ) → word ≡ byte_word bytes k → begun bytes k ++ word ∷ [] ≡ begun bytes (k + 1)
begun-more bytes k word is =
    ap (λ (w : ℕ). begun bytes k ++ w ∷ []) is
    ∙ ap (λ (l : List ℕ). native_count (is_ascii bytes) (length bytes) ∷ l) (sym (map-range_with_len_more (byte_word bytes) 0 k k (omega arith)))

pub length-begun : (bytes : List ℕ) (k : ℕ) → length (begun bytes k) ≡ k + 1
length-begun bytes k = omega (arith, length-map-range_with_len (byte_word bytes) 0 k)
