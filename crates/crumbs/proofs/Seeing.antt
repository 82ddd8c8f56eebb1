-- Scalars and UTF-16 units, counted byte by byte.
use Rattle.std.proofs.Common.{◌≡◌, refl, sym, ap, subst, ◌∙◌, ℕ, zero, suc, min, ◌+◌, ◌-◌, ◌*◌, ◌/◌, ◌%◌, ◌^◌, ◌<◌, ◌≤◌, Some, ⊎_elim, true, List, [], ◌∷◌, length, get_or, arith}
use Rattle.std.proofs.lemmas.Bool.{cases_lt}
use Rattle.std.specs.Char.{len_utf8}
use Rattle.std.specs.Str.{all_scalars, encode_utf8_all}
use Rattle.std.proofs.lemmas.Str.{len_utf8_bounds}
use Rattle.text_spec.specs.declared.encoding.Encoding.{Encoding}
use Rattle.text_spec.specs.declared.encoding.Encoding.TheVariants.{Utf8}
use Rattle.text_spec.specs.Offsets.{len_utf16, start, down}
use Rattle.text_spec.specs.Packed.{denoted_text}
use Rattle.text_spec.specs.Views.{size_in}
use Rattle.text_spec.proofs.Denoting.{denoted_as, utf8_words}
use Rattle.index_words.specs.Crumbs.{size16, index_word8, index16}
use Rattle.word_units.specs.Counting.{scalars_begun, units_begun, units_within}
use Rattle.word_units.proofs.Beginning.{Begun, one_more, byte_lead, byte_rest, byte_begins}
use Rattle.word_units.proofs.Spreading.{within_more}
use Rattle.crumbs.specs.Counting.{Seen}
use Rattle.text_spec.proofs.Walk.{start-zero, start-suc, start-le, down-unique, down-end}
use Rattle.text_spec.proofs.Bytes.{length-utf8}
use Rattle.text_spec.proofs.Widths.{len8_some}
use Rattle.crumbs.proofs.Crumbing.{index16-at}

-- the scalars that are counted are those that begin before the byte
begun_of : (t : List ℕ) (p units : ℕ) (s : Seen t p units) → Begun t p s.number
begun_of t p units s = record { inside = s.inside; next = s.next; last = s.last }

-- ---- one byte more
module _ (t : List ℕ) (ok : all_scalars t ≡ true) where
  module _ (p units : ℕ) (s : Seen t p units) where
    pub seen_more : p < length (encode_utf8_all t) → Seen t (p + 1) (units + units_begun (get_or (encode_utf8_all t) p 0))
    seen_more h =
        let step = one_more t ok p s.number (begun_of t p units s) h in
        let k = s.number + scalars_begun (get_or (encode_utf8_all t) p 0) in
        record {
          number = k;
          inside = step.begun.inside;
          next = step.begun.next;
          last = step.begun.last;
          units_are = omega (arith, s.units_are, step.units);
          units_in = omega (arith, s.units_are, step.units, start-le len_utf16 t k);
        }

    -- the index of each unit of the scalar that begins at p
    pub seen_units : p < length (encode_utf8_all t) → (o : ℕ) → units ≤ o → o < units + units_begun (get_or (encode_utf8_all t) p 0) → index16 t o ≡ index_word8 p (o - units)
    seen_units h o low high =
        let k = s.number in
        let begun = begun_of t p units s in
        ⊎_elim (λ rest. absurd (omega (arith, (byte_rest t ok p k begun h rest).units_are)))
        (λ at.
        let e : start len_utf8 t k ≡ p = omega (arith, s.next) in
        let some = byte_begins t ok p k begun h e in
        let r = (byte_lead t ok k p some e).units_are in
        let d : down len_utf16 t o ≡ k = down-unique len_utf16 t o k some (omega (arith, s.units_are)) (omega (arith, s.units_are, r, start-suc len_utf16 t k some)) in
        sym (index16-at t o k p (o - units) d e (ap (λ n. o - n) (sym s.units_are))))
        (cases_lt p (start len_utf8 t k))

pub seen_none : (t : List ℕ) → Seen t 0 0
seen_none t = record { number = 0; inside = omega arith; next = omega arith; last = λ j l. absurd (omega arith); units_are = sym (start-zero len_utf16 t); units_in = omega arith }

-- at the end every scalar is seen
all_seen : (t : List ℕ) (p units : ℕ) (s : Seen t p units) → p ≡ length (encode_utf8_all t) → s.number ≡ length t
all_seen t p units s e =
    ⊎_elim (λ (l : s.number < length t). absurd (omega (arith, start-suc len_utf8 t s.number l, len8_some (get_or t s.number 0), start-le len_utf8 t (suc s.number), length-utf8 t, s.next))) (λ (l : length t ≤ s.number). omega (arith, s.inside)) (cases_lt s.number (length t))

pub seen_all : (t : List ℕ) (p units : ℕ) → Seen t p units → p ≡ length (encode_utf8_all t) → units ≡ size16 t
seen_all t p units s e = s.units_are ∙ ap (start len_utf16 t) (all_seen t p units s e)

-- the index of the end
pub end_unit : (t : List ℕ) (p units : ℕ) → Seen t p units → p ≡ length (encode_utf8_all t) → (o : ℕ) → units ≤ o → o < units + 1 → index16 t o ≡ index_word8 p (o - units)
end_unit t p units s e o low high =
    let all = seen_all t p units s e in
    let d : down len_utf16 t o ≡ length t = down-end len_utf16 t o (omega (arith, all)) in
    sym (index16-at t o (length t) p (o - units) d (omega (arith, length-utf8 t)) (omega (arith, all)))

-- the content words of a text are no more than its scalars
bytes_most : (t : List ℕ) → start len_utf8 t (length t) ≤ 4 * length t
bytes_most [] = omega arith
bytes_most (c ∷ t) = let b = len_utf8_bounds c in omega (arith, bytes_most t)

pub words_most : (t : List ℕ) → (start len_utf8 t (length t) + 7) / 8 ≤ length t
words_most t = omega (arith, bytes_most t)

-- ---- one byte more of content words
pub long8 : (e : Encoding) (n : ℕ) (b : List ℕ) → e ≡ Utf8 → n ≡ size_in e b → n ≡ size_in Utf8 b
long8 e n b same long = long ∙ ap (λ x. size_in x b) same

pub record Stepped (b : List ℕ) (p reached stop : ℕ) : Type 0 where
  pub more : Seen b (p + 1) stop
  pub units : (o : ℕ) → reached ≤ o → o < stop → index16 b o ≡ index_word8 p (o - reached)

pub stepped : (e : Encoding) (ws : List ℕ) (n : ℕ) (b : List ℕ) (p reached word wide : ℕ) → e ≡ Utf8 → n ≡ size_in e b → denoted_text e ws n ≡ Some b
    → Seen b p reached → p < n → word ≡ get_or ws (p / 8) 0 → wide ≡ units_begun (word / 2 ^ (8 * (p % 8)) % 256) → Stepped b p reached (reached + wide)
stepped e ws n b p reached word wide same long is seen inside here takes =
    let w = utf8_words ws (size_in Utf8 b) b (denoted_as e Utf8 ws n b same long is) in
    let below : p < length (encode_utf8_all b) = omega (arith, inside, long8 e n b same long, length-utf8 b) in
    let byte : word / 2 ^ (8 * (p % 8)) % 256 ≡ get_or (encode_utf8_all b) p 0 = ap (λ v. v / 2 ^ (8 * (p % 8)) % 256) here ∙ w.held.1 p below in
    let told : units_begun (get_or (encode_utf8_all b) p 0) ≡ wide = sym (takes ∙ ap units_begun byte) in
    record {
      more = subst (λ x. Seen b (p + 1) (reached + x)) told (seen_more b w.scalars p reached seen below);
      units = subst (λ x. (o : ℕ) → reached ≤ o → o < reached + x → index16 b o ≡ index_word8 p (o - reached)) told (seen_units b w.scalars p reached seen below);
    }

-- the same at byte j of content word k
pub stepped_in : (e : Encoding) (ws : List ℕ) (n : ℕ) (b : List ℕ) (k j reached word wide : ℕ) → e ≡ Utf8 → n ≡ size_in e b → denoted_text e ws n ≡ Some b
    → Seen b (8 * k + j) reached → j < 8 → 8 * k + j < n → word ≡ get_or ws k 0 → wide ≡ units_begun (word / 2 ^ (8 * j) % 256) → Stepped b (8 * k + j) reached (reached + wide)
stepped_in e ws n b k j reached word wide same long is seen low inside here takes =
    let p = 8 * k + j in
    let at : k ≡ p / 8 = omega arith in
    let place : j ≡ p % 8 = omega arith in
    stepped e ws n b p reached word wide same long is seen inside (here ∙ ap (λ i. get_or ws i 0) at) (takes ∙ ap (λ i. units_begun (word / 2 ^ (8 * i) % 256)) place)

-- and of its first bytes together
seen_bytes : (e : Encoding) (ws : List ℕ) (n : ℕ) (b : List ℕ) (k reached word : ℕ) → e ≡ Utf8 → n ≡ size_in e b → denoted_text e ws n ≡ Some b
    → word ≡ get_or ws k 0 → Seen b (8 * k) reached → (j : ℕ) → j ≤ 8 → 8 * k + j ≤ n → Seen b (8 * k + j) (reached + units_within j word)
seen_bytes e ws n b k reached word same long is here seen zero most inside =
    let place : 8 * k ≡ 8 * k + 0 = omega arith in
    let units : reached ≡ reached + 0 = omega arith in
    subst (λ p. Seen b p (reached + 0)) place (subst (Seen b (8 * k)) units seen)
seen_bytes e ws n b k reached word same long is here seen (suc j) most inside =
    let before = seen_bytes e ws n b k reached word same long is here seen j (omega arith) (omega arith) in
    let step = stepped_in e ws n b k j (reached + units_within j word) word _ same long is before (omega arith) (omega arith) here refl in
    let place : 8 * k + j + 1 ≡ 8 * k + suc j = omega arith in
    let next : j + 1 ≡ suc j = omega arith in
    let units : reached + units_within j word + units_begun (word / 2 ^ (8 * j) % 256) ≡ reached + units_within (suc j) word = omega (arith, within_more units_begun j word, ap (λ m. units_within m word) next) in
    subst (λ p. Seen b p (reached + units_within (suc j) word)) place (subst (Seen b (8 * k + j + 1)) units step.more)

-- where word k begins, or the text ends before it
abbrev pub place_of_word : ℕ → ℕ → ℕ
place_of_word count k = min (8 * k) count

pub seen_word : (e : Encoding) (ws : List ℕ) (n : ℕ) (b : List ℕ) (k reached word size : ℕ) → e ≡ Utf8 → n ≡ size_in e b → denoted_text e ws n ≡ Some b
    → Seen b (place_of_word n k) reached → 8 * k < n → word ≡ get_or ws k 0 → size ≡ min 8 (n - 8 * k)
    → Seen b (place_of_word n (k + 1)) (reached + units_within size word)
seen_word e ws n b k reached word size same long is seen inside here bytes =
    let first : min (8 * k) n ≡ 8 * k = omega arith in
    let last : 8 * k + size ≡ min (8 * (k + 1)) n = omega arith in
    subst (λ p. Seen b p (reached + units_within size word)) last
    (seen_bytes e ws n b k reached word same long is here (subst (λ p. Seen b p reached) first seen) size (omega arith) (omega arith))

-- at the end all units are counted, and the last index is that of the end
pub seen_end : (e : Encoding) (n : ℕ) (b : List ℕ) (p reached : ℕ) → e ≡ Utf8 → n ≡ size_in e b → Seen b p reached → p ≡ n → reached ≡ size16 b
seen_end e n b p reached same long seen at = seen_all b p reached seen (at ∙ long8 e n b same long ∙ sym (length-utf8 b))

pub end_units : (e : Encoding) (n : ℕ) (b : List ℕ) (p reached : ℕ) → e ≡ Utf8 → n ≡ size_in e b → Seen b p reached → p ≡ n
    → (o : ℕ) → reached ≤ o → o < reached + 1 → index16 b o ≡ index_word8 n (o - reached)
end_units e n b p reached same long seen at o low high =
    end_unit b p reached seen (at ∙ long8 e n b same long ∙ sym (length-utf8 b)) o low high ∙ ap (λ q. index_word8 q (o - reached)) at
