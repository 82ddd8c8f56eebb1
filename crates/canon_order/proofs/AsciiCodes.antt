-- A text of ASCII alone: a scalar is one code unit of either encoding, whose code it has.
use Rattle.std.proofs.Common.{◌≡◌, sym, ap, subst, ◌∙◌, ⊎_elim, ℕ, zero, suc, ◌+◌, ◌*◌, ◌/◌, ◌%◌, ◌<◌, ◌≤◌, List, length, get_or, min, Some, arith, refl}
use Rattle.std.proofs.lemmas.Bool.{cond-true, lt-ltb, cases_lt}
use Rattle.std.proofs.lemmas.List.Elements.{All-from_get_or}
use Rattle.std.proofs.str.Utf16.{lone_unit_char_low, lone_unit_char_high, lone_unit_char_surrogate}
use Rattle.std.specs.Char.{len_utf8}
use Rattle.std.specs.Option.{unwrap_or}
use Rattle.text_spec.specs.declared.encoding.Encoding.{Encoding}
use Rattle.text_spec.specs.declared.encoding.Encoding.TheVariants.{Utf8, Utf16}
use Rattle.text_spec.specs.Offsets.{len_utf16, start, down}
use Rattle.text_spec.specs.Packed.{units_of, content_words, denoted_text}
use Rattle.text_spec.specs.Views.{width_in, size_in}
use Rattle.text_spec.proofs.Bytes.{Stands}
use Rattle.text_spec.proofs.Denoting.{denoted_as, utf16_words}
use Rattle.text_spec.proofs.Repaired.{Stands16, read16, pair_cases}
use Rattle.text_spec.proofs.Walk.{start-zero, start-suc, down-start}
use Rattle.text_spec.proofs.Widths.{width_some}
use Rattle.unicode_normalization.specs.Forms.{nfc, Nfc}
use Rattle.unicode_normalization.proofs.FormsLemmas.{normalize-ascii}
use Rattle.word_units.proofs.Telling.{told8}
use Rattle.canon_order.specs.Codes.{code_in, in_a_word, wider, HoldsCodes}

abbrev pub IsAsciiText : List ℕ → Type 0
IsAsciiText b = (k : ℕ) → k < length b → get_or b k 0 < 0x80

-- it is its own form
pub nfc-ascii : (b : List ℕ) → IsAsciiText b → nfc b ≡ b
nfc-ascii b below = normalize-ascii Nfc b (All-from_get_or (λ c. c < 128) b 0 below)

width_one : (e : Encoding) (c : ℕ) → c < 0x80 → width_in e c ≡ 1
width_one Utf8 c h = cond-true _ _ _ (lt-ltb c 128 h)
width_one Utf16 c h = cond-true _ _ _ (lt-ltb c 65536 (omega arith))

-- numbers of scalars are positions
start-ascii : (e : Encoding) (b : List ℕ) → IsAsciiText b → (k : ℕ) → k ≤ length b → start (width_in e) b k ≡ k
start-ascii e b below zero h = start-zero (width_in e) b
start-ascii e b below (suc k) h =
    let unit = width_one e (get_or b k 0) (below k (omega arith)) in
    omega (arith, start-suc (width_in e) b k (omega arith), start-ascii e b below k (omega arith), unit)

down-ascii : (e : Encoding) (b : List ℕ) → IsAsciiText b → (p : ℕ) → p ≤ length b → down (width_in e) b p ≡ p
down-ascii e b below p inside = ap (down (width_in e) b) (sym (start-ascii e b below p inside)) ∙ down-start (width_in e) (width_some e) b p inside

pub size-ascii : (e : Encoding) (b : List ℕ) → IsAsciiText b → size_in e b ≡ length b
size-ascii e b below = start-ascii e b below (length b) (omega arith)

-- the byte that stands for an ASCII scalar is its code
byte-code : (ws : List ℕ) (p c : ℕ) → Stands ws p c → c < 0x80 → c ≡ code_in Utf8 (get_or ws (p / 8) 0) p
byte-code ws p c s low =
    let byte = code_in Utf8 (get_or ws (p / 8) 0) p in
    let one = width_one Utf8 c low in
    ⊎_elim (λ (a : byte < 128). (s.one a).1)
    (λ (a : 128 ≤ byte). ⊎_elim (λ (b : byte < 224). absurd (omega (arith, one, (s.two a b).0)))
    (λ (b : 224 ≤ byte). ⊎_elim (λ (d : byte < 240). absurd (omega (arith, one, (s.three b d).0)))
    (λ (d : 240 ≤ byte). absurd (omega (arith, one, (s.four d).0))) (cases_lt byte 240)) (cases_lt byte 224)) (cases_lt byte 128)

-- and so is the unit
unit-code : (us : List ℕ) (fits : (i : ℕ) → get_or us i 0 < 65536) (q c : ℕ) → Stands16 us fits q c → c < 0x80 → c ≡ get_or us q 0
unit-code us fits q c s low =
    let u = get_or us q 0 in
    let one = width_one Utf16 c low in
    ⊎_elim (λ pair. absurd (omega (arith, one, (s.pair pair).1)))
    (λ no. let is = (s.alone no).0 in
    ⊎_elim (λ (a : u < 0xD800). is ∙ ap (λ o. unwrap_or o 0xFFFD) (lone_unit_char_low u a))
    (λ (a : 0xD800 ≤ u). ⊎_elim
    (λ (b : u < 0xE000). absurd (omega (arith, low, is ∙ ap (λ o. unwrap_or o 0xFFFD) (lone_unit_char_surrogate u a b))))
    (λ (b : 0xE000 ≤ u). is ∙ ap (λ o. unwrap_or o 0xFFFD) (lone_unit_char_high u b)) (cases_lt u 0xE000)) (cases_lt u 0xD800))
    (pair_cases u (get_or us (q + 1) 0))

pub code-ascii : (e : Encoding) (ws : List ℕ) (n : ℕ) (b : List ℕ) → n ≡ size_in e b → denoted_text e ws n ≡ Some b → IsAsciiText b
    → (p : ℕ) → p < length b → get_or b p 0 ≡ code_in e (get_or ws (p / in_a_word e) 0) p
code-ascii Utf8 ws n b long is below p inside =
    let number = down-ascii Utf8 b below p (omega arith) in
    let boundary = ap (start len_utf8 b) number ∙ start-ascii Utf8 b below p (omega arith) in
    let told = told8 Utf8 ws n b p refl long is (omega (arith, size-ascii Utf8 b below)) boundary in
    byte-code ws p _ (subst (λ k. Stands ws p (get_or b k 0)) number told.stands) (below p inside)
code-ascii Utf16 ws n b long is below p inside =
    let us = units_of ws (size_in Utf16 b) in
    let w = utf16_words ws (size_in Utf16 b) b (denoted_as Utf16 Utf16 ws n b refl long is) in
    let stands : Stands16 us w.fits (start len_utf16 b p) (get_or b p 0) =
    subst (λ t. p < length t → Stands16 us w.fits (start len_utf16 t p) (get_or t p 0)) w.text (read16 us w.fits p) inside in
    let here = subst (λ q. Stands16 us w.fits q (get_or b p 0)) (start-ascii Utf16 b below p (omega arith)) stands in
    unit-code us w.fits p _ here (below p inside) ∙ w.unit p (omega (arith, size-ascii Utf16 b below))

-- ---- places that lie in one word
pub same_word : (e f : Encoding) (from to p : ℕ) → from % in_a_word (wider e f) ≡ 0 → to ≤ from + in_a_word (wider e f) → from ≤ p → p < to
    → (p / in_a_word e ≡ from / in_a_word e) × (p / in_a_word f ≡ from / in_a_word f)
same_word Utf8 Utf8 from to p aligned near above below = (omega arith, omega arith)
same_word Utf8 Utf16 from to p aligned near above below = (omega arith, omega arith)
same_word Utf16 Utf8 from to p aligned near above below = (omega arith, omega arith)
same_word Utf16 Utf16 from to p aligned near above below = (omega arith, omega arith)

-- the word that is read holds the scalars of its places; `f` is the encoding as it was asked for, `size` what a word of it holds
pub holds : (e f : Encoding) (ws : List ℕ) (n : ℕ) (b : List ℕ) (from to size word : ℕ) → n ≡ size_in e b → denoted_text e ws n ≡ Some b → IsAsciiText b
    → to ≤ length b → ((p : ℕ) → from ≤ p → p < to → p / in_a_word e ≡ from / in_a_word e)
    → f ≡ e → size ≡ in_a_word f → word ≡ get_or ws (from / size) 0 → HoldsCodes f word b from to
holds e f ws n b from to size word long is below inside near same size_is word_is =
    let place : from / in_a_word e ≡ from / size = ap (λ s. from / s) (ap in_a_word (sym same) ∙ sym size_is) in
    record {
      inside = inside;
      codes = λ p above before.
          code-ascii e ws n b long is below p (omega arith)
          ∙ ap (λ k. code_in e (get_or ws k 0) p) (near p above before ∙ place)
          ∙ ap (λ w. code_in e w p) (sym word_is) ∙ ap (λ x. code_in x word p) (sym same);
    }

-- the word of a place is among the content words
in_words : (e : Encoding) (b : List ℕ) → IsAsciiText b → (p : ℕ) → p < length b → p / in_a_word e < content_words e (size_in e b)
in_words Utf8 b below p inside = omega (arith, size-ascii Utf8 b below)
in_words Utf16 b below p inside = omega (arith, size-ascii Utf16 b below)

pub word_inside : (e f : Encoding) (b : List ℕ) (p size : ℕ) → IsAsciiText b → p < length b → f ≡ e → size ≡ in_a_word f → p / size < content_words e (size_in e b)
word_inside e f b p size below inside same size_is =
    let place : p / size ≡ p / in_a_word e = ap (λ s. p / s) (size_is ∙ ap in_a_word same) in
    omega (arith, in_words e b below p inside, place)

-- ---- the block that follows
pub record NextBlock (e : Encoding) (at shared to : ℕ) : Type 0 where
  pub ahead : at < to
  pub within : to ≤ shared
  pub near : to ≤ at + in_a_word e
  pub aligned : to < shared → to % in_a_word e ≡ 0
  pub cost : content_words e at + 1 ≤ content_words e to

pub next_block : (e : Encoding) (at shared to size : ℕ) → at < shared → at % in_a_word e ≡ 0 → size ≡ in_a_word e → to ≡ min shared (at + size) → NextBlock e at shared to
next_block Utf8 at shared to size below here size_is is =
    record { ahead = omega arith; within = omega arith; near = omega arith; aligned = λ h. omega arith; cost = omega arith }
next_block Utf16 at shared to size below here size_is is =
    record { ahead = omega arith; within = omega arith; near = omega arith; aligned = λ h. omega arith; cost = omega arith }

-- more code units take no fewer words
pub words_grow : (e : Encoding) (m n : ℕ) → m ≤ n → content_words e m ≤ content_words e n
words_grow Utf8 m n order = omega arith
words_grow Utf16 m n order = omega arith

-- the shorter of two such texts, by their code units
pub shorter : (e f : Encoding) (a b : List ℕ) (n m shared : ℕ) → IsAsciiText a → IsAsciiText b → n ≡ size_in e a → m ≡ size_in f b → shared ≡ min n m
    → shared ≡ min (length a) (length b)
shorter e f a b n m shared left right n_is m_is is = omega (arith, is, n_is, m_is, size-ascii e a left, size-ascii f b right)

-- where both are in UTF-8, their shared words are no more than those of both
pub shared_words : (e f : Encoding) (a b : List ℕ) → IsAsciiText a → IsAsciiText b → e ≡ Utf8 → f ≡ Utf8
    → 2 * content_words (wider e f) (min (length a) (length b)) ≤ content_words Utf8 (size_in Utf8 a) + content_words Utf8 (size_in Utf8 b)
shared_words e f a b left right is8 other8 =
    let one : content_words (wider e f) (min (length a) (length b)) ≡ content_words Utf8 (min (length a) (length b)) =
    ap (λ x. content_words x (min (length a) (length b))) (ap (λ x. wider x f) is8 ∙ ap (wider Utf8) other8) in
    omega (arith, one, size-ascii Utf8 a left, size-ascii Utf8 b right)
