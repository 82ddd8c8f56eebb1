-- A scalar read from two words.
use Rattle.std.proofs.Common.{◌≡◌, ◌≢◌, refl, sym, ap, subst, ◌∙◌, ℕ, ◌+◌, ◌-◌, ◌*◌, ◌/◌, ◌%◌, ◌<◌, ◌≤◌, List, length, get_or, arith, ⊎_elim, Some}
use Rattle.std.proofs.lemmas.Bool.{cases_lt}
use Rattle.std.specs.Char.{len_utf8}
use Rattle.std.specs.Char.Utf16.{lone_unit_char, surrogate_pair_char}
use Rattle.std.specs.Option.{unwrap_or}
use Rattle.std.specs.Str.{encode_utf8_all}
use Rattle.text_spec.specs.declared.encoding.Encoding.{Encoding}
use Rattle.text_spec.specs.declared.encoding.Encoding.TheVariants.{Utf8, Utf16}
use Rattle.text_spec.specs.Offsets.{len_utf16, start, down}
use Rattle.text_spec.specs.Packed.{byte_of, unit_of, units_of, denoted_text, IsPair}
use Rattle.text_spec.specs.Text.{repair}
use Rattle.text_spec.specs.Views.{size_in}
use Rattle.text_spec.proofs.Bytes.{Stands, stands, covered, length-utf8}
use Rattle.text_spec.proofs.Denoting.{denoted_as, utf8_words, utf16_words}
use Rattle.text_spec.proofs.Repaired.{Stands16, read16, pair_cases}
use Rattle.text_spec.proofs.Walk.{down-next}

-- the scalar at a boundary below the end, as the words tell it
pub record Told8 (ws b : List ℕ) (p : ℕ) : Type 0 where
  pub stands : Stands ws p (get_or b (down len_utf8 b p) 0)
  pub fits : p + len_utf8 (get_or b (down len_utf8 b p) 0) ≤ size_in Utf8 b
  pub some : 1 ≤ len_utf8 (get_or b (down len_utf8 b p) 0)
  pub few : len_utf8 (get_or b (down len_utf8 b p) 0) ≤ 4

pub told8 : (e : Encoding) (ws : List ℕ) (n : ℕ) (b : List ℕ) (p : ℕ) → e ≡ Utf8 → n ≡ size_in e b → denoted_text e ws n ≡ Some b
    → p < size_in Utf8 b → start len_utf8 b (down len_utf8 b p) ≡ p → Told8 ws b p
told8 e ws n b p same long is inside at =
    let w = utf8_words ws (size_in Utf8 b) b (denoted_as e Utf8 ws n b same long is) in
    let below : p < length (encode_utf8_all b) = omega (arith, inside, length-utf8 b) in
    let here = covered b w.scalars p below in
    record {
      stands = stands ws b w.scalars w.held p below at;
      fits = omega (arith, here.next, here.fits, at, length-utf8 b);
      some = here.width.0;
      few = here.width.1;
    }

module _ (ws : List ℕ) (p c lead : ℕ) (s : Stands ws p c) (is : lead ≡ byte_of ws p) where
  -- how many bytes the lead byte tells
  pub width-is : (width : ℕ) → (lead < 128 → width ≡ 1) → (128 ≤ lead → lead < 224 → width ≡ 2) → (224 ≤ lead → lead < 240 → width ≡ 3)
      → (240 ≤ lead → width ≡ 4) → width ≡ len_utf8 c
  width-is width one two three four =
      ⊎_elim (λ a. one a ∙ sym (s.one (omega arith)).0)
      (λ a. ⊎_elim (λ b. two a b ∙ sym (s.two (omega arith) (omega arith)).0)
      (λ b. ⊎_elim (λ d. three b d ∙ sym (s.three (omega arith) (omega arith)).0) (λ d. four d ∙ sym (s.four (omega arith)).0)
      (cases_lt lead 240)) (cases_lt lead 224)) (cases_lt lead 128)

  -- and the code that the bytes tell
  pub code-is : (second third fourth code : ℕ)
      → (2 ≤ len_utf8 c → second ≡ byte_of ws (p + 1)) → (3 ≤ len_utf8 c → third ≡ byte_of ws (p + 2)) → (4 ≤ len_utf8 c → fourth ≡ byte_of ws (p + 3))
      → (lead < 128 → code ≡ lead) → (128 ≤ lead → lead < 224 → code ≡ lead % 32 * 64 + second % 64)
      → (224 ≤ lead → lead < 240 → code ≡ lead % 16 * 4096 + second % 64 * 64 + third % 64)
      → (240 ≤ lead → code ≡ lead % 8 * 262144 + second % 64 * 4096 + third % 64 * 64 + fourth % 64) → code ≡ c
  code-is second third fourth code s2 s3 s4 one two three four =
      ⊎_elim (λ a. one a ∙ is ∙ sym (s.one (omega arith)).1)
      (λ a. ⊎_elim
      (λ b. let r = s.two (omega arith) (omega arith) in two a b ∙ rw (is, s2 (omega arith)) refl ∙ sym r.1)
      (λ b. ⊎_elim
      (λ d. let r = s.three (omega arith) (omega arith) in three b d ∙ rw (is, s2 (omega arith), s3 (omega arith)) refl ∙ sym r.1)
      (λ d. let r = s.four (omega arith) in four d ∙ rw (is, s2 (omega arith), s3 (omega arith), s4 (omega arith)) refl ∙ sym r.1)
      (cases_lt lead 240)) (cases_lt lead 224)) (cases_lt lead 128)

-- a place of the scalar lies in the word of its first byte or in that of its last
pub behind : (ws : List ℕ) (p j width far : ℕ) → j < width → width ≤ 4 → far ≡ get_or ws ((p + width - 1) / 8) 0
    → (p + j) / 8 ≢ p / 8 → far ≡ get_or ws ((p + j) / 8) 0
behind ws p j width far l most is other =
    let e : (p + width - 1) / 8 ≡ (p + j) / 8 = omega arith in
    is ∙ ap (λ i. get_or ws i 0) e

-- ---- a scalar read from two units
-- what a pair of units, or a lone one, tells of the scalar that begins there
abbrev pub Codes : ℕ → ℕ → ℕ → ℕ → Type 0
Codes u next code width =
    (IsPair u next → (code ≡ surrogate_pair_char u next) × (width ≡ 2))
    × ((IsPair u next → ⊥) → (code ≡ unwrap_or (lone_unit_char u) 0xFFFD) × (width ≡ 1))

codes16 : (us : List ℕ) (fits : (i : ℕ) → get_or us i 0 < 65536) (q c code width : ℕ) → Stands16 us fits q c
    → Codes (get_or us q 0) (get_or us (q + 1) 0) code width → (code ≡ c) × (width ≡ len_utf16 c)
codes16 us fits q c code width s told =
    ⊎_elim
    (λ p. let a = told.0 p in let b = s.pair p in (a.0 ∙ sym b.0, a.1 ∙ sym b.1))
    (λ no. let a = told.1 no in let b = s.alone no in (a.0 ∙ sym b.0, a.1 ∙ sym b.1))
    (pair_cases (get_or us q 0) (get_or us (q + 1) 0))

-- of a unit that isn't the first half of a pair, the next one tells nothing
codes_beside : (u next real code width : ℕ) → (0xD800 ≤ u → u < 0xDC00 → next ≡ real) → Codes u next code width → Codes u real code width
codes_beside u next real code width same told = (
  (λ p. let e = same p.0 p.1 in let a = told.0 (subst (λ v. IsPair u v) (sym e) p) in (a.0 ∙ ap (surrogate_pair_char u) e, a.1)),
  λ no. told.1 (λ p. no (subst (λ v. IsPair u v) (same p.0 p.1) p)),
)

pub told16 : (e : Encoding) (ws : List ℕ) (n : ℕ) (b : List ℕ) (p u next code width : ℕ) → e ≡ Utf16 → n ≡ size_in e b → denoted_text e ws n ≡ Some b
    → p < size_in Utf16 b → start len_utf16 b (down len_utf16 b p) ≡ p → u ≡ unit_of ws p
    → (0xD800 ≤ u → u < 0xDC00 → next ≡ get_or (units_of ws (size_in Utf16 b)) (p + 1) 0)
    → Codes u next code width
    → (code ≡ get_or b (down len_utf16 b p) 0) × (width ≡ len_utf16 (get_or b (down len_utf16 b p) 0))
told16 e ws n b p u next code width same long is inside at here beside told =
    let us = units_of ws (size_in Utf16 b) in
    let w = utf16_words ws (size_in Utf16 b) b (denoted_as e Utf16 ws n b same long is) in
    let unit : u ≡ get_or us p 0 = here ∙ sym (w.unit p inside) in
    let near = down-next len_utf16 b p inside in
    let stands : Stands16 us w.fits (start len_utf16 b (down len_utf16 b p)) (get_or b (down len_utf16 b p) 0) =
    subst (λ t. down len_utf16 t p < length t → Stands16 us w.fits (start len_utf16 t (down len_utf16 t p)) (get_or t (down len_utf16 t p) 0)) w.text (read16 us w.fits (down len_utf16 (repair us) p)) near.0 in
    let stands_at = subst (λ q. Stands16 us w.fits q (get_or b (down len_utf16 b p) 0)) at stands in
    codes16 us w.fits p _ code width stands_at (subst (λ v. Codes v (get_or us (p + 1) 0) code width) unit (codes_beside u next (get_or us (p + 1) 0) code width beside told))
