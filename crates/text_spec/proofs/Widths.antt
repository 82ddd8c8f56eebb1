-- How many code units a scalar takes.
use Rattle.std.proofs.Common.{◌≡◌, ◌∙◌, ℕ, ◌<◌, ◌≤◌, inl, inr, ◌⊎◌, ⊎_elim, arith}
use Rattle.std.proofs.lemmas.Bool.{cases_lt, cond-true, cond-false, lt-ltb, le-ltb}
use Rattle.std.proofs.lemmas.Str.{len_utf8_bounds}
use Rattle.std.specs.Char.{len_utf8}
use Rattle.text_spec.specs.declared.encoding.Encoding.{Encoding}
use Rattle.text_spec.specs.declared.encoding.Encoding.TheVariants.{Utf8, Utf16}
use Rattle.text_spec.specs.Offsets.{len_utf16}
use Rattle.text_spec.specs.Views.{width_in, other_width}

pub len16_cases : (c : ℕ) → ((c < 65536) × (len_utf16 c ≡ 1)) ⊎ ((65536 ≤ c) × (len_utf16 c ≡ 2))
len16_cases c = ⊎_elim (λ h. inl (h, cond-true _ _ _ (lt-ltb c 65536 h))) (λ h. inr (h, cond-false _ _ _ (le-ltb c 65536 h))) (cases_lt c 65536)

pub len16_some : (c : ℕ) → 0 < len_utf16 c
len16_some c = ⊎_elim (λ h. omega arith) (λ h. omega arith) (len16_cases c)

pub len16_most : (c : ℕ) → len_utf16 c ≤ 2
len16_most c = ⊎_elim (λ h. omega arith) (λ h. omega arith) (len16_cases c)

pub len8_some : (c : ℕ) → 0 < len_utf8 c
len8_some c = let b = len_utf8_bounds c in omega arith

pub len8_pair : (c : ℕ) → len_utf16 c ≡ 2 → len_utf8 c ≡ 4
len8_pair c e =
    let big : 65536 ≤ c = ⊎_elim (λ h. absurd (omega arith)) (λ h. h.0) (len16_cases c) in
    cond-false _ _ _ (le-ltb c 128 (omega arith)) ∙ cond-false _ _ _ (le-ltb c 2048 (omega arith)) ∙ cond-false _ _ _ (le-ltb c 65536 big)

pub width_some : (e : Encoding) (c : ℕ) → 0 < width_in e c
width_some Utf8 c = len8_some c
width_some Utf16 c = len16_some c

pub width_most : (e : Encoding) (c : ℕ) → width_in e c ≤ 4
width_most Utf8 c = let b = len_utf8_bounds c in omega arith
width_most Utf16 c = omega (arith, len16_most c)

pub other_some : (e : Encoding) (c : ℕ) → 0 < other_width e c
other_some Utf8 c = len16_some c
other_some Utf16 c = len8_some c

pub other_most : (e : Encoding) (c : ℕ) → other_width e c ≤ 4
other_most Utf8 c = omega (arith, len16_most c)
other_most Utf16 c = let b = len_utf8_bounds c in omega arith
