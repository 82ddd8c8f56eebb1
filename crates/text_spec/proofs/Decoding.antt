-- Encoding a text and decoding it again.
use Rattle.std.proofs.Common.{◌≡◌, refl, sym, ap, ◌∙◌, ℕ, ◌+◌, ◌-◌, ◌/◌, ◌%◌, ◌<◌, ◌≤◌, true, List, [], ◌∷◌, ◌++◌, map, get_or, arith, Some, ⊎_elim}
use Rattle.std.proofs.lemmas.Bool.{cases_lt, cond-true, and_parts}
use Rattle.std.proofs.lemmas.Str.{chars-encodes, encodes-chars, is_utf8-from_IsUtf8, IsUtf8-from_is_utf8}
use Rattle.std.proofs.str.Utf16.{one_unit, two_units, utf16_chars-nil, utf16_chars_lone, utf16_chars_pair, lone_unit_char_low, lone_unit_char_high}
use Rattle.std.specs.Char.{IsScalar}
use Rattle.std.specs.Char.Utf16.{utf16_lossy_chars, lone_unit_char, surrogate_pair_char}
use Rattle.std.specs.Option.{unwrap_or}
use Rattle.std.specs.Str.{all_scalars, is_utf8, chars}
use lib.Utf8.{scalar_cases}
use Rattle.text_spec.specs.Packed.{IsPair}
use Rattle.text_spec.specs.Text.{utf8, utf16, decode_utf8, repair}
use Rattle.text_spec.proofs.Denoting.{some_if, some_same}

pub decode_utf8-utf8 : (t : List ℕ) → all_scalars t ≡ true → decode_utf8 (utf8 t) ≡ Some t
decode_utf8-utf8 t ok = cond-true (is_utf8 (utf8 t)) _ _ (is_utf8-from_IsUtf8 (utf8 t) (t, (ok, refl))) ∙ ap Some (chars-encodes t ok)

pub utf8-decode_utf8 : (bs t : List ℕ) → decode_utf8 bs ≡ Some t → utf8 t ≡ bs
utf8-decode_utf8 bs t is =
    let parts = some_if (is_utf8 bs) (Some (chars bs)) t is in
    ap utf8 (sym (some_same _ _ parts.1)) ∙ encodes-chars bs (IsUtf8-from_is_utf8 bs parts.0)

-- a scalar of one unit isn't half of a pair, and that of two is their scalar
one_read : (c : ℕ) → IsScalar c → c < 0x1_0000 → (us : List ℕ) → utf16_lossy_chars (c ∷ us) ≡ c ∷ utf16_lossy_chars us
one_read c ok small us =
    let apart : IsPair c (get_or us 0 0) → ⊥ = λ p. ⊎_elim (λ a. omega (arith, p.0, a)) (λ a. omega (arith, p.1, a.0)) (scalar_cases c ok) in
    let own : lone_unit_char c ≡ Some c = ⊎_elim (λ a. lone_unit_char_low c a) (λ a. lone_unit_char_high c a.0) (scalar_cases c ok) in
    ap (map (λ o. unwrap_or o 0xFFFD)) (utf16_chars_lone c us apart) ∙ ap (λ o. unwrap_or o 0xFFFD ∷ utf16_lossy_chars us) own

two_read : (c : ℕ) → IsScalar c → 0x1_0000 ≤ c → (us : List ℕ)
    → utf16_lossy_chars ((0xD800 + (c - 0x1_0000) / 0x400) ∷ (0xDC00 + (c - 0x1_0000) % 0x400) ∷ us) ≡ c ∷ utf16_lossy_chars us
two_read c ok big us =
    let small : c < 0x110000 = ⊎_elim (λ a. omega arith) (λ a. a.1) (scalar_cases c ok) in
    let pair : IsPair (0xD800 + (c - 0x1_0000) / 0x400) (0xDC00 + (c - 0x1_0000) % 0x400) = (omega arith, omega arith, omega arith, omega arith) in
    let own : surrogate_pair_char (0xD800 + (c - 0x1_0000) / 0x400) (0xDC00 + (c - 0x1_0000) % 0x400) ≡ c = omega arith in
    ap (map (λ o. unwrap_or o 0xFFFD)) (utf16_chars_pair _ _ us pair) ∙ ap (λ d. d ∷ utf16_lossy_chars us) own

pub repair-utf16 : (t : List ℕ) → all_scalars t ≡ true → repair (utf16 t) ≡ t
repair-utf16 [] ok = ap (map (λ o. unwrap_or o 0xFFFD)) utf16_chars-nil
repair-utf16 (c ∷ t) ok =
    let parts = and_parts _ _ ok in
    let rest = repair-utf16 t parts.1 in
    ⊎_elim
    (λ small. ap (λ us. utf16_lossy_chars (us ++ utf16 t)) (one_unit c small) ∙ one_read c parts.0 small (utf16 t) ∙ ap (λ us. c ∷ us) rest)
    (λ big. ap (λ us. utf16_lossy_chars (us ++ utf16 t)) (two_units c big) ∙ two_read c parts.0 big (utf16 t) ∙ ap (λ us. c ∷ us) rest)
    (cases_lt c 0x1_0000)
