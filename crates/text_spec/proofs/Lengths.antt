-- The offsets of scalars as lengths of encoded text.
use Rattle.std.proofs.Common.{◌≡◌, refl, ℕ, zero, suc, ◌+◌, ◌-◌, ◌/◌, ◌%◌, List, [], ◌∷◌, true, false, nat_lt, length, take, arith, cond}
use Rattle.std.proofs.lemmas.List.{length-append}
use Rattle.std.proofs.lemmas.Str.{length-encode}
use Rattle.std.specs.Char.{encode_utf8, len_utf8}
use Rattle.std.specs.Char.Escape.{encode_utf16}
use Rattle.text_spec.specs.Text.{utf8, utf16}
use Rattle.text_spec.specs.Offsets.{len_utf16, start}

pub length-encode_utf16 : (c : ℕ) → length (encode_utf16 c) ≡ len_utf16 c
length-encode_utf16 c =
    elim (nat_lt c 65536) as (λ b. length (cond b (c ∷ []) ((0xD800 + (c - 0x1_0000) / 0x400) ∷ (0xDC00 + (c - 0x1_0000) % 0x400) ∷ [])) ≡ cond b 1 2) [ true ↦ refl | false ↦ refl ]

pub start-utf8 : (t : List ℕ) (k : ℕ) → start len_utf8 t k ≡ length (utf8 (take k t))
start-utf8 [] zero = refl
start-utf8 [] (suc k) = refl
start-utf8 (c ∷ t) zero = refl
start-utf8 (c ∷ t) (suc k) = omega (arith, start-utf8 t k, length-encode c, length-append (encode_utf8 c) (utf8 (take k t)))

pub start-utf16 : (t : List ℕ) (k : ℕ) → start len_utf16 t k ≡ length (utf16 (take k t))
start-utf16 [] zero = refl
start-utf16 [] (suc k) = refl
start-utf16 (c ∷ t) zero = refl
start-utf16 (c ∷ t) (suc k) = omega (arith, start-utf16 t k, length-encode_utf16 c, length-append (encode_utf16 c) (utf16 (take k t)))
