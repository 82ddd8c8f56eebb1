-- Lists of texts, and the bytes that the UTF-8 of a text is made of.
use Rattle.std.proofs.Common.{◌≡◌, true, refl, sym, subst, ℕ, zero, suc, ◌-◌, ◌^◌, ◌<◌, ◌≤◌, List, [], ◌∷◌, length, map, get_or, slice_index, arith, ⊎_elim, IsUtf8, String, string_bytes}
use Rattle.std.specs.Char.{encode_utf8, IsScalar}
use Rattle.std.specs.Str.{all_scalars, encode_utf8_all}
use Rattle.std.proofs.lemmas.Bool.{and_parts, cases_lt}
use Rattle.std.proofs.lemmas.List.{get_or_append_left, get_or-append_right, get_or_past}
use Rattle.std.proofs.lemmas.Str.{IsUtf8-nil, IsUtf8-string_bytes}
use Rattle.text_spec.specs.Texts.{AreTexts}
use Rattle.text_spec.proofs.Bytes.{decoded}

-- what a list of strings holds are texts
pub texts-string_bytes : {Z : Type 0} (list : List (String Z)) → AreTexts (map string_bytes list)
texts-string_bytes [] k = IsUtf8-nil
texts-string_bytes (s ∷ list) zero = IsUtf8-string_bytes s
texts-string_bytes (s ∷ list) (suc k) = texts-string_bytes list k

-- ---- each byte of a text's UTF-8 fits eight bits
encode-byte : (c : ℕ) → IsScalar c → (i : ℕ) → get_or (encode_utf8 c) i 0 < 2 ^ 8
encode-byte c ok zero = let first = (decoded c ok).byte in omega (arith, first)
encode-byte c ok (suc i) =
    let bs = encode_utf8 c in
    ⊎_elim (λ inside. let later = (decoded c ok).rest (suc i) (omega arith) inside in omega (arith, later.1))
    (λ past. let none : get_or bs (suc i) 0 ≡ 0 = get_or_past bs (suc i) 0 past in omega (arith, none))
    (cases_lt (suc i) (length bs))

encodes-byte : (text : List ℕ) → all_scalars text ≡ true → (i : ℕ) → get_or (encode_utf8_all text) i 0 < 2 ^ 8
encodes-byte [] ok i = omega arith
encodes-byte (c ∷ text) ok i =
    let parts = and_parts _ _ ok in
    ⊎_elim
    (λ own. subst (λ b. b < 2 ^ 8) (sym (get_or_append_left (encode_utf8 c) (encode_utf8_all text) 0 i own)) (encode-byte c parts.0 i))
    (λ later. subst (λ b. b < 2 ^ 8) (sym (get_or-append_right (encode_utf8 c) (encode_utf8_all text) (length (encode_utf8 c)) i 0 refl later)) (encodes-byte text parts.1 (i - length (encode_utf8 c))))
    (cases_lt i (length (encode_utf8 c)))

pub utf8-bytes : (bytes : List ℕ) → IsUtf8 bytes → (i : ℕ) → slice_index bytes i < 2 ^ 8
utf8-bytes bytes ok i = subst (λ bs. get_or bs i 0 < 2 ^ 8) ok.1.1 (encodes-byte ok.0 ok.1.0 i)
