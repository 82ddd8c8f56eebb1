-- A scalar that begins at a byte of content words of which nothing is known.
use Rattle.std.proofs.Common.{◌≡◌, sym, ap, subst, ◌∙◌, ℕ, zero, suc, ◌+◌, ◌-◌, ◌<◌, ◌≤◌, ⊎_elim, true, List, [], ◌∷◌, ◌++◌, length, length-append, length-drop, take, drop, get_or, arith}
use Rattle.std.proofs.lemmas.Bool.{cases_lt, and_parts}
use Rattle.std.proofs.lemmas.List.{ext_get_or, length-take-le, get_or-take, get_or-drop, get_or_append_left, take-take}
use Rattle.std.proofs.lemmas.List.FromFn.{get_or-map-range_with_len, length-map-range_with_len}
use Rattle.std.proofs.lemmas.Str.{length-encode, len_utf8_bounds, IsUtf8-encode}
use Rattle.std.proofs.Math.Seq.{take-append_seam}
use Rattle.std.specs.Char.{IsScalar, encode_utf8, len_utf8}
use Rattle.std.specs.Str.{IsUtf8, all_scalars, encode_utf8_all, StartsWithNoChar}
use Rattle.text_spec.specs.Packed.{byte_of, bytes_of}
use Rattle.text_spec.specs.Offsets.{len_utf16}
use Rattle.text_spec.proofs.Bytes.{decoded}
use Rattle.text_spec.proofs.Widths.{len16_cases, len8_pair}
use Rattle.word_units.proofs.Beginning.{len_small}
use Rattle.crumbs.specs.Fitting.{BeginsScalar}

-- the lead byte tells the width
pub width_told : (c lead width : ℕ) → IsScalar c → lead ≡ get_or (encode_utf8 c) 0 0 → (lead < 128 → width ≡ 1) → (128 ≤ lead → lead < 224 → width ≡ 2)
    → (224 ≤ lead → lead < 240 → width ≡ 3) → (240 ≤ lead → width ≡ 4) → width ≡ len_utf8 c
width_told c lead width ok is one two three four =
    let d = decoded c ok in
    let own = length-encode c in
    ⊎_elim (λ a. omega (arith, one a, d.one (omega arith)))
    (λ a. ⊎_elim (λ b. omega (arith, two a b, d.two (omega arith) (omega arith)))
    (λ b. ⊎_elim (λ e. omega (arith, three b e, d.three (omega arith) (omega arith))) (λ e. omega (arith, four e, d.four (omega arith)))
    (cases_lt lead 240)) (cases_lt lead 224)) (cases_lt lead 128)

module _ (content : List ℕ) (count p : ℕ) (inside : p < count) where
  length_left : length (drop p (bytes_of content count)) ≡ count - p
  length_left = length-drop p (bytes_of content count) ∙ ap (λ n. n - p) (length-map-range_with_len (byte_of content) 0 count)

  byte_left : (i : ℕ) → p + i < count → get_or (drop p (bytes_of content count)) i 0 ≡ byte_of content (p + i)
  byte_left i h = get_or-drop p (bytes_of content count) i 0 ∙ get_or-map-range_with_len (byte_of content) 0 count (p + i) (p + i) 0 h (omega arith)

  -- the lead byte of a scalar that is there, and its room
  lead_of : (c : ℕ) (rest : List ℕ) → drop p (bytes_of content count) ≡ encode_utf8 c ++ rest → (lead : ℕ) → lead ≡ byte_of content p → lead ≡ get_or (encode_utf8 c) 0 0
  lead_of c rest e lead is =
      let own = length-encode c in
      let bounds = len_utf8_bounds c in
      is ∙ ap (byte_of content) {x = p} {y = p + 0} (omega arith) ∙ sym (byte_left 0 (omega arith)) ∙ ap (λ l. get_or l 0 0) e ∙ get_or_append_left (encode_utf8 c) rest 0 0 (omega arith)

  -- where the bytes end before the lead byte says, no scalar is there
  pub none_fits : (lead width : ℕ) → lead ≡ byte_of content p → count < p + width → (lead < 128 → width ≡ 1) → (128 ≤ lead → lead < 224 → width ≡ 2)
      → (224 ≤ lead → lead < 240 → width ≡ 3) → (240 ≤ lead → width ≡ 4) → StartsWithNoChar (drop p (bytes_of content count))
  none_fits lead width is past one two three four c rest ok e =
      let own = length-encode c in
      let told = width_told c lead width ok (lead_of c rest e lead is) one two three four in
      absurd (omega (arith, past, told, own, ap length e, length_left, length-append (encode_utf8 c) rest))

  module _ (b0 b1 b2 b3 : ℕ) (e0 : b0 ≡ byte_of content p) (e1 : b1 ≡ byte_of content (p + 1)) (e2 : b2 ≡ byte_of content (p + 2)) (e3 : b3 ≡ byte_of content (p + 3)) where
    each : (i : ℕ) → i < 4 → p + i < count → get_or (b0 ∷ b1 ∷ b2 ∷ b3 ∷ []) i 0 ≡ get_or (drop p (bytes_of content count)) i 0
    each zero l h = e0 ∙ ap (byte_of content) {x = p} {y = p + 0} (omega arith) ∙ sym (byte_left 0 h)
    each (suc zero) l h = e1 ∙ sym (byte_left 1 h)
    each (suc (suc zero)) l h = e2 ∙ sym (byte_left 2 h)
    each (suc (suc (suc zero))) l h = e3 ∙ sym (byte_left 3 h)
    each (suc (suc (suc (suc i)))) l h = absurd (omega arith)

    window : (width : ℕ) → width ≤ 4 → p + width ≤ count → take width (b0 ∷ b1 ∷ b2 ∷ b3 ∷ []) ≡ take width (drop p (bytes_of content count))
    window width few within =
        let xs : List ℕ = b0 ∷ b1 ∷ b2 ∷ b3 ∷ [] in
        let ys : List ℕ = drop p (bytes_of content count) in
        let long : length (take width xs) ≡ width = length-take-le width xs few in
        let same : length (take width ys) ≡ width = length-take-le width ys (omega (arith, length_left)) in
        ext_get_or 0 (take width xs) (take width ys) (long ∙ sym same)
        (λ i h. let l : i < width = omega (arith, long, h) in get_or-take width xs i 0 l ∙ (each i (omega arith) (omega arith) ∙ sym (get_or-take width ys i 0 l)))

    -- bytes that are UTF-8, as many as their lead byte tells, are one scalar
    one_scalar : (width : ℕ) → 1 ≤ width → width ≤ 4 → p + width ≤ count → (b0 < 128 → width ≡ 1) → (128 ≤ b0 → b0 < 224 → width ≡ 2)
        → (224 ≤ b0 → b0 < 240 → width ≡ 3) → (240 ≤ b0 → width ≡ 4)
        → (cs : List ℕ) → all_scalars cs ≡ true → encode_utf8_all cs ≡ take width (b0 ∷ b1 ∷ b2 ∷ b3 ∷ []) → BeginsScalar content count p width
    one_scalar width some few within one two three four [] ok e =
        absurd (omega (arith, ap length e, length-take-le width (b0 ∷ b1 ∷ b2 ∷ b3 ∷ []) few))
    one_scalar width some few within one two three four (c ∷ es) ok e =
        let xs : List ℕ = b0 ∷ b1 ∷ b2 ∷ b3 ∷ [] in
        let parts = and_parts _ _ ok in
        let own = length-encode c in
        let bounds = len_utf8_bounds c in
        let lead : b0 ≡ get_or (encode_utf8 c) 0 0 =
        sym (get_or-take width xs 0 0 some) ∙ ap (λ l. get_or l 0 0) (sym e) ∙ get_or_append_left (encode_utf8 c) (encode_utf8_all es) 0 0 (omega arith) in
        let is = width_told c b0 width parts.0 lead one two three four in
        let all : take width xs ≡ encode_utf8 c =
        sym (ap (take width) e ∙ take-take width width xs (omega arith)) ∙ ap (λ n. take n (encode_utf8 c ++ encode_utf8_all es)) (is ∙ sym own) ∙ take-append_seam (encode_utf8 c) (encode_utf8_all es) in
        record { scalar = c; is_scalar = parts.0; width_is = is; within = within; bytes = sym (window width few within) ∙ all }

    pub begins : (width : ℕ) → 1 ≤ width → width ≤ 4 → p + width ≤ count → (b0 < 128 → width ≡ 1) → (128 ≤ b0 → b0 < 224 → width ≡ 2)
        → (224 ≤ b0 → b0 < 240 → width ≡ 3) → (240 ≤ b0 → width ≡ 4) → IsUtf8 (take width (b0 ∷ b1 ∷ b2 ∷ b3 ∷ [])) → BeginsScalar content count p width
    begins width some few within one two three four u = one_scalar width some few within one two three four u.0 u.1.0 u.1.1

    -- and else no scalar is there
    pub none_begins : (width : ℕ) → 1 ≤ width → width ≤ 4 → p + width ≤ count → (b0 < 128 → width ≡ 1) → (128 ≤ b0 → b0 < 224 → width ≡ 2)
        → (224 ≤ b0 → b0 < 240 → width ≡ 3) → (240 ≤ b0 → width ≡ 4) → (IsUtf8 (take width (b0 ∷ b1 ∷ b2 ∷ b3 ∷ [])) → ⊥) → StartsWithNoChar (drop p (bytes_of content count))
    none_begins width some few within one two three four bad c rest ok e =
        let own = length-encode c in
        let lead = lead_of c rest e b0 e0 in
        let is = width_told c b0 width ok lead one two three four in
        let all : take width (drop p (bytes_of content count)) ≡ encode_utf8 c = ap (take width) e ∙ ap (λ n. take n (encode_utf8 c ++ rest)) (is ∙ sym own) ∙ take-append_seam (encode_utf8 c) rest in
        bad (subst IsUtf8 (sym (window width few within ∙ all)) (IsUtf8-encode c ok))

-- a scalar of four bytes is one of two units
pub units_told : (c width units : ℕ) → width ≡ len_utf8 c → (width ≡ 4 → units ≡ 2) → ((width ≡ 4 → ⊥) → units ≡ 1) → units ≡ len_utf16 c
units_told c width units is four other =
    ⊎_elim
    (λ h. let e : len_utf16 c ≡ 1 = h.1 in omega (arith, e, other (λ w. absurd (omega (arith, w, is, len_small c h.0)))))
    (λ h. omega (arith, h.1, four (omega (arith, is, len8_pair c h.1))))
    (len16_cases c)
