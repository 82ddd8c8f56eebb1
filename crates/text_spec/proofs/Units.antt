-- The UTF-16 units of a text, by the scalar that each belongs to, and those of repaired units.
use Rattle.std.proofs.Common.{◌≡◌, refl, sym, ap, subst, ◌∙◌, ℕ, ◌+◌, ◌-◌, ◌*◌, ◌<◌, ◌≤◌, ⊎_elim, List, [], ◌∷◌, length, length-append, get_or, arith}
use lib.Utf8.{low_scalar}
use Rattle.std.proofs.lemmas.Bool.{cases_lt, lt-ltb, le-ltb, le-leb}
use Rattle.std.proofs.lemmas.List.{get_or_append_left, get_or-append_right}
use Rattle.std.proofs.str.Utf16.{one_unit, pair_units, lone_unit_char_low, lone_unit_char_high, lone_unit_char_surrogate}
use Rattle.std.specs.Char.{IsScalar}
use Rattle.std.specs.Char.Escape.{encode_utf16}
use Rattle.std.specs.Char.Utf16.{lone_unit_char, surrogate_pair_char}
use Rattle.std.specs.Option.{unwrap_or}
use Rattle.text_spec.specs.Text.{utf16, repair}
use Rattle.text_spec.specs.Offsets.{len_utf16, start, down}
use Rattle.text_spec.specs.Packed.{IsPair}
use Rattle.text_spec.proofs.Lengths.{length-encode_utf16}
use Rattle.text_spec.proofs.Repaired.{Stands16, read16, inside16, pair_inside, total16, pair_cases}
use Rattle.text_spec.proofs.Walk.{down-yes, down-no, down-next}
use Rattle.text_spec.proofs.Widths.{len16_cases}

pub length-utf16 : (t : List ℕ) → length (utf16 t) ≡ start len_utf16 t (length t)
length-utf16 [] = refl
length-utf16 (c ∷ t) = omega (arith, length-append (encode_utf16 c) (utf16 t), length-encode_utf16 c, length-utf16 t)

-- unit q of a text is a unit of the scalar that covers q
pub unit-covers : (t : List ℕ) (q : ℕ) → q < length (utf16 t)
    → get_or (utf16 t) q 0 ≡ get_or (encode_utf16 (get_or t (down len_utf16 t q) 0)) (q - start len_utf16 t (down len_utf16 t q)) 0
unit-covers [] q h = absurd (omega arith)
unit-covers (c ∷ t) q h =
    let own = length-encode_utf16 c in
    ⊎_elim
    (λ low.
    let none : q - 0 ≡ q = omega arith in
    get_or_append_left (encode_utf16 c) (utf16 t) 0 q (omega arith)
    ∙ rw (down-no len_utf16 c t q low, none) refl)
    (λ high.
    let less : q - (len_utf16 c + start len_utf16 t (down len_utf16 t (q - len_utf16 c))) ≡ q - len_utf16 c - start len_utf16 t (down len_utf16 t (q - len_utf16 c)) = omega arith in
    get_or-append_right (encode_utf16 c) (utf16 t) (len_utf16 c) q 0 own high
    ∙ unit-covers t (q - len_utf16 c) (omega (arith, length-append (encode_utf16 c) (utf16 t)))
    ∙ rw (down-yes len_utf16 c t q high, less) refl) (cases_lt q (len_utf16 c))

encode_pair : (u v : ℕ) → IsPair u v → encode_utf16 (surrogate_pair_char u v) ≡ u ∷ v ∷ []
encode_pair u v p =
    let e : surrogate_pair_char u v ≡ 0x1_0000 + ((u - 0xD800) * 0x400 + (v - 0xDC00)) = omega arith in
    ap encode_utf16 e ∙ pair_units u v p.0 p.2 p.3

encode_one : (c : ℕ) → len_utf16 c ≡ 1 → encode_utf16 c ≡ c ∷ []
encode_one c h = one_unit c (⊎_elim (λ a. a.0) (λ a. absurd (omega arith)) (len16_cases c))

-- ---- the units of a repaired list
-- where `beside` is the unit that would make a pair with u, which is unit q, r is what unit q reads as
abbrev pub Reads : List ℕ → ℕ → ℕ → ℕ → ℕ → Type 0
Reads us q u beside r =
    (0xD800 ≤ u → u < 0xDC00 → beside ≡ get_or us (q + 1) 0)
    → (0xDC00 ≤ u → u < 0xE000 → 0 < q → beside ≡ get_or us (q - 1) 0)
    → (0xDC00 ≤ u → u < 0xE000 → q ≡ 0 → beside ≡ 0)
    → (IsPair u beside → r ≡ u)
    → (IsPair beside u → r ≡ u)
    → ((IsPair u beside → ⊥) → (IsPair beside u → ⊥) → r ≡ unwrap_or (lone_unit_char u) 0xFFFD)
    → r ≡ get_or (utf16 (repair us)) q 0

module _ (us : List ℕ) (fits : (i : ℕ) → get_or us i 0 < 65536) (q : ℕ) (h : q < length us) where
  first_at : start len_utf16 (repair us) (down len_utf16 (repair us) q) ≡ q → get_or (utf16 (repair us)) q 0 ≡ get_or (encode_utf16 (get_or (repair us) (down len_utf16 (repair us) q) 0)) 0 0
  first_at at =
      let long = length-utf16 (repair us) in
      let total = total16 us fits in
      let none : q - start len_utf16 (repair us) (down len_utf16 (repair us) q) ≡ 0 = omega arith in
      unit-covers (repair us) q (omega arith) ∙ ap (get_or' (encode_utf16 (get_or (repair us) (down len_utf16 (repair us) q) 0))) none
    where
      get_or' : List ℕ → ℕ → ℕ
      get_or' xs i = get_or xs i 0

  stands_here : start len_utf16 (repair us) (down len_utf16 (repair us) q) ≡ q → Stands16 us fits q (get_or (repair us) (down len_utf16 (repair us) q) 0)
  stands_here at =
      let near = down-next len_utf16 (repair us) q (omega (arith, total16 us fits)) in
      subst (λ n. Stands16 us fits n (get_or (repair us) (down len_utf16 (repair us) q) 0)) at (read16 us fits (down len_utf16 (repair us) q) near.0)

  -- the first half of a pair stays
  pub unit_first : IsPair (get_or us q 0) (get_or us (q + 1) 0) → get_or us q 0 ≡ get_or (utf16 (repair us)) q 0
  unit_first p =
      ⊎_elim
      (λ at.
      let is = ((stands_here at).pair p).0 in
      sym (first_at at ∙ ap (λ c. get_or (encode_utf16 c) 0 0) is ∙ ap (λ xs. get_or xs 0 0) (encode_pair _ _ p)))
      (λ e. absurd (omega (arith, e.1.2, p.1)))
      (inside16 us fits q h)

  -- and the second half
  pub unit_second : 0 < q → IsPair (get_or us (q - 1) 0) (get_or us q 0) → get_or us q 0 ≡ get_or (utf16 (repair us)) q 0
  unit_second some p =
      let k = down len_utf16 (repair us) q in
      let near = down-next len_utf16 (repair us) q (omega (arith, total16 us fits)) in
      let back : q - 1 + 1 ≡ q = omega arith in
      let p' : IsPair (get_or us (q - 1) 0) (get_or us (q - 1 + 1) 0) = subst (λ n. IsPair (get_or us (q - 1) 0) (get_or us n 0)) (sym back) p in
      let at : start len_utf16 (repair us) k ≡ q - 1 =
      ap (λ n. start len_utf16 (repair us) (down len_utf16 (repair us) n)) (sym back) ∙ pair_inside us fits (q - 1) (omega (arith, h)) p' in
      let s = subst (λ n. Stands16 us fits n (get_or (repair us) k 0)) at (read16 us fits k near.0) in
      let one : q - start len_utf16 (repair us) k ≡ 1 = omega arith in
      sym (unit-covers (repair us) q (omega (arith, h, length-utf16 (repair us), total16 us fits))
      ∙ ap (λ i. get_or (encode_utf16 (get_or (repair us) k 0)) i 0) one
      ∙ ap (λ c. get_or (encode_utf16 c) 1 0) (s.pair p').0
      ∙ ap (λ xs. get_or xs 1 0) (encode_pair _ _ p')
      ∙ ap (λ n. get_or us n 0) back)

  -- a unit in no pair reads as a scalar of its own
  pub unit_alone : (IsPair (get_or us q 0) (get_or us (q + 1) 0) → ⊥) → (IsPair (get_or us (q - 1) 0) (get_or us q 0) → ⊥)
      → unwrap_or (lone_unit_char (get_or us q 0)) 0xFFFD ≡ get_or (utf16 (repair us)) q 0
  unit_alone no_first no_second =
      ⊎_elim
      (λ at.
      let is = (stands_here at).alone no_first in
      sym (first_at at ∙ ap (λ xs. get_or xs 0 0) (encode_one _ is.1) ∙ is.0))
      (λ e. absurd (no_second e.1))
      (inside16 us fits q h)

  -- what a unit reads as, from it and the one that would make a pair with it
  pub unit_read : (beside r : ℕ) → Reads us q (get_or us q 0) beside r
  unit_read beside r next before none first second alone =
      let u = get_or us q 0 in
      ⊎_elim
      (λ p. first (subst (λ v. IsPair u v) (sym (next p.0 p.1)) p) ∙ unit_first p)
      (λ no_first.
      ⊎_elim
      (λ some.
      ⊎_elim
      (λ p. second (subst (λ v. IsPair v u) (sym (before p.2 p.3 some)) p) ∙ unit_second some p)
      (λ no_second.
      alone (λ p. no_first (subst (λ v. IsPair u v) (next p.0 p.1) p)) (λ p. no_second (subst (λ v. IsPair v u) (before p.2 p.3 some) p))
      ∙ unit_alone no_first no_second)
      (pair_cases (get_or us (q - 1) 0) u))
      (λ e.
      let zero_q : q ≡ 0 = omega arith in
      alone (λ p. no_first (subst (λ v. IsPair u v) (next p.0 p.1) p)) (λ p. absurd (omega (arith, none p.2 p.3 zero_q, p.0)))
      ∙ unit_alone no_first (λ p. let same : get_or us (q - 1) 0 ≡ u = ap (λ n. get_or us n 0) {x = q - 1} {y = q} (omega arith) in absurd (omega (arith, p.1, p.2, same))))
      (cases_lt 0 q))
      (pair_cases u (get_or us (q + 1) 0))

  pub unit_read_as : (u beside r : ℕ) → u ≡ get_or us q 0 → Reads us q u beside r
  unit_read_as u beside r is = subst (λ v. Reads us q v beside r) (sym is) (unit_read beside r)

-- ---- what a repaired unit reads as is a scalar
high_scalar : (c : ℕ) → 0xE000 ≤ c → c < 0x110000 → IsScalar c
high_scalar c a b = rw (le-ltb c 55296 (omega arith), le-leb 57344 c a, lt-ltb c 1114112 b) refl

lone_scalar : (u : ℕ) → u < 65536 → IsScalar (unwrap_or (lone_unit_char u) 0xFFFD)
lone_scalar u h =
    ⊎_elim (λ a. subst (λ o. IsScalar (unwrap_or o 0xFFFD)) (sym (lone_unit_char_low u a)) (low_scalar u a))
    (λ a. ⊎_elim (λ b. subst (λ o. IsScalar (unwrap_or o 0xFFFD)) (sym (lone_unit_char_surrogate u a b)) refl)
    (λ b. subst (λ o. IsScalar (unwrap_or o 0xFFFD)) (sym (lone_unit_char_high u b)) (high_scalar u b (omega arith))) (cases_lt u 0xE000)) (cases_lt u 0xD800)

-- so the scalar that stands in units is one
pub scalar16 : (us : List ℕ) (fits : (i : ℕ) → get_or us i 0 < 65536) (q c : ℕ) → Stands16 us fits q c → IsScalar c
scalar16 us fits q c s =
    ⊎_elim
    (λ p. subst IsScalar (sym (s.pair p).0) (high_scalar (surrogate_pair_char (get_or us q 0) (get_or us (q + 1) 0)) (omega arith) (omega (arith, p.0, p.1, p.2, p.3))))
    (λ no. subst IsScalar (sym (s.alone no).0) (lone_scalar (get_or us q 0) (fits q)))
    (pair_cases (get_or us q 0) (get_or us (q + 1) 0))
