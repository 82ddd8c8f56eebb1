-- Scalars of repaired units, by the units where each stands.
use Rattle.std.proofs.Common.{◌≡◌, refl, sym, ap, subst, ◌∙◌, ℕ, zero, suc, ◌+◌, ◌-◌, ◌<◌, ◌≤◌, ◌⊎◌, inl, inr, ⊎_elim, List, [], ◌∷◌, length, map, drop, get_or, arith, drop-cons}
use Rattle.std.proofs.lemmas.Bool.{cases_lt, cond-true, cond-false, lt-ltb, le-ltb}
use Rattle.std.proofs.lemmas.List.{drop_all, get_or_past}
use Rattle.std.proofs.str.Utf16.{utf16_chars-drop_lone, utf16_chars-drop_pair, utf16_chars-drop_all, lone_unit_char_low, lone_unit_char_high, lone_unit_char_surrogate}
use Rattle.std.specs.Option.{unwrap_or}
use Rattle.std.specs.Char.Utf16.{utf16_lossy_chars, lone_unit_char, surrogate_pair_char}
use Rattle.text_spec.specs.Offsets.{len_utf16, start, down}
use Rattle.text_spec.specs.Packed.{IsPair}
use Rattle.text_spec.proofs.Downward.{start-down}
use Rattle.text_spec.proofs.Walk.{start-zero, start-suc, down-next, down-unique}
use Rattle.text_spec.proofs.Widths.{len16_some, len16_most}

-- ---- a unit, or two
pub pair_cases : (u v : ℕ) → IsPair u v ⊎ (IsPair u v → ⊥)
pair_cases u v =
    ⊎_elim (λ a. inr (λ p. omega arith)) (λ a. ⊎_elim (λ b. ⊎_elim (λ d. inr (λ p. omega arith))
    (λ d. ⊎_elim (λ e. inl (a, b, d, e)) (λ e. inr (λ p. omega arith)) (cases_lt v 0xE000)) (cases_lt v 0xDC00)) (λ b. inr (λ p. omega arith)) (cases_lt u 0xDC00)) (cases_lt u 0xD800)

-- the scalar of a unit that is in no pair takes one unit
pub lone_width : (u : ℕ) → u < 65536 → len_utf16 (unwrap_or (lone_unit_char u) 0xFFFD) ≡ 1
lone_width u h =
    ⊎_elim (λ a. ap (λ o. len_utf16 (unwrap_or o 0xFFFD)) (lone_unit_char_low u a) ∙ cond-true _ _ _ (lt-ltb u 65536 h))
    (λ a. ⊎_elim (λ b. ap (λ o. len_utf16 (unwrap_or o 0xFFFD)) (lone_unit_char_surrogate u a b))
    (λ b. ap (λ o. len_utf16 (unwrap_or o 0xFFFD)) (lone_unit_char_high u b) ∙ cond-true _ _ _ (lt-ltb u 65536 h)) (cases_lt u 0xE000)) (cases_lt u 0xD800)

pub pair_width : (u v : ℕ) → len_utf16 (surrogate_pair_char u v) ≡ 2
pair_width u v = cond-false _ _ _ (le-ltb (surrogate_pair_char u v) 65536 (omega arith))

-- ---- what follows unit q
module _ (us : List ℕ) (fits : (i : ℕ) → get_or us i 0 < 65536) where
  -- the scalar at unit q, and what follows it
  pub record Stands16 (q c : ℕ) : Type 0 where
    pub rest : utf16_lossy_chars (drop q us) ≡ c ∷ utf16_lossy_chars (drop (q + len_utf16 c) us)
    pub alone : (IsPair (get_or us q 0) (get_or us (q + 1) 0) → ⊥) → (c ≡ unwrap_or (lone_unit_char (get_or us q 0)) 0xFFFD) × (len_utf16 c ≡ 1)
    pub pair : IsPair (get_or us q 0) (get_or us (q + 1) 0) → (c ≡ surrogate_pair_char (get_or us q 0) (get_or us (q + 1) 0)) × (len_utf16 c ≡ 2)
    pub within : q + len_utf16 c ≤ length us

  pub stands16 : (q : ℕ) → q < length us → (c : ℕ) × Stands16 q c
  stands16 q h =
      let u = get_or us q 0 in
      let v = get_or us (q + 1) 0 in
      ⊎_elim
      (λ p.
      let wide = pair_width u v in
      let two : q + 2 ≡ q + len_utf16 (surrogate_pair_char u v) = omega arith in
      let inside : q + 1 < length us = ⊎_elim (λ l. l) (λ l. absurd (let past = get_or_past us (q + 1) 0 l in omega arith)) (cases_lt (q + 1) (length us)) in (
        surrogate_pair_char u v,
        record {
          rest = ap (map (λ o. unwrap_or o 0xFFFD)) (utf16_chars-drop_pair us q inside p) ∙ ap (λ n. surrogate_pair_char u v ∷ utf16_lossy_chars (drop n us)) two;
          alone = λ no. absurd (no p);
          pair = λ _. (refl, wide);
          within = omega arith;
        },
      ))
      (λ no.
      let thin = lone_width u (fits q) in
      let one : q + 1 ≡ q + len_utf16 (unwrap_or (lone_unit_char u) 0xFFFD) = omega arith in (
        unwrap_or (lone_unit_char u) 0xFFFD,
        record {
          rest = ap (map (λ o. unwrap_or o 0xFFFD)) (utf16_chars-drop_lone us q h no) ∙ ap (λ n. unwrap_or (lone_unit_char u) 0xFFFD ∷ utf16_lossy_chars (drop n us)) one;
          alone = λ _. (refl, thin);
          pair = λ p. absurd (no p);
          within = omega arith;
        },
      )) (pair_cases u v)

  -- scalar k stands where it begins
  pub spelled : (k : ℕ) → k ≤ length (utf16_lossy_chars us) → (drop k (utf16_lossy_chars us) ≡ utf16_lossy_chars (drop (start len_utf16 (utf16_lossy_chars us) k) us)) × (start len_utf16 (utf16_lossy_chars us) k ≤ length us)
  spelled zero h = (ap (λ n. utf16_lossy_chars (drop n us)) (sym (start-zero len_utf16 (utf16_lossy_chars us))), omega (arith, start-zero len_utf16 (utf16_lossy_chars us)))
  spelled (suc k) h =
      let t = utf16_lossy_chars us in
      let before = spelled k (omega arith) in
      let q = start len_utf16 t k in
      let more : drop k t ≡ get_or t k 0 ∷ drop (suc k) t = drop-cons t k 0 (omega arith) in
      let inside : q < length us = ⊎_elim (λ l. l) (λ l. absurd (let none : utf16_lossy_chars (drop q us) ≡ [] = ap (map (λ o. unwrap_or o 0xFFFD)) (utf16_chars-drop_all us q l) in cc)) (cases_lt q (length us)) in
      let s = stands16 q inside in
      let same : get_or t k 0 ∷ drop (suc k) t ≡ s.0 ∷ utf16_lossy_chars (drop (q + len_utf16 s.0) us) = sym more ∙ before.0 ∙ s.1.rest in
      let first : get_or t k 0 ≡ s.0 = cc in
      let next : start len_utf16 t (suc k) ≡ q + len_utf16 s.0 = start-suc len_utf16 t k (omega arith) ∙ ap (λ c. q + len_utf16 c) first in
      let rest : drop (suc k) t ≡ utf16_lossy_chars (drop (q + len_utf16 s.0) us) = cc in
      (rest ∙ ap (λ n. utf16_lossy_chars (drop n us)) (sym next), omega (arith, s.1.within))

  pub total16 : start len_utf16 (utf16_lossy_chars us) (length (utf16_lossy_chars us)) ≡ length us
  total16 =
      let t = utf16_lossy_chars us in
      let q = start len_utf16 t (length t) in
      let end = spelled (length t) (omega arith) in
      ⊎_elim (λ l. let s = stands16 q l in let none : [] ≡ s.0 ∷ utf16_lossy_chars (drop (q + len_utf16 s.0) us) = sym (drop_all (length t) t (omega arith)) ∙ end.0 ∙ s.1.rest in cc)
      (λ l. omega (arith, end.1)) (cases_lt q (length us))

  -- what the units say where scalar k begins
  pub read16 : (k : ℕ) → k < length (utf16_lossy_chars us) → Stands16 (start len_utf16 (utf16_lossy_chars us) k) (get_or (utf16_lossy_chars us) k 0)
  read16 k h =
      let t = utf16_lossy_chars us in
      let q = start len_utf16 t k in
      let here = spelled k (omega arith) in
      let more : drop k t ≡ get_or t k 0 ∷ drop (suc k) t = drop-cons t k 0 h in
      let next = start-suc len_utf16 t k h in
      let inside : q < length us = omega (arith, (spelled (suc k) h).1, len16_some (get_or t k 0)) in
      let s = stands16 q inside in
      let same : get_or t k 0 ∷ drop (suc k) t ≡ s.0 ∷ utf16_lossy_chars (drop (q + len_utf16 s.0) us) = sym more ∙ here.0 ∙ s.1.rest in
      let first : s.0 ≡ get_or t k 0 = cc in
      subst (Stands16 q) first s.1

  -- a unit lies inside a scalar exactly where it ends a pair
  pub inside16 : (q : ℕ) → q < length us → let t = utf16_lossy_chars us in
      (start len_utf16 t (down len_utf16 t q) ≡ q) ⊎ ((start len_utf16 t (down len_utf16 t q) + 1 ≡ q) × IsPair (get_or us (q - 1) 0) (get_or us q 0))
  inside16 q h =
      let t = utf16_lossy_chars us in
      let k = down len_utf16 t q in
      let near = down-next len_utf16 t q (omega (arith, total16)) in
      let low = start-down len_utf16 t q in
      let next = start-suc len_utf16 t k near.0 in
      let s = read16 k near.0 in
      ⊎_elim
      (λ inner.
      let one : start len_utf16 t k + 1 ≡ q = omega (arith, len16_most (get_or t k 0), near.1) in
      let same : start len_utf16 t k ≡ q - 1 = omega arith in
      ⊎_elim (λ p. inr (one, subst (λ n. IsPair (get_or us n 0) (get_or us q 0)) same (subst (λ n. IsPair (get_or us (start len_utf16 t k) 0) (get_or us n 0)) one p)))
      (λ no. absurd (omega (arith, (s.alone no).1, near.1)))
      (pair_cases (get_or us (start len_utf16 t k) 0) (get_or us (start len_utf16 t k + 1) 0)))
      (λ at. inl (omega arith)) (cases_lt (start len_utf16 t k) q)

  -- so the unit after the first of a pair is no boundary
  pub pair_inside : (q : ℕ) → q + 1 < length us → IsPair (get_or us q 0) (get_or us (q + 1) 0) → let t = utf16_lossy_chars us in
      start len_utf16 t (down len_utf16 t (q + 1)) ≡ q
  pair_inside q h p =
      let t = utf16_lossy_chars us in
      let k = down len_utf16 t q in
      let near = down-next len_utf16 t q (omega (arith, total16)) in
      let next = start-suc len_utf16 t k near.0 in
      let s = read16 k near.0 in
      ⊎_elim
      (λ e.
      let here : IsPair (get_or us (start len_utf16 t k) 0) (get_or us (start len_utf16 t k + 1) 0) = subst (λ n. IsPair (get_or us n 0) (get_or us (n + 1) 0)) (sym e) p in
      let wide = (s.pair here).1 in
      ap (start len_utf16 t) (down-unique len_utf16 t (q + 1) k near.0 (omega arith) (omega (arith, next))) ∙ e)
      (λ e. absurd (omega (arith, e.1.3, p.0)))
      (inside16 q (omega arith))
