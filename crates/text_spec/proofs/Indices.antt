-- Offsets and indices undo each other on floors.
use Rattle.std.proofs.Common.{◌≡◌, refl, ap, ◌∙◌, ℕ, ◌+◌, ◌-◌, ◌<◌, ◌≤◌, ◌==◌, ◌&&◌, nat_lt, Bool, cond, true, false, List, length, get_or, arith, ⊎_elim, ◌⊎◌, inl, inr}
use Rattle.std.proofs.lemmas.Bool.{and_parts, ltb-true}
use Rattle.text_spec.specs.Offsets.{start, down}
use Rattle.text_spec.specs.Rounding.{Place, across, scalar_floor, kept_offset, other_floor, scalar_offset, other_offset, scalar_index, other_index}
use Rattle.text_spec.proofs.Downward.{start-down, down-greatest, down-length}
use Rattle.text_spec.proofs.Walk.{start-suc, start-mono, down-start, down-next, down-unique}

cond_zero : (b : Bool) (x : ℕ) → (cond b x 0 ≡ 0) ⊎ ((b ≡ true) × (cond b x 0 ≡ x))
cond_zero true x = inr (refl, refl)
cond_zero false x = inl refl

module _ (own : ℕ → ℕ) (some : (c : ℕ) → 0 < own c) (t : List ℕ) (first : ℕ) where
  pub scalar_offset-index : (o : ℕ) → first + o ≤ length t → scalar_offset own t first (scalar_index own t first o) ≡ o
  scalar_offset-index o h = omega (arith, down-start own some t (first + o) h)

  pub scalar_index-offset : (i : Place) → start own t first ≤ i.0 → first ≤ length t → scalar_index own t first (scalar_offset own t first (scalar_floor own t i)) ≡ scalar_floor own t i
  scalar_index-offset i low inside =
      let k = down own t (i.0) in
      let same : down own t (start own t k) ≡ k = down-start own some t k (down-length own t (i.0)) in
      let after : first ≤ k = down-greatest own t (i.0) first inside low in
      ap (λ n. (start own t n, 0)) {x = first + (down own t (start own t k) - first)} {y = k} (omega (arith, same, after))

  module _ (other : ℕ → ℕ) (other_some : (c : ℕ) → 0 < other c) where
    -- offset o of the other view, seen from the first scalar
    pub other_offset-index : (o : ℕ) → first ≤ length t → start other t first + o ≤ start other t (length t) → other_offset own other t first (other_index own other t first o) ≡ o
    other_offset-index o inside h =
        let q = start other t first + o in
        let k = down other t q in
        let same : down own t (start own t k) ≡ k = down-start own some t k (down-length other t q) in
        let low = start-down other t q in
        let after : first ≤ k = down-greatest other t q first inside (omega arith) in
        let mono = start-mono other t first k after in
        omega (arith, ap (start other t) same, low, mono)

    pub other_index-offset : (i : Place) (high : ℕ) → start own t first ≤ i.0 → first ≤ length t → high ≤ start own t (length t)
        → other_index own other t first (other_offset own other t first (other_floor own other t high i)) ≡ other_floor own other t high i
    other_index-offset i high low inside within =
        let k = down own t (i.0) in
        let x = kept_offset own other t high i in
        let same : down own t (start own t k) ≡ k = down-start own some t k (down-length own t (i.0)) in
        let after : first ≤ k = down-greatest own t (i.0) first inside low in
        let mono = start-mono other t first k after in
        let q = start other t k + x in
        let sum : start other t first + (start other t (down own t (start own t k)) - start other t first + x) ≡ q = omega (arith, ap (start other t) same, mono) in
        let number : down other t q ≡ k =
        ⊎_elim
        (λ none. ap (down other t) {x = q} {y = start other t k} (omega (arith, none)) ∙ down-start other other_some t k (down-length own t (i.0)))
        (λ kept. down-unique other t q k kept.0 (omega arith) (omega (arith, start-suc other t k kept.0, kept.1)))
        (kept_cases high i within) in
        ap (across own other t) sum ∙ ap (λ n. (start own t n, q - start other t n)) number ∙ ap (λ y. (start own t k, y)) {x = q - start other t k} {y = x} (omega arith)
      where
        kept_cases : (high : ℕ) (i : Place) → high ≤ start own t (length t)
            → (kept_offset own other t high i ≡ 0) ⊎ ((down own t (i.0) < length t) × (kept_offset own other t high i < other (get_or t (down own t (i.0)) 0)))
        kept_cases high i within =
            let k = down own t (i.0) in
            ⊎_elim (λ e. inl e)
            (λ e.
            let parts = and_parts _ _ e.0 in
            let inner = and_parts _ _ parts.1 in
            let below : i.0 < high = ltb-true _ _ inner.0 in
            inr ((down-next own t (i.0) (omega arith)).0, omega (arith, e.1, ltb-true _ _ inner.1)))
            (cond_zero ((start own t k == i.0) && (nat_lt (i.0) high && nat_lt (i.1) (other (get_or t k 0)))) (i.1))
