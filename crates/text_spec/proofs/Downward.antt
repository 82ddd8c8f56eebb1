-- The greatest scalar that begins at an offset or before it.
use Rattle.std.proofs.Common.{◌≡◌, refl, ℕ, zero, suc, ◌+◌, ◌-◌, ◌≤◌, List, [], ◌∷◌, true, false, nat_le, length, arith, if◌then◌else◌}
use Rattle.std.proofs.lemmas.Bool.{leb-true, leb-false}
use Rattle.text_spec.specs.Offsets.{start, down}

pub down-length : (w : ℕ → ℕ) (t : List ℕ) (o : ℕ) → down w t o ≤ length t
down-length w [] o = omega arith
down-length w (c ∷ t) o =
    let rest = down-length w t (o - w c) in
    elim (nat_le (w c) o) as (λ b. (if b then suc (down w t (o - w c)) else 0) ≤ suc (length t)) [
      | true ↦ (let more : suc (down w t (o - w c)) ≤ suc (length t) = omega (arith, rest) in more)
      | false ↦ (let none : 0 ≤ suc (length t) = omega arith in none)
    ]

-- it begins there or before
pub start-down : (w : ℕ → ℕ) (t : List ℕ) (o : ℕ) → start w t (down w t o) ≤ o
start-down w [] o = omega arith
start-down w (c ∷ t) o =
    let rest = start-down w t (o - w c) in
    elim (nat_le (w c) o) as (λ b. nat_le (w c) o ≡ b → start w (c ∷ t) (if b then suc (down w t (o - w c)) else 0) ≤ o) [
      | true ↦ λ e. let most : w c + start w t (down w t (o - w c)) ≤ o = omega (arith, leb-true (w c) o e, rest) in most
      | false ↦ λ e. let none : 0 ≤ o = omega arith in none
    ] refl

-- and no later one does
pub down-greatest : (w : ℕ → ℕ) (t : List ℕ) (o k : ℕ) → k ≤ length t → start w t k ≤ o → k ≤ down w t o
down-greatest w [] o k h s = h
down-greatest w (c ∷ t) o zero h s = omega arith
down-greatest w (c ∷ t) o (suc k) h s =
    let rest = down-greatest w t (o - w c) k (omega (arith, h)) (omega (arith, s)) in
    elim (nat_le (w c) o) as (λ b. nat_le (w c) o ≡ b → suc k ≤ (if b then suc (down w t (o - w c)) else 0)) [
      | true ↦ λ e. let more : suc k ≤ suc (down w t (o - w c)) = omega (arith, rest) in more
      | false ↦ λ e. absurd (omega (arith, s, leb-false (w c) o e))
    ] refl
