-- How a sum over the views changes where one or two of them do.
use Rattle.std.proofs.Common.{◌≡◌, ◌≢◌, ℕ, zero, suc, ◌+◌, ◌≤◌, List, [], ◌∷◌, ◌++◌, set, refl, sym, ap, arith}
use mathlib.Core.Option.{some, some-injective, some-ne-none}
use lib.ListN.{get_elem?}
use Rattle.slot_table.specs.Numbers.{total, times}

module _ {X : Type 0} (f : X → ℕ) where
  -- one view changes
  pub total_set : (vs : List X) (i : ℕ) (v w : X) → get_elem? vs i ≡ some v → total f (set vs i w) + f v ≡ total f vs + f w
  total_set [] i v w e = absurd (some-ne-none v (sym e))
  total_set (x ∷ xs) zero v w e = let same : f x ≡ f v = ap f (some-injective x v e) in omega arith
  total_set (x ∷ xs) (suc i) v w e = let tail = total_set xs i v w e in omega (arith, tail)

  pub total_snoc : (vs : List X) (w : X) → total f (vs ++ w ∷ []) ≡ total f vs + f w
  total_snoc [] w = omega arith
  total_snoc (x ∷ xs) w = omega (arith, total_snoc xs w)

  pub total_at : (vs : List X) (i : ℕ) (v : X) → get_elem? vs i ≡ some v → f v ≤ total f vs
  total_at [] i v e = absurd (some-ne-none v (sym e))
  total_at (x ∷ xs) zero v e = let same : f x ≡ f v = ap f (some-injective x v e) in omega arith
  total_at (x ∷ xs) (suc i) v e = let tail = total_at xs i v e in omega (arith, tail)

  pub total_two : (vs : List X) (i j : ℕ) (v w : X) → i ≢ j → get_elem? vs i ≡ some v → get_elem? vs j ≡ some w → f v + f w ≤ total f vs
  total_two [] i j v w n e d = absurd (some-ne-none v (sym e))
  total_two (x ∷ xs) zero zero v w n e d = absurd (n refl)
  total_two (x ∷ xs) zero (suc j) v w n e d = let same : f x ≡ f v = ap f (some-injective x v e) in let tail = total_at xs j w d in omega (arith, tail)
  total_two (x ∷ xs) (suc i) zero v w n e d = let same : f x ≡ f w = ap f (some-injective x w d) in let tail = total_at xs i v e in omega (arith, tail)
  total_two (x ∷ xs) (suc i) (suc j) v w n e d = let tail = total_two xs i j v w (λ h. n (ap suc h)) e d in omega (arith, tail)

  -- a view is cut in two
  pub total_split : (vs : List X) (i : ℕ) (v l r : X) → get_elem? vs i ≡ some v → f l + f r ≡ f v → total f (set vs i l ++ r ∷ []) ≡ total f vs
  total_split vs i v l r e same = let a = total_set vs i v l e in let b = total_snoc (set vs i l) r in omega (arith, a, b)

  -- two views are made one, and a second is left
  pub total_join : (vs : List X) (i j : ℕ) (v w both spent : X) → get_elem? vs i ≡ some v → get_elem? (set vs i both) j ≡ some w → f both + f spent ≡ f v + f w → total f (set (set vs i both) j spent) ≡ total f vs
  total_join vs i j v w both spent e d same = let a = total_set vs i v both e in let b = total_set (set vs i both) j w spent d in omega (arith, a, b)

  -- no other view adds to the sum
  pub total_none : (vs : List X) → ((j : ℕ) (u : X) → get_elem? vs j ≡ some u → f u ≡ 0) → total f vs ≡ 0
  total_none [] none_has = refl
  total_none (x ∷ xs) none_has = let here = none_has 0 x refl in let tail = total_none xs (λ j u e. none_has (suc j) u e) in omega (arith, here, tail)

  pub total_only : (vs : List X) (i : ℕ) (v : X) → get_elem? vs i ≡ some v → ((j : ℕ) (u : X) → j ≢ i → get_elem? vs j ≡ some u → f u ≡ 0) → total f vs ≡ f v
  total_only [] i v e none_has = absurd (some-ne-none v (sym e))
  total_only (x ∷ xs) zero v e none_has = let same : f x ≡ f v = ap f (some-injective x v e) in let tail = total_none xs (λ j u d. none_has (suc j) u (λ z. let z' : suc j ≡ 0 = z in omega arith) d) in omega (arith, same, tail)
  total_only (x ∷ xs) (suc i) v e none_has = let here = none_has 0 x (λ z. let z' : 0 ≡ suc i = z in omega arith) refl in let tail = total_only xs i v e (λ j u n d. none_has (suc j) u (λ z. n (let z' : suc j ≡ suc i = z in omega arith)) d) in omega (arith, here, tail)

  pub total_le : (g : X → ℕ) (vs : List X) → ((j : ℕ) (u : X) → get_elem? vs j ≡ some u → f u ≤ g u) → total f vs ≤ total g vs
  total_le g [] h = omega arith
  total_le g (x ∷ xs) h = let here = h 0 x refl in let tail = total_le g xs (λ j u e. h (suc j) u e) in omega (arith, here, tail)

pub times_append : (x : ℕ) (fs gs : List ℕ) → times x (fs ++ gs) ≡ times x fs + times x gs
times_append x [] gs = omega arith
times_append x (f ∷ fs) gs = omega (arith, times_append x fs gs)
