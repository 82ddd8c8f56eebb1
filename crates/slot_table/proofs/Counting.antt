-- A list in which each number below n stands at most once, and no other, has at most n members.
use Rattle.std.proofs.Common.{◌≡◌, ℕ, zero, suc, ◌+◌, ◌<◌, ◌≤◌, List, [], ◌∷◌, ◌++◌, length, ltb, cond, refl, ap, arith}
use Rattle.std.proofs.lemmas.Bool.Decides.{nat_tests}
use Rattle.slot_table.specs.Numbers.{total, times, one, Once}
use Rattle.slot_table.specs.PassSteps.{last_of, but_last}
use Rattle.slot_table.proofs.Kept.{one-same}

abbrev pub below : ℕ → List ℕ → ℕ
below n fs = total (λ y. cond (ltb y n) 1 0) fs

one_more : (y n : ℕ) → cond (ltb y (suc n)) 1 0 ≡ cond (ltb y n) 1 0 + one n y
one_more y n = grind (arith, nat_tests)

pub below-suc : (n : ℕ) (fs : List ℕ) → below (suc n) fs ≡ below n fs + times n fs
below-suc n [] = refl
below-suc n (y ∷ ys) = let tail = below-suc n ys in let here = one_more y n in omega (arith, tail, here)

pub below-zero : (fs : List ℕ) → below 0 fs ≡ 0
below-zero [] = refl
below-zero (y ∷ ys) = let tail = below-zero ys in let none : ℕ = 0 in let here : cond (ltb y 0) 1 none ≡ none = grind (arith, nat_tests) in omega (arith, tail, here)

below-most : (n : ℕ) (fs : List ℕ) → ((x : ℕ) → times x fs ≤ 1) → below n fs ≤ n
below-most zero fs h = let z = below-zero fs in omega (arith, z)
below-most (suc n) fs h = let e = below-suc n fs in let t = below-most n fs h in let m = h n in omega (arith, e, t, m)

below-all : (n : ℕ) (fs : List ℕ) → Once n fs → length fs ≤ below n fs
below-all n [] h = omega arith
below-all n (y ∷ ys) h = let tail = below-all n ys (λ x. let t = h x in omega (arith, t)) in let here = h y in let is = one-same y in omega (arith, tail, here, is)

once-most : (n x : ℕ) (fs : List ℕ) → Once n fs → times x fs ≤ 1
once-most n x fs h = let t = h x in grind (arith, nat_tests, t)

pub once_length : (n : ℕ) (fs : List ℕ) → Once n fs → length fs ≤ n
once_length n fs h = let a = below-all n fs h in let b = below-most n fs (λ x. once-most n x fs h) in omega (arith, a, b)

pub last_of-snoc : (fs : List ℕ) (x : ℕ) → last_of (fs ++ x ∷ []) ≡ x
last_of-snoc [] x = refl
last_of-snoc (y ∷ []) x = refl
last_of-snoc (y ∷ z ∷ fs) x = last_of-snoc (z ∷ fs) x

pub but_last-snoc : (fs : List ℕ) (x : ℕ) → but_last (fs ++ x ∷ []) ≡ fs
but_last-snoc [] x = refl
but_last-snoc (y ∷ []) x = refl
but_last-snoc (y ∷ z ∷ fs) x = ap (λ l. y ∷ l) (but_last-snoc (z ∷ fs) x)

times-snoc : (x : ℕ) (fs : List ℕ) (y : ℕ) → times x (fs ++ y ∷ []) ≡ times x fs + one x y
times-snoc x [] y = omega arith
times-snoc x (f ∷ fs) y = let t = times-snoc x fs y in omega (arith, t)

pub once_front : (n : ℕ) (fs : List ℕ) (y : ℕ) → Once n (fs ++ y ∷ []) → Once n fs
once_front n fs y h x = let t = h x in let e = times-snoc x fs y in omega (arith, t, e)

pub once_end : (n : ℕ) (fs : List ℕ) (y : ℕ) → Once n (fs ++ y ∷ []) → y < n
once_end n fs y h = let t = h y in let e = times-snoc y fs y in let is = one-same y in let f : 1 ≤ cond (ltb y n) 1 0 = omega (arith, t, e, is) in grind (arith, nat_tests, f)
