-- How often a number stands in a list. Read by callers: places of events, numbers of free slots.
use Rattle.std.specs.Prelude.{◌≡◌, ℕ, zero, suc, ◌+◌, ◌≤◌, ltb, eqb, cond, List, [], ◌∷◌, length}
use Rattle.slot_model.specs.declared.event.Event.{Event}

abbrev pub one : ℕ → ℕ → ℕ
one x y = cond (eqb x y) 1 0

abbrev pub total : {X : Type 0} → (X → ℕ) → List X → ℕ
total f [] = 0
total f (x ∷ xs) = f x + total f xs

-- how often x stands in the list
abbrev pub times : ℕ → List ℕ → ℕ
times x xs = total (one x) xs

-- the numbers below n, the greatest first
abbrev pub down_from : ℕ → List ℕ
down_from zero = []
down_from (suc n) = n ∷ down_from n

-- each number below n stands at most once, and no other
abbrev pub Once : ℕ → List ℕ → Type 0
Once n xs = (x : ℕ) → times x xs ≤ cond (ltb x n) 1 0

-- each number below n stands once, and no other
abbrev pub AllOnce : ℕ → List ℕ → Type 0
AllOnce n xs = (x : ℕ) → times x xs ≡ cond (ltb x n) 1 0

-- no place is past the front
abbrev pub Below : List Event → List ℕ → Type 0
Below front places = (n : ℕ) → length front ≤ n → times n places ≡ 0
