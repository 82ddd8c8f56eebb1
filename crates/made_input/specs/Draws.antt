-- Numbers drawn from a state, and texts made one after another from it.
use Rattle.std.specs.Prelude.{ℕ, zero, suc, ◌+◌, ◌*◌, ◌/◌, ◌%◌, ◌^◌, List, [], ◌++◌}

-- the state after a draw (D. E. Knuth, MMIX: a linear congruential generator)
unfoldable pub stepped : ℕ → ℕ
stepped x = (x * 6364136223846793005 + 1442695040888963407) % 2 ^ 64

-- the number below n that a draw answers: the state steps first
unfoldable pub drawn : ℕ → ℕ → ℕ
drawn n x = (stepped x / 2 ^ 33) % n

-- the texts number t, t + 1 and so on, k in all; each is made from the state that the one before it leaves
unfoldable pub in_turn : (ℕ → ℕ → List ℕ) → (ℕ → ℕ → ℕ) → ℕ → ℕ → ℕ → List ℕ
in_turn text after zero t x = []
in_turn text after (suc k) t x = text t x ++ in_turn text after k (suc t) (after t x)

-- the state that the last of these texts leaves
unfoldable pub left_by : (ℕ → ℕ → ℕ) → ℕ → ℕ → ℕ → ℕ
left_by after zero t x = x
left_by after (suc k) t x = left_by after k (suc t) (after t x)
