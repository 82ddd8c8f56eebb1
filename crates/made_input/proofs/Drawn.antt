-- What a draw answers, and what its two sums modulo 2^64 come to.
use Rattle.std.proofs.Common.{◌≡◌, ℕ, ◌+◌, ◌*◌, ◌/◌, ◌%◌, ◌^◌, ◌<◌, ap}
use Rattle.std.proofs.Math.Nat.{mod-lt, mod-add-mod}
use Rattle.made_input.specs.Draws.{drawn, stepped}

pub stepped-is : (x : ℕ) → ((x * 6364136223846793005) % 18446744073709551616 + 1442695040888963407) % 18446744073709551616 ≡ stepped x
unfolding stepped
stepped-is x = mod-add-mod (x * 6364136223846793005) 18446744073709551616 1442695040888963407

pub drawn-is : (n x y : ℕ) → y ≡ stepped x → (y / 8589934592) % n ≡ drawn n x
unfolding drawn
drawn-is n x y is = ap (λ s. (s / 8589934592) % n) is

pub drawn-below : (n x : ℕ) → 0 < n → drawn n x < n
unfolding drawn
drawn-below n x some = mod-lt (stepped x / 2 ^ 33) some
