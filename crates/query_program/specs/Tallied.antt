-- What a tally is: the bytes that were written, and how many faults there were.
use Rattle.std.specs.Prelude.{ℕ, List}

pub record Tallied : Type 0 where
  pub written : List ℕ
  pub faults : ℕ
