-- What a source and a sink in memory are, and which of their calls fail.
use Rattle.std.specs.Prelude.{ℕ, ◌+◌, ◌^◌, ◌<◌, List, Contains}

-- a source in memory: the bytes to come, the most of them in one call, the failing calls, and how many calls and faults there were
pub record Supply : Type 0 where
  pub left : List ℕ
  pub piece : ℕ
  pub fails : List ℕ
  pub calls : ℕ
  pub faults : ℕ

-- a sink in memory: the bytes written, the most of them in all, the failing calls, and how many calls and faults there were
pub record Store : Type 0 where
  pub written : List ℕ
  pub room : ℕ
  pub fails : List ℕ
  pub calls : ℕ
  pub faults : ℕ

-- the next call, counted from 1, is listed; numbers end with the last value of their type
abbrev pub IsListed : List ℕ → ℕ → Type 0
IsListed fails calls = (calls + 1 < 2 ^ 64) × Contains fails (calls + 1)
