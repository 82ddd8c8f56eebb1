-- What a source over a reader and a sink over a writer are.
use Rattle.std.specs.Prelude.{ℕ, List}
use Rattle.std.specs.declared.option.Option.{Option}

-- the bytes that the reader has left or the writer has, where it tells them, and how many faults there were
pub record Stream : Type 0 where
  pub bytes : Option (List ℕ)
  pub faults : ℕ
