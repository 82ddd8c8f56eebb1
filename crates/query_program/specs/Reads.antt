-- The bytes that came and are not answered yet, and what one read adds to them.
use Rattle.std.specs.Prelude.{◌≡◌, ℕ, ◌≤◌, List, ◌++◌, length, Result, Ok, Err}
use Rattle.std.specs.declared.option.Option.{Option}
use Rattle.std.specs.Io.KnownBytes.{Consumes, IsAtEnd}
use Rattle.query_program.specs.declared.stop.Stop.{Stop}
use Rattle.query_program.specs.declared.stop.Stop.TheVariants.{ReadFault, WriteFault, OutOfMemory, LineTooLong, InputTooLong}

-- the bytes that came and are not answered yet, and how much room there is before and behind them
pub record Pending : Type 0 where
  pub bytes : List ℕ
  pub before : ℕ
  pub room : ℕ

-- what a read of at most `most` bytes added, of which there were n
pub record Filled (old_left new_left : Option (List ℕ)) (old_bytes new_bytes : List ℕ) (most n : ℕ) : Type 0 where
  pub read : List ℕ
  pub taken : Consumes old_left new_left read
  pub added : new_bytes ≡ old_bytes ++ read
  pub count : length read ≡ n
  pub most_ : n ≤ most
  pub end : n ≡ 0 → IsAtEnd new_left

-- a read stops for a fault or for want of memory
abbrev pub IsReadStop : Stop → Type 0
IsReadStop ReadFault = Unit {0}
IsReadStop WriteFault = ⊥
IsReadStop OutOfMemory = Unit {0}
IsReadStop LineTooLong = ⊥
IsReadStop InputTooLong = ⊥

abbrev pub IsReadStopOf : {A : Type 0} → Result A Stop → Type 0
IsReadStopOf (Ok x) = Unit {0}
IsReadStopOf (Err e) = IsReadStop e
