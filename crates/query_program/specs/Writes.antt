-- What answering lines does to the state, the bytes that came and the bytes written.
use Rattle.std.specs.Prelude.{◌≡◌, ℕ, ◌<◌, List, length, ◌++◌, ◌∷◌, Result, Ok, Err}
use Rattle.std.specs.declared.option.Option.{Option}
use Rattle.std.specs.Io.KnownBytes.{Appends}
use Rattle.query_session.specs.State.{State}
use Rattle.query_program.specs.Answers.{answer, answers_from, state_after, state_after_line}
use Rattle.query_program.specs.Lines.{whole_lines, last_part}
use Rattle.query_program.specs.declared.stop.Stop.{Stop}
use Rattle.query_program.specs.declared.stop.Stop.TheVariants.{ReadFault, WriteFault, OutOfMemory, LineTooLong, InputTooLong}

-- all whole lines were answered, and the answers are written
pub record Answered (old_state new_state : State) (old_bytes new_bytes : List ℕ) (old_written new_written : Option (List ℕ)) : Type 0 where
  pub replies : Appends old_written new_written (answers_from old_state (whole_lines old_bytes))
  pub state : new_state ≡ state_after old_state (whole_lines old_bytes)
  pub rest : new_bytes ≡ last_part old_bytes

-- the first line was answered, and its answer is gathered
pub record AnsweredFirst (old_state new_state : State) (old_bytes new_bytes old_gathered new_gathered : List ℕ) : Type 0 where
  pub line : List ℕ
  pub lines : whole_lines old_bytes ≡ line ∷ whole_lines new_bytes
  pub rest : last_part old_bytes ≡ last_part new_bytes
  pub reply : new_gathered ≡ old_gathered ++ answer old_state line
  pub state : new_state ≡ state_after_line old_state line
  pub shorter : length new_bytes < length old_bytes

-- some first part of what was gathered is written, and the rest is gathered still
pub record Sent (old_written new_written : Option (List ℕ)) (old_gathered new_gathered : List ℕ) : Type 0 where
  pub bytes : List ℕ
  pub written : Appends old_written new_written bytes
  pub parts : old_gathered ≡ bytes ++ new_gathered

-- an answer stops for a fault of the sink or for want of memory
abbrev pub IsWriteStop : Stop → Type 0
IsWriteStop ReadFault = ⊥
IsWriteStop WriteFault = Unit {0}
IsWriteStop OutOfMemory = Unit {0}
IsWriteStop LineTooLong = ⊥
IsWriteStop InputTooLong = ⊥

abbrev pub IsWriteStopOf : {A : Type 0} → Result A Stop → Type 0
IsWriteStopOf (Ok x) = Unit {0}
IsWriteStopOf (Err e) = IsWriteStop e
