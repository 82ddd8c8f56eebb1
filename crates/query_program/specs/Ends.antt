-- How a run over the lines of a told input ends.
use Rattle.std.specs.Prelude.{ℕ, ◌+◌, ◌≤◌, Bool, true, false, ◌==◌, List, [], ◌∷◌, length, take, Result, Ok, Err, Option, Some, None}
use Rattle.std.specs.Io.KnownBytes.{Appends, Consumes, IsAtEnd}
use Rattle.outside.specs.Bytes.{AppendsPrefix}
use Rattle.query_session.specs.State.{State}
use Rattle.query_program.specs.Answers.{answers_from}
use Rattle.query_program.specs.Limits.{HasLongLine, HasTooManyBytes, IsWithin}
use Rattle.query_program.specs.Lines.{lines, whole_lines}
use Rattle.query_program.specs.declared.limits.TheConstants.{INPUT_LIMIT, LINE_LIMIT}
use Rattle.query_program.specs.declared.stop.Stop.{Stop}
use Rattle.query_program.specs.declared.stop.Stop.TheVariants.{ReadFault, WriteFault, OutOfMemory, LineTooLong, InputTooLong}

-- the byte behind the input's limit, where it is there
abbrev pub Probed : Option (List ℕ) → Option (List ℕ) → Option ℕ → Type 0
Probed old new None = Consumes old new [] × IsAtEnd new
Probed old new (Some byte) = Consumes old new (byte ∷ [])

-- which limit the byte behind the input's limit passes: a line's, where the line is full and the byte is no newline
abbrev pub stop_if : Bool → Bool → Stop
stop_if true true = InputTooLong
stop_if true false = LineTooLong
stop_if false newline = InputTooLong

abbrev pub limit_stop : ℕ → ℕ → Stop
limit_stop pending byte = stop_if (pending == LINE_LIMIT) (byte == 10)

-- no byte was taken behind the one that passes the input's limit
pub record TookFew (input : List ℕ) (left : Option (List ℕ)) : Type 0 where
  pub read : List ℕ
  pub taken : Consumes (Some input) left read
  pub few : length read ≤ INPUT_LIMIT + 1

-- the input that came keeps the limits, and was answered up to its last newline
pub record AnsweredWhole (state : State) (input : List ℕ) (left old_written new_written : Option (List ℕ)) : Type 0 where
  pub read : List ℕ
  pub taken : Consumes (Some input) left read
  pub within : IsWithin read
  pub replies : Appends old_written new_written (answers_from state (whole_lines read))

-- the input that came keeps the limits, and what was written begins its answers
pub record AnsweredPart (state : State) (input : List ℕ) (left old_written new_written : Option (List ℕ)) : Type 0 where
  pub read : List ℕ
  pub taken : Consumes (Some input) left read
  pub within : IsWithin read
  pub replies : AppendsPrefix old_written new_written (answers_from state (lines read))

-- a line is too long, and the lines before it were answered
pub record EndsByLine (state : State) (input : List ℕ) (old_written new_written : Option (List ℕ)) : Type 0 where
  pub cause : HasLongLine input
  pub replies : Appends old_written new_written (answers_from state cause.before)

-- the input is too long, and the lines whose newline is within its limit were answered
pub record EndsByInput (state : State) (input : List ℕ) (old_written new_written : Option (List ℕ)) : Type 0 where
  pub cause : HasTooManyBytes input
  pub replies : Appends old_written new_written (answers_from state (whole_lines (take INPUT_LIMIT input)))

-- the input was read to its end, within its limits, and was answered
pub record EndsAnswered (state : State) (input : List ℕ) (left old_written new_written : Option (List ℕ)) : Type 0 where
  pub within : IsWithin input
  pub end : IsAtEnd left
  pub replies : Appends old_written new_written (answers_from state (lines input))

-- what each end says
abbrev pub EndsWith : State → Option (List ℕ) → Option (List ℕ) → Option (List ℕ) → Result (Unit {0}) Stop → List ℕ → Type 0
EndsWith state left old new (Ok x) input = EndsAnswered state input left old new
EndsWith state left old new (Err ReadFault) input = AnsweredWhole state input left old new
EndsWith state left old new (Err WriteFault) input = AnsweredPart state input left old new
EndsWith state left old new (Err OutOfMemory) input = AnsweredPart state input left old new
EndsWith state left old new (Err LineTooLong) input = EndsByLine state input old new
EndsWith state left old new (Err InputTooLong) input = EndsByInput state input old new

-- what each end says, that what was written begins the answers, and how much was taken
pub record Ends (state : State) (left old_written new_written : Option (List ℕ)) (result : Result (Unit {0}) Stop) (input : List ℕ) : Type 0 where
  pub begun : AppendsPrefix old_written new_written (answers_from state (lines input))
  pub few : TookFew input left
  pub how : EndsWith state left old_written new_written result input
