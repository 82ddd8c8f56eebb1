-- What lines did to the values of the names and on the heap. m and p are the values and the pass before, n and q after.
use Rattle.std.specs.Prelude.{◌≡◌, ℕ, List, [], ◌∷◌, ◌++◌, Option, Some, None}
use Rattle.std.specs.FinMap as finite
use mathlib.Core.List.{IsPrefix}
use Rattle.outside.specs.Bytes.{AppendsPrefix}
use Rattle.slot_model.specs.declared.event.Event.{Event}
use Rattle.slot_table.specs.Owners.{PassSeen}
use Rattle.slot_accounts.specs.Account.{Did}
use Rattle.query_lines.specs.Commands.{command_of}
use Rattle.query_lines.specs.WellFormed.{IsWellFormed}
use Rattle.query_lines.specs.declared.command.Command.{Command}
use Rattle.query_session.specs.Reply.{reply_to}
use Rattle.query_session.specs.Steps.{Stepped}
use Rattle.query_session.specs.Values.{Values, texts_of}
use Rattle.query_program.specs.Answers.{answer, answers_from, state_after_line}
use Rattle.query_program.specs.Lines.{lines, whole_lines}

-- the session did the command
pub record Commanded (c : Command) (m : Values) (p : PassSeen) (n : Values) (q : PassSeen) : Type 0 where
  pub well_formed : IsWellFormed c
  pub texts : texts_of n ≡ (reply_to (texts_of m) c).1
  pub stepped : Stepped (reply_to (texts_of m) c).0 c m p n q

-- it did what the line was read as: nothing where the line gives no command
abbrev pub DidRead : Option Command → Values → PassSeen → Values → PassSeen → Type 0
DidRead None m p n q = (n ≡ m) × (q ≡ p)
DidRead (Some c) m p n q = Commanded c m p n q

pub record LineDone (line : List ℕ) (m : Values) (p : PassSeen) (n : Values) (q : PassSeen) : Type 0 where
  pub state : texts_of n ≡ state_after_line (texts_of m) line
  pub done : DidRead (command_of line) m p n q

-- lines in turn
abbrev pub LinesDone : List (List ℕ) → Values → PassSeen → Values → PassSeen → Type 0
LinesDone [] m p n q = (n ≡ m) × (q ≡ p)
LinesDone (line ∷ more) m p n q = (k : Values) × (r : PassSeen) × LineDone line m p k r × LinesDone more k r n q

-- the first line of the buffer was done
pub record FirstDone (old_bytes new_bytes : List ℕ) (m : Values) (p : PassSeen) (n : Values) (q : PassSeen) (old_gathered new_gathered : List ℕ) : Type 0 where
  pub line : List ℕ
  pub lines_are : whole_lines old_bytes ≡ line ∷ whole_lines new_bytes
  pub done : LineDone line m p n q
  pub reply : new_gathered ≡ old_gathered ++ answer (texts_of m) line

-- some first lines of these were done, and what was written begins their answers
pub record SomeDone (all : List (List ℕ)) (m : Values) (p : PassSeen) (n : Values) (q : PassSeen) (old_written new_written : Option (List ℕ)) : Type 0 where
  pub some : List (List ℕ)
  pub first : IsPrefix some all
  pub done : LinesDone some m p n q
  pub begun : AppendsPrefix old_written new_written (answers_from (texts_of m) some)

-- the same of a whole run, from no values and a first pass on, whose last values were given up
pub record RunDone (input : List ℕ) (p : PassSeen) (q : PassSeen) (old_written new_written : Option (List ℕ)) : Type 0 where
  pub values : Values
  pub between : PassSeen
  pub ran : SomeDone (lines input) finite.empty p values between old_written new_written
  pub events : List Event
  pub end : Did events between q
