-- The answers to an input: a fold over its lines and one state, the texts of the names. No buffer, read or write is named here.
use Rattle.std.specs.Prelude.{ℕ, List, [], ◌∷◌, ◌++◌, Option, Some, None}
use Rattle.std.specs.FinMap as finite
use Rattle.query_lines.specs.Commands.{command_of}
use Rattle.query_lines.specs.Replies.{reply_text}
use Rattle.query_lines.specs.declared.command.Command.{Command}
use Rattle.query_lines.specs.declared.reply.Refusal.TheVariants as refusal
use Rattle.query_lines.specs.declared.reply.Reply.{Reply}
use Rattle.query_lines.specs.declared.reply.Reply.TheVariants as reply
use Rattle.query_session.specs.Reply.{reply_to}
use Rattle.query_session.specs.State.{State}
use Rattle.query_program.specs.Lines.{lines}

-- no name is in use
abbrev pub empty : State
empty = finite.empty

-- the reply to what a line was read as, and the state after it; a line that gives no command leaves the state
abbrev pub reply_to_read : State → Option Command → Reply × State
reply_to_read state None = (reply.Refused refusal.Syntax, state)
reply_to_read state (Some command) = reply_to state command

-- the reply to a line, and the state after it
unfoldable pub answer_line : State → List ℕ → Reply × State
answer_line state line = reply_to_read state (command_of line)

-- the text of the reply to a line, and a newline
unfoldable pub answer : State → List ℕ → List ℕ
answer state line = reply_text (answer_line state line).0 ++ 10 ∷ []

unfoldable pub state_after_line : State → List ℕ → State
state_after_line state line = (answer_line state line).1

-- the answers to the lines in turn
abbrev pub answers_from : State → List (List ℕ) → List ℕ
answers_from state [] = []
answers_from state (line ∷ more) = answer state line ++ answers_from (state_after_line state line) more

-- the state after the lines
abbrev pub state_after : State → List (List ℕ) → State
state_after state [] = state
state_after state (line ∷ more) = state_after (state_after_line state line) more

-- the answers to an input, from the state in which no name is in use
abbrev pub answers : List ℕ → List ℕ
answers input = answers_from empty (lines input)
