-- What a command is answered, and what the names stand for afterwards.
use Rattle.std.specs.Prelude.{◌≡◌, ℕ, List, [], take, length, chars, get_or, nat_le, if◌then◌else◌, Option, Some, None}
use Rattle.std.specs.Str.{is_utf8}
use Rattle.std.specs.Str.Lossy.{utf8_valid_len}
use Rattle.text_spec.specs.Text.{utf8, utf16, repair}
use Rattle.canon_order.specs.Equivalence.{order_of}
use Rattle.query_lines.specs.declared.command.Command.{Command}
use Rattle.query_lines.specs.declared.command.Command.TheVariants as command
use Rattle.query_lines.specs.declared.command.Content.TheVariants as content
use Rattle.query_lines.specs.declared.op.Op.{Op}
use Rattle.query_lines.specs.declared.reply.OpReply.{OpReply}
use Rattle.query_lines.specs.declared.reply.Refusal.TheVariants as refusal
use Rattle.query_lines.specs.declared.reply.Reply.{Reply}
use Rattle.query_lines.specs.declared.reply.Reply.TheVariants as reply
use Rattle.query_session.specs.Literals.{default_literals}
use Rattle.query_session.specs.State.{State, text_of, is_in_use, has_room, store, forget}
use Rattle.batch_workers.specs.Ops.{op_replies, text_after_ops}
use Rattle.query_session.specs.Batching.{batch_reply, first_unused}

-- the three counts of a text
abbrev pub counts_of : List ℕ → Reply
counts_of text = reply.Counts (length text) (length (utf16 text)) (length (utf8 text))

-- a text is stored under the name, unless it would be one name too many
abbrev pub load_reply : State → List ℕ → List ℕ → Reply × State
load_reply state name text = if has_room state name then (counts_of text, store state name text) else (reply.Refused refusal.TooManyNames, state)

-- the same for the text that bytes are the UTF-8 of. Elsewhere it is told how many of them, from the start, are that of a text.
abbrev pub load_bytes_reply : State → List ℕ → List ℕ → Reply × State
load_bytes_reply state name bytes =
    if is_utf8 bytes then load_reply state name (chars bytes) else (reply.Refused (refusal.NotUtf8 (utf8_valid_len bytes)), state)

-- the same for the literal of a number, where there is one
abbrev pub load_literal_reply : State → List ℕ → ℕ → Reply × State
load_literal_reply state name number =
    if nat_le (length default_literals) number then (reply.Refused refusal.NoLiteral, state) else load_reply state name (chars (get_or default_literals number []))

-- the text of the source, where it is in use, is stored under the other name, unless that would be one name too many
abbrev pub copy_reply : State → List ℕ → List ℕ → Option (List ℕ) → Reply × State
copy_reply state to source None = (reply.Refused (refusal.NoName source), state)
copy_reply state to source (Some text) = if has_room state to then (reply.Copied, store state to text) else (reply.Refused refusal.TooManyNames, state)

-- the name isn't in use any more
abbrev pub drop_reply : State → List ℕ → Reply × State
drop_reply state name = if is_in_use state name then (reply.Dropped, forget state name) else (reply.Refused (refusal.NoName name), state)

-- how the texts of two names compare, by canonical equivalence. The first of the names that isn't in use is told.
abbrev pub compare_reply : List ℕ → List ℕ → Option (List ℕ) → Option (List ℕ) → Reply
compare_reply a b None right = reply.Refused (refusal.NoName a)
compare_reply a b (Some left) None = reply.Refused (refusal.NoName b)
compare_reply a b (Some left) (Some right) = reply.Order (order_of left right)

-- the ops are done on the text of the name, where it is in use, and the name stands for the text that they leave
abbrev pub on_reply : State → List ℕ → List Op → Option (List ℕ) → Reply × State
on_reply state name ops None = (reply.Refused (refusal.NoName name), state)
on_reply state name ops (Some text) = (reply.Results (op_replies text 0 ops), store state name (text_after_ops text ops))

-- what a name is answered, by the answers to the ops where it is in use
abbrev pub results_or_no_name : List ℕ → Option (List OpReply) → Reply
results_or_no_name name None = reply.Refused (refusal.NoName name)
results_or_no_name name (Some replies) = reply.Results replies

-- the reply to a command, and the new state
abbrev pub reply_to : State → Command → Reply × State
reply_to state (command.Load name (content.Text bytes)) = load_reply state name (chars bytes)
reply_to state (command.Load name (content.Units units)) = load_reply state name (repair units)
reply_to state (command.Load name (content.Raw bytes)) = load_bytes_reply state name bytes
reply_to state (command.Load name (content.Literal number)) = load_literal_reply state name number
reply_to state (command.Copy to source) = copy_reply state to source (text_of state source)
reply_to state (command.Drop name) = drop_reply state name
reply_to state (command.Compare a b) = (compare_reply a b (text_of state a) (text_of state b), state)
reply_to state (command.On name ops) = on_reply state name ops (text_of state name)
reply_to state (command.Batch jobs) = batch_reply state jobs (first_unused state jobs)

-- the line is refused whole, and leaves the state
abbrev pub IsRefused : Reply → Type 0
IsRefused (reply.Counts scalars utf16 utf8) = ⊥
IsRefused reply.Copied = ⊥
IsRefused reply.Dropped = ⊥
IsRefused (reply.Order order) = ⊥
IsRefused (reply.Results replies) = ⊥
IsRefused (reply.Jobs jobs) = ⊥
IsRefused (reply.Refused refused) = Unit {0}

-- a command that takes no memory: a drop, and a copy of a name onto itself
abbrev pub IsFree : Command → Type 0
IsFree (command.Drop name) = Unit {0}
IsFree (command.Copy to source) = to ≡ source
IsFree _ = ⊥

-- the state that a command leaves which finds no memory: the one before it, but that some first ops of an `on` line may be done
abbrev pub IsLeft : State → Command → State → Type 0
IsLeft old (command.Load name what) new = new ≡ old
IsLeft old (command.Copy to source) new = new ≡ old
IsLeft old (command.Drop name) new = new ≡ old
IsLeft old (command.Compare a b) new = new ≡ old
IsLeft old (command.On name ops) new = (n : ℕ) × (new ≡ (on_reply old name (take n ops) (text_of old name)).1)
IsLeft old (command.Batch jobs) new = new ≡ old
