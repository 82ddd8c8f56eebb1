-- What answered lines ask of the storage, and that a history has it. Each count is a fold over the lines and one state, the texts of the
-- names, as the answers are. A refused line asks for nothing, nor does one that gives no command. No pass, value or event is named in the
-- counts.
use Rattle.std.specs.Prelude.{◌≡◌, ◌≢◌, ℕ, ◌+◌, ◌-◌, ◌*◌, ◌<◌, ◌≤◌, Bool, true, false, not, ◌&&◌, cond, All, List, [], ◌∷◌, ◌++◌, length, nat_lt, nat_le, Option, Some, None, IsSome}
use Rattle.std.specs.Io.KnownBytes.{Appends}
use Rattle.std.specs.Option.{unwrap_or}
use Rattle.std.specs.Ordering.{nat_cmp, eq_by_cmp}
use Rattle.std.specs.Cmp.Lexicographic.{slice_cmp}
use Rattle.std.specs.Str.{bytes_eq}
use mathlib.Core.List.{IsPrefix}
use Rattle.text_spec.specs.Text.{utf8}
use Rattle.object_words.specs.Rows.{is_ascii}
use Rattle.object_words.specs.declared.layout.TheConstants.{SMALL_CAPACITY}
use Rattle.slot_model.specs.declared.event.Event.{Event}
use Rattle.slot_accounts.specs.Account.{sum_of}
use Rattle.slot_accounts.specs.Counts.{retains, installs, published, Follows}
use Rattle.slot_edits.specs.Texts.{native_words}
use Rattle.query_lines.specs.Commands.{command_of}
use Rattle.query_lines.specs.declared.command.Command.{Command}
use Rattle.query_lines.specs.declared.command.Command.TheVariants as command
use Rattle.query_lines.specs.declared.command.Content.{Content}
use Rattle.query_lines.specs.declared.command.Content.TheVariants as content
use Rattle.query_lines.specs.declared.command.JobLine.{JobLine}
use Rattle.query_lines.specs.declared.reply.OpReply.{OpReply}
use Rattle.query_lines.specs.declared.reply.Reply.{Reply}
use Rattle.query_lines.specs.declared.reply.Reply.TheVariants as reply
use Rattle.batch_workers.specs.Ops.{is_at}
use Rattle.batch_workers.specs.Working.{edits_of}
use Rattle.query_session.specs.Reply.{reply_to}
use Rattle.query_session.specs.State.{State, text_of}
use Rattle.query_program.specs.Answers.{empty, answers_from, state_after_line}
use Rattle.query_program.specs.Lines.{lines}
use Rattle.query_program.specs.declared.limits.TheConstants.{CAPACITY_WORDS, SLOTS}

-- ---- accepted commands

-- whether a command is accepted, by its reply
abbrev pub is_accepted : Reply → Bool
is_accepted (reply.Counts scalars utf16 utf8) = true
is_accepted reply.Copied = true
is_accepted reply.Dropped = true
is_accepted (reply.Order order) = true
is_accepted (reply.Results replies) = true
is_accepted (reply.Jobs jobs) = true
is_accepted (reply.Refused refused) = false

-- what f says of the command of a line, where it is accepted, and else the other
abbrev pub if_accepted : {A : Type 0} → A → (State → Command → A) → State → Option Command → A
if_accepted other f s None = other
if_accepted other f s (Some c) = cond (is_accepted (reply_to s c).0) (f s c) other

-- a sum over the accepted commands of lines
abbrev pub sum_over : (State → Command → ℕ) → State → List (List ℕ) → ℕ
sum_over f s [] = 0
sum_over f s (line ∷ more) = if_accepted 0 f s (command_of line) + sum_over f (state_after_line s line) more

-- each accepted command of lines is of a kind
abbrev pub AllAccepted : (Command → Type 0) → State → List (List ℕ) → Type 0
AllAccepted P s [] = Unit {0}
AllAccepted P s (line ∷ more) =
    ((c : Command) → command_of line ≡ Some c → is_accepted (reply_to s c).0 ≡ true → P c) × AllAccepted P (state_after_line s line) more

-- ---- new texts

-- how many edits a reply tells of: the ops that were answered by counts
abbrev pub edits_told : Reply → ℕ
edits_told (reply.Counts scalars utf16 utf8) = 0
edits_told reply.Copied = 0
edits_told reply.Dropped = 0
edits_told (reply.Order order) = 0
edits_told (reply.Results replies) = sum_of edits_of replies
edits_told (reply.Jobs jobs) = sum_of (λ (replies : List OpReply). sum_of edits_of replies) jobs
edits_told (reply.Refused refused) = 0

abbrev pub loads_in : Command → ℕ
loads_in (command.Load name what) = 1
loads_in (command.Copy to source) = 0
loads_in (command.Drop name) = 0
loads_in (command.Compare a b) = 0
loads_in (command.On name ops) = 0
loads_in (command.Batch jobs) = 0

-- how many texts the lines make: one by each accepted load, and one by each edit
abbrev pub new_texts_in : State → Command → ℕ
new_texts_in s c = loads_in c + edits_told (reply_to s c).0

abbrev pub new_texts : State → List (List ℕ) → ℕ
new_texts = sum_over new_texts_in

-- ---- texts that are published

-- how many bytes of UTF-8 a slot of the run's heap has room for, behind its count word
abbrev pub slot_bytes : ℕ
slot_bytes = 8 * (CAPACITY_WORDS - 1)

-- the bytes are too many for a value's two words, and fit a slot
abbrev pub fits_slot : List ℕ → Bool
fits_slot bytes = nat_lt SMALL_CAPACITY (length bytes) && nat_le (length bytes) slot_bytes

-- a slot load: one of UTF-8 that fits a slot
abbrev pub is_slot_load : Content → Bool
is_slot_load (content.Text bytes) = fits_slot bytes
is_slot_load (content.Raw bytes) = fits_slot bytes
is_slot_load (content.Units units) = false
is_slot_load (content.Literal number) = false

-- the words that a slot load publishes
abbrev pub words_in : Content → List ℕ
words_in (content.Text bytes) = native_words bytes
words_in (content.Raw bytes) = native_words bytes
words_in (content.Units units) = []
words_in (content.Literal number) = []

abbrev pub loaded_in : Command → List (List ℕ)
loaded_in (command.Load name what) = cond (is_slot_load what) (words_in what ∷ []) []
loaded_in (command.Copy to source) = []
loaded_in (command.Drop name) = []
loaded_in (command.Compare a b) = []
loaded_in (command.On name ops) = []
loaded_in (command.Batch jobs) = []

-- the words of the accepted slot loads, in the order of the lines
abbrev pub loaded : State → List (List ℕ) → List (List ℕ)
loaded s [] = []
loaded s (line ∷ more) = if_accepted [] (λ t c. loaded_in c) s (command_of line) ++ loaded (state_after_line s line) more

-- ---- texts that are shared

-- how many values share a slot with another by the command: a copy between two different names, and the copy for each job of a batch
abbrev pub shared_in : Command → ℕ
shared_in (command.Load name what) = 0
shared_in (command.Copy to source) = cond (bytes_eq to source) 0 1
shared_in (command.Drop name) = 0
shared_in (command.Compare a b) = 0
shared_in (command.On name ops) = 0
shared_in (command.Batch jobs) = length jobs

abbrev pub shared : State → List (List ℕ) → ℕ
shared = sum_over (λ s c. shared_in c)

-- a slot load, a copy, a drop, a compare, or a batch of which nothing is kept
abbrev pub IsSharing : Command → Type 0
IsSharing (command.Load name what) = is_slot_load what ≡ true
IsSharing (command.Copy to source) = Unit {0}
IsSharing (command.Drop name) = Unit {0}
IsSharing (command.Compare a b) = Unit {0}
IsSharing (command.On name ops) = ⊥
IsSharing (command.Batch jobs) = All (λ (job : JobLine). job.keep ≡ None) jobs

-- ---- texts that are asked for places

-- a text that breadcrumbs are for: at least 64 bytes of UTF-8, which aren't all ASCII
abbrev pub needs_crumbs : List ℕ → Bool
needs_crumbs bytes = nat_le 64 (length bytes) && not (is_ascii bytes)

-- two names are the same
abbrev pub is_name : List ℕ → List ℕ → Bool
is_name name q = eq_by_cmp (slice_cmp nat_cmp) q name

-- the names that were loaded, with no accepted `on` line on them since, after one more accepted command
abbrev pub fresh_after : (List ℕ → Bool) → Command → List ℕ → Bool
fresh_after fresh (command.Load name what) q = cond (is_name name q) true (fresh q)
fresh_after fresh (command.Copy to source) q = fresh q
fresh_after fresh (command.Drop name) q = fresh q
fresh_after fresh (command.Compare a b) q = fresh q
fresh_after fresh (command.On name ops) q = cond (is_name name q) false (fresh q)
fresh_after fresh (command.Batch jobs) q = fresh q

-- whether the command is the first `on` line on its name since the name's last load, and its text one that breadcrumbs are for, as 1 or 0
abbrev pub asked_in : (List ℕ → Bool) → State → Command → ℕ
asked_in fresh s (command.Load name what) = 0
asked_in fresh s (command.Copy to source) = 0
asked_in fresh s (command.Drop name) = 0
asked_in fresh s (command.Compare a b) = 0
asked_in fresh s (command.On name ops) = cond (fresh name && needs_crumbs (utf8 (unwrap_or (text_of s name) []))) 1 0
asked_in fresh s (command.Batch jobs) = 0

abbrev pub asked_from : (List ℕ → Bool) → State → List (List ℕ) → ℕ
asked_from fresh s [] = 0
asked_from fresh s (line ∷ more) =
    if_accepted 0 (asked_in fresh) s (command_of line)
    + asked_from (if_accepted fresh (λ t c. fresh_after fresh c) s (command_of line)) (state_after_line s line) more

-- at first no name was loaded
abbrev pub asked : State → List (List ℕ) → ℕ
asked = asked_from (λ q. false)

-- a slot load, a drop, a compare, or an `on` line whose ops are one or more `at` and no other
abbrev pub IsAsking : Command → Type 0
IsAsking (command.Load name what) = is_slot_load what ≡ true
IsAsking (command.Copy to source) = ⊥
IsAsking (command.Drop name) = Unit {0}
IsAsking (command.Compare a b) = Unit {0}
IsAsking (command.On name ops) = (ops ≢ []) × All (λ o. is_at o ≡ true) ops
IsAsking (command.Batch jobs) = ⊥

-- ---- the history

-- The history has an event Publish for each slot load, in the order of the lines, with exactly its words; one Retain at least for each
-- value that shares a slot, where lines only load, copy, drop, compare and do batches; and one Install at least for each text that is
-- asked for places, where lines only load, drop, compare and ask
pub record HasUse (answered : List (List ℕ)) (history : List Event) : Type 0 where
  pub loads_are_published : Follows (loaded empty answered) (published history)
  pub copies_share : AllAccepted IsSharing empty answered → shared empty answered ≤ sum_of retains history
  pub questions_install : AllAccepted IsAsking empty answered → asked empty answered ≤ sum_of installs history

-- each text takes a slot and another one for its breadcrumbs, and the heap has as many as all of the lines together may take, and one more
abbrev pub FitsHeap : List (List ℕ) → Type 0
FitsHeap answered = 2 * new_texts empty answered < SLOTS

-- these are first lines of the input whose answers were all written, whatever was written behind them; the sink tells its bytes
pub record WereAnswered (input : List ℕ) (old_written new_written : Option (List ℕ)) (answered : List (List ℕ)) : Type 0 where
  pub first : IsPrefix answered (lines input)
  pub rest : List ℕ
  pub written : Appends old_written new_written (answers_from empty answered ++ rest)
  pub told : IsSome old_written

-- whichever first lines were answered, the history has what they ask of the storage, if it fits the heap
abbrev pub UsesStorage : List ℕ → Option (List ℕ) → Option (List ℕ) → List Event → Type 0
UsesStorage input old_written new_written history =
    (answered : List (List ℕ)) → WereAnswered input old_written new_written answered → FitsHeap answered → HasUse answered history
