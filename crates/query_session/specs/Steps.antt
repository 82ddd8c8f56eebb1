-- What a command does to the values of the names and on the heap. m and p are the values and the pass before, n and q after, es the
-- events.
use Rattle.std.specs.Prelude.{◌≡◌, ◌≢◌, ℕ, ◌≤◌, MatchBool, All, List, [], ◌++◌, Some, true, false}
use Rattle.std.specs.Str.{bytes_eq}
use Rattle.std.specs.FinMap as finite
use Rattle.slot_model.specs.declared.event.Event.{Event}
use Rattle.slot_table.specs.Owners.{PassSeen}
use Rattle.slot_accounts.specs.Account.{Did, Made, Keeps, Shows, sum_of}
use Rattle.slot_accounts.specs.Counts.{publishes, retains}
use Rattle.str_value.specs.Meaning.{Meaning, is_there, side_of}
use Rattle.str_value.specs.Learning.{MayLearn}
use Rattle.str_value.specs.Making.{MadeOfUtf8, MadeOfUtf16, IsLiteralOf, making}
use Rattle.str_value.specs.Copying.{CopiedAt, copying}
use Rattle.query_lines.specs.declared.command.Command.{Command}
use Rattle.query_lines.specs.declared.command.Command.TheVariants as command
use Rattle.query_lines.specs.declared.command.Content.{Content}
use Rattle.query_lines.specs.declared.command.Content.TheVariants as content
use Rattle.query_lines.specs.declared.op.Op.{Op}
use Rattle.query_lines.specs.declared.reply.Reply.{Reply}
use Rattle.query_lines.specs.declared.reply.Reply.TheVariants as reply
use Rattle.batch_workers.specs.Ops.{op_replies, text_after_ops, is_counts, is_at}
use Rattle.batch_workers.specs.Working.{IsRead, IsToInstall, InstallsAt, edits_of}
use Rattle.query_session.specs.Values.{Values, IsSound, credits_in, credit_in}
pub use Rattle.query_session.specs.Copied.{CopiedIn}
use Rattle.query_session.specs.Batched.{Batched}

-- a value was made, which stands under the name then, and the one that the name had was given up
pub record Loaded (Made : PassSeen → Meaning → Type 0) (m : Values) (name : List ℕ) (n : Values) (es : List Event) : Type 0 where
  pub value : Meaning
  pub between : PassSeen
  pub made : Made between value
  pub now : n ≡ finite.insert m name value
  pub rest : List Event
  pub events_are : es ≡ making value.place ++ rest
  pub none : sum_of publishes rest ≡ 0

-- the value of a content: of UTF-8, of UTF-16 units, and of a literal
abbrev pub Makes : Content → PassSeen → PassSeen → Meaning → Type 0
Makes (content.Text bytes) p q value = MadeOfUtf8 p q bytes value.place value.row
Makes (content.Raw bytes) p q value = MadeOfUtf8 p q bytes value.place value.row
Makes (content.Units units) p q value = MadeOfUtf16 p q units value.place value.row
Makes (content.Literal number) p q value = (q ≡ p) × IsLiteralOf p number value

-- A copy of the source's value was taken, which stands under the other name then, and the one that it had was given up. The source's
-- value may know less of its slot after that
pub record CopiedTo (m : Values) (to source : List ℕ) (p : PassSeen) (n : Values) (es : List Event) : Type 0 where
  pub before : Meaning
  pub after : Meaning
  pub value : Meaning
  pub between : PassSeen
  pub found : finite.get m source ≡ Some before
  pub copied : CopiedAt before.place p before between after value
  pub now : n ≡ finite.insert (finite.insert m source after) to value
  pub rest : List Event
  pub events_are : es ≡ copying before.place value.place ++ rest
  pub none : sum_of publishes rest ≡ 0

-- the value of a name was given up
pub record Dropped (m : Values) (name : List ℕ) (n : Values) (es : List Event) : Type 0 where
  pub value : Meaning
  pub found : finite.get m name ≡ Some value
  pub now : n ≡ finite.remove m name
  pub none : sum_of publishes es ≡ 0

-- Ops were done on the value of a name. No more events publish than edits were done, and none takes a reference. Where nothing was edited,
-- its text and its two words are as they were; and it knows its breadcrumbs where places alone were asked for and the pass shows what they
-- take: they are installed where it knew that its slot had none
pub record RanOn (m : Values) (name : List ℕ) (ops : List Op) (p : PassSeen) (n : Values) (es : List Event) : Type 0 where
  pub before : Meaning
  pub after : Meaning
  pub found : finite.get m name ≡ Some before
  pub now : n ≡ finite.insert m name after
  pub text : after.text ≡ text_after_ops before.text ops
  pub published : sum_of publishes es ≤ sum_of edits_of (op_replies before.text 0 ops)
  pub retained : sum_of retains es ≡ 0
  pub unedited : All (λ r. is_counts r ≡ false) (op_replies before.text 0 ops) → IsRead before after
  pub learned : ops ≢ [] → All (λ o. is_at o ≡ true) ops → MayLearn before → Shows p → is_there (side_of after.place) ≡ true
  pub installed : ops ≢ [] → All (λ o. is_at o ≡ true) ops → IsToInstall p before → InstallsAt before.place before.text es

-- nothing was done
pub record Unmoved (m : Values) (p : PassSeen) (n : Values) (q : PassSeen) (es : List Event) : Type 0 where
  pub values : n ≡ m
  pub pass : q ≡ p
  pub events : es ≡ []

-- what a command did that was not refused; every name that it doesn't change has the value that it had
abbrev pub Acted : Command → Values → PassSeen → Values → PassSeen → List Event → Type 0
Acted (command.Load name what) m p n q es = Loaded (Makes what p) m name n es
Acted (command.Copy to source) m p n q es = MatchBool (bytes_eq to source) (Unmoved m p n q es) (CopiedTo m to source p n es)
Acted (command.Drop name) m p n q es = Dropped m name n es
Acted (command.Compare a b) m p n q es = Unmoved m p n q es
Acted (command.On name ops) m p n q es = RanOn m name ops p n es
Acted (command.Batch jobs) m p n q es = Batched m p jobs n es

-- and its account: its events, which threads may have made beside each other, the credits, and that values and pass go on together
pub record Done (c : Command) (m : Values) (p : PassSeen) (n : Values) (q : PassSeen) : Type 0 where
  pub events : List Event
  pub made : Made events p q
  pub credits : Keeps p (credits_in m) q (credits_in n)
  pub sound : IsSound n q
  pub acted : Acted c m p n q events

-- what any command did, by its reply: a refused one leaves every value and the pass
abbrev pub Stepped : Reply → Command → Values → PassSeen → Values → PassSeen → Type 0
Stepped (reply.Counts scalars utf16 utf8) c m p n q = Done c m p n q
Stepped reply.Copied c m p n q = Done c m p n q
Stepped reply.Dropped c m p n q = Done c m p n q
Stepped (reply.Order order) c m p n q = Done c m p n q
Stepped (reply.Results replies) c m p n q = Done c m p n q
Stepped (reply.Jobs jobs) c m p n q = Done c m p n q
Stepped (reply.Refused refused) c m p n q = (n ≡ m) × (q ≡ p)

-- the account alone
pub record Accounted (m : Values) (p : PassSeen) (n : Values) (q : PassSeen) : Type 0 where
  pub events : List Event
  pub made : Made events p q
  pub credits : Keeps p (credits_in m) q (credits_in n)
  pub sound : IsSound n q

-- a value was stored that the pass `start` made of some content, whatever that was
abbrev pub IsLoading : Reply → List ℕ → Meaning → Values → PassSeen → Values → PassSeen → Type 0
IsLoading r name value m p n q = (what : Content) (start : PassSeen) → Makes what start p value → Did (making value.place) start p
    → Keeps start 0 p (credit_in value) → Stepped r (command.Load name what) m start n q
