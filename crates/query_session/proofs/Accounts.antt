-- Accounts of calls, put together.
use Rattle.std.proofs.Common.{◌≡◌, ◌≢◌, ℕ, ◌+◌, ◌≤◌, All, refl, sym, ap, ◌∙◌, subst, List, [], ◌++◌, Bool, true, false, Option, Some, MatchBool, Result, Ok, Err, OnOk, IfOk, IfErr, OnErr, arith}
use Rattle.std.specs.FinMap as finite
use Rattle.std.specs.Str.{bytes_eq}
use Rattle.slot_model.specs.declared.event.Event.{Event}
use Rattle.slot_table.specs.Owners.{PassSeen}
use Rattle.slot_accounts.specs.Account.{Did, Keeps, Shows, sum_of}
use Rattle.slot_accounts.specs.Counts.{publishes, retains}
use Rattle.slot_accounts.proofs.Doing.{Did-nothing, Did-then}
use Rattle.slot_accounts.proofs.Counts.{Made-of}
use Rattle.str_value.specs.Meaning.{Meaning, Place, own, shared, fixed, OfHeap, credit_of, is_there, side_of}
use Rattle.str_value.specs.Learning.{MayLearn}
use Rattle.str_value.specs.Making.{IsLiteralOf, making, letting_go}
use Rattle.str_value.specs.Copying.{copying}
use Rattle.query_lines.specs.declared.command.Command.{Command}
use Rattle.query_lines.specs.declared.command.Command.TheVariants as command
use Rattle.query_lines.specs.declared.command.Content.{Content}
use Rattle.query_lines.specs.declared.command.Content.TheVariants as content
use Rattle.query_lines.specs.declared.reply.Refusal.{Refusal}
use Rattle.query_lines.specs.declared.reply.Reply.{Reply}
use Rattle.query_lines.specs.declared.reply.Reply.TheVariants as reply
use Rattle.query_lines.specs.declared.op.Op.{Op}
use Rattle.query_lines.specs.declared.reply.OpReply.{OpReply}
use Rattle.batch_workers.specs.Ops.{op_replies, text_after_ops, is_counts, is_at}
use Rattle.batch_workers.specs.Working.{IsRead, IsToInstall, InstallsAt, edits_of}
use Rattle.query_session.specs.Session.{Shown}
use Rattle.query_session.specs.Running.{IsRunning}
use Rattle.query_session.specs.Values.{Values, IsSound, credits_in, credit_in}
use Rattle.query_session.specs.Steps.{Done, Stepped, Accounted, Unmoved, CopiedTo, CopiedIn, Makes, Acted, IsLoading}
use Rattle.query_session.proofs.Sums.{credits_in-remove}
use Rattle.query_session.proofs.Storing.{changed-credits, changed-sound, removed-sound}

-- who gives a value up publishes nothing
pub nothing-published : (o : Place) (last : Bool) (found : Option ℕ) → sum_of publishes (letting_go o last found) ≡ 0
nothing-published own last found = refl
nothing-published (shared r) true found = refl
nothing-published (shared r) false found = refl
nothing-published (fixed l) last found = refl

-- nor takes a reference
pub nothing-retained : (o : Place) (last : Bool) (found : Option ℕ) → sum_of retains (letting_go o last found) ≡ 0
nothing-retained own last found = refl
nothing-retained (shared r) true found = refl
nothing-retained (shared r) false found = refl
nothing-retained (fixed l) last found = refl

-- what holds on Ok, of two facts and of more
pub on_ok_two : {X E : Type 0} {A B C : Type 0} (r : Result X E) → (A → B → C) → OnOk r A → OnOk r B → OnOk r C
on_ok_two (Ok x) f a b = f a b
on_ok_two (Err e) f a b = tt

pub on_ok_three : {X E : Type 0} {A B C D : Type 0} (r : Result X E) → (A → B → C → D) → OnOk r A → OnOk r B → OnOk r C → OnOk r D
on_ok_three (Ok x) f a b c = f a b c
on_ok_three (Err e) f a b c = tt

-- what holds of the value of an Ok, of two facts and of three
pub if_ok_two : {X E : Type 0} {A B C : X → Type 0} (r : Result X E) → ((x : X) → A x → B x → C x) → IfOk r A → IfOk r B → IfOk r C
if_ok_two (Ok x) f a b = f x a b
if_ok_two (Err e) f a b = tt

pub if_ok_three : {X E : Type 0} {A B C D : X → Type 0} (r : Result X E) → ((x : X) → A x → B x → C x → D x) → IfOk r A → IfOk r B → IfOk r C → IfOk r D
if_ok_three (Ok x) f a b c = f x a b c
if_ok_three (Err e) f a b c = tt

pub on_err : {X E : Type 0} {A B : Type 0} (r : Result X E) → (A → B) → IfErr r (λ e. A) → OnErr r B
on_err (Ok x) f a = tt
on_err (Err e) f a = f a

-- a refused command
pub stepped-refused : (r : Reply) (x : Refusal) (c : Command) (m : Values) (p : PassSeen) → r ≡ reply.Refused x → Stepped r c m p m p
stepped-refused r x c m p is = subst (λ (y : Reply). Stepped y c m p m p) (sym is) (refl, refl)

-- a command that did nothing
pub done-nothing : (c : Command) (m : Values) (p : PassSeen) → IsSound m p → Acted c m p m p [] → Done c m p m p
done-nothing c m p sound acted = record { events = []; made = Made-of (Did-nothing p); credits = refl; sound = sound; acted = acted }

pub copied-itself : (to source : List ℕ) (m : Values) (p : PassSeen) → bytes_eq to source ≡ true → IsSound m p → Done (command.Copy to source) m p m p
copied-itself to source m p same sound =
    done-nothing (command.Copy to source) m p sound
    (subst (λ b. MatchBool b (Unmoved m p m p []) (CopiedTo m to source p m [])) (sym same) (record { values = refl; pass = refl; events = refl }))

-- a copy that was stored
pub copied-apart : (to source : List ℕ) (m middle n : Values) (p r q : PassSeen) (v : Meaning) → bytes_eq to source ≡ false → CopiedIn m source p middle r v
    → n ≡ finite.insert middle to v → ((es : List Event) × (sum_of publishes es ≡ 0) × Did es r q) → Keeps p (credits_in m) r (credits_in middle + credit_in v)
    → Keeps r (credits_in middle + credit_in v) q (credits_in n) → IsSound n q → Done (command.Copy to source) m p n q
copied-apart to source m middle n p r q v other k stored gone first second sound = record {
  events = copying k.before.place v.place ++ gone.0;
  made = Made-of (Did-then k.did gone.2);
  credits = omega (arith, first, second);
  sound = sound;
  acted = subst (λ b. MatchBool b (Unmoved m p n q (copying k.before.place v.place ++ gone.0)) (CopiedTo m to source p n (copying k.before.place v.place ++ gone.0))) (sym other) (record {
    before = k.before;
    after = k.after;
    value = v;
    between = r;
    found = k.found;
    copied = k.copied;
    now = stored ∙ ap (λ (x : Values). finite.insert x to v) k.now;
    rest = gone.0;
    events_are = refl;
    none = gone.1;
  });
}

-- a value that was made and stored
pub loaded : (name : List ℕ) (what : Content) (m n : Values) (p r q : PassSeen) (v : Meaning) → Makes what p r v → Did (making v.place) p r
    → Keeps p 0 r (credit_in v) → n ≡ finite.insert m name v → ((es : List Event) × (sum_of publishes es ≡ 0) × Did es r q)
    → Keeps r (credits_in m + credit_in v) q (credits_in n) → IsSound n q → Done (command.Load name what) m p n q
loaded name what m n p r q v made did first stored gone second sound = record {
  events = making v.place ++ gone.0;
  made = Made-of (Did-then did gone.2);
  credits = omega (arith, first, second);
  sound = sound;
  acted = record { value = v; between = r; made = made; now = stored; rest = gone.0; events_are = refl; none = gone.1 };
}

-- the value of a literal is made without an event, and holds no credit
pub literal-did : (p q : PassSeen) (k : ℕ) (v : Meaning) → q ≡ p → IsLiteralOf p k v → Did (making v.place) p q
literal-did p q k v same l =
    subst (λ (x : PassSeen). Did (making v.place) p x) (sym same) (subst (λ (o : Place). Did (making o) p p) (sym l.place) (Did-nothing p))

pub literal-credits : (p q : PassSeen) (k : ℕ) (v : Meaning) → q ≡ p → IsLiteralOf p k v → Keeps p 0 q (credit_in v)
literal-credits p q k v same l =
    subst (λ (x : PassSeen). Keeps p 0 x (credit_in v)) (sym same) (subst (λ (o : Place). p.credits + credit_of o ≡ p.credits + 0) (sym l.place) refl)

-- the account of any command
of-done : (c : Command) (m : Values) (p : PassSeen) (n : Values) (q : PassSeen) → Done c m p n q → Accounted m p n q
of-done c m p n q d = record { events = d.events; made = d.made; credits = d.credits; sound = d.sound }

pub accounted : (r : Reply) (c : Command) (m : Values) (p : PassSeen) (n : Values) (q : PassSeen) → IsSound m p → Stepped r c m p n q → Accounted m p n q
accounted (reply.Counts scalars utf16 utf8) c m p n q sound s = of-done c m p n q s
accounted reply.Copied c m p n q sound s = of-done c m p n q s
accounted reply.Dropped c m p n q sound s = of-done c m p n q s
accounted (reply.Order order) c m p n q sound s = of-done c m p n q s
accounted (reply.Results replies) c m p n q sound s = of-done c m p n q s
accounted (reply.Jobs jobs) c m p n q sound s = of-done c m p n q s
accounted (reply.Refused refused) c m p n q sound s =
    subst (λ (x : Values). Accounted m p x q) (sym s.0) (subst (λ (x : PassSeen). Accounted m p m x) (sym s.1)
    (record { events = []; made = Made-of (Did-nothing p); credits = refl; sound = sound }))

-- ops that were done on the value of a name
pub ran-done : (name : List ℕ) (ops : List Op) (m n : Values) (p q : PassSeen) (before after : Meaning) (replies : List OpReply) → IsSound m p
    → finite.get m name ≡ Some before → n ≡ finite.insert m name after → after.text ≡ text_after_ops before.text ops → replies ≡ op_replies before.text 0 ops
    → (All (λ r. is_counts r ≡ false) replies → IsRead before after)
    → ((es : List Event) × Did es p q × (sum_of publishes es ≤ sum_of edits_of replies) × (sum_of retains es ≡ 0)
    × (ops ≢ [] → All (λ o. is_at o ≡ true) ops → IsToInstall p before → InstallsAt before.place before.text es))
    → Keeps p (credit_in before) q (credit_in after) → q.heap ≡ p.heap → OfHeap q after.place
    → (ops ≢ [] → All (λ o. is_at o ≡ true) ops → MayLearn before → Shows p → is_there (side_of after.place) ≡ true)
    → Done (command.On name ops) m p n q
ran-done name ops m n p q before after replies sound found now text answers unedited worked keeps heap of learned = record {
  events = worked.0;
  made = Made-of worked.1;
  credits = let a = changed-credits m n name before after found now in omega (arith, a, keeps);
  sound = changed-sound m n name before after p q sound heap of found now;
  acted = record {
    before = before;
    after = after;
    found = found;
    now = now;
    text = text;
    published = subst (λ rs. sum_of publishes worked.0 ≤ sum_of edits_of rs) answers worked.2;
    retained = worked.3;
    installed = worked.4;
    unedited = subst (λ rs. All (λ r. is_counts r ≡ false) rs → IsRead before after) answers unedited;
    learned = learned;
  };
}

-- bytes that are a text are loaded as one
raw-done : (name bytes : List ℕ) (m : Values) (p : PassSeen) (n : Values) (q : PassSeen) → Done (command.Load name (content.Text bytes)) m p n q
    → Done (command.Load name (content.Raw bytes)) m p n q
raw-done name bytes m p n q d = record {
  events = d.events;
  made = d.made;
  credits = d.credits;
  sound = d.sound;
  acted = record {
    value = d.acted.value;
    between = d.acted.between;
    made = d.acted.made;
    now = d.acted.now;
    rest = d.acted.rest;
    events_are = d.acted.events_are;
    none = d.acted.none;
  };
}

pub raw-stepped : (r : Reply) (name bytes : List ℕ) (m : Values) (p : PassSeen) (n : Values) (q : PassSeen)
    → Stepped r (command.Load name (content.Text bytes)) m p n q → Stepped r (command.Load name (content.Raw bytes)) m p n q
raw-stepped (reply.Counts scalars utf16 utf8) name bytes m p n q s = raw-done name bytes m p n q s
raw-stepped reply.Copied name bytes m p n q s = raw-done name bytes m p n q s
raw-stepped reply.Dropped name bytes m p n q s = raw-done name bytes m p n q s
raw-stepped (reply.Order order) name bytes m p n q s = raw-done name bytes m p n q s
raw-stepped (reply.Results replies) name bytes m p n q s = raw-done name bytes m p n q s
raw-stepped (reply.Jobs jobs) name bytes m p n q s = raw-done name bytes m p n q s
raw-stepped (reply.Refused refused) name bytes m p n q s = s

-- replies of a kind
pub stepped-counts : (r : Reply) (a b d : ℕ) (c : Command) (m : Values) (p : PassSeen) (n : Values) (q : PassSeen) → r ≡ reply.Counts a b d → Done c m p n q → Stepped r c m p n q
stepped-counts r a b d c m p n q is done = subst (λ (y : Reply). Stepped y c m p n q) (sym is) done

-- a value that was taken out and given up
pub dropped : (name : List ℕ) (m n : Values) (p q : PassSeen) (v : Meaning) → IsSound m p → finite.get m name ≡ Some v → n ≡ finite.remove m name
    → (last : Bool) (found : Option ℕ) → Did (letting_go v.place last found) p q → Keeps p (credit_in v) q 0 → q.heap ≡ p.heap → Done (command.Drop name) m p n q
dropped name m n p q v sound there now last found did keeps heap = record {
  events = letting_go v.place last found;
  made = Made-of did;
  credits =
      let a = credits_in-remove m name v there in
      let b : credits_in n ≡ credits_in (finite.remove m name) = ap credits_in now in omega (arith, a, b, keeps);
  sound = removed-sound m n name p q sound heap now;
  acted = record { value = v; found = there; now = now; none = nothing-published v.place last found };
}

pub stepped-absent : (r : Reply) (x : Refusal) (c : Command) (m n : Values) (p : PassSeen) → r ≡ reply.Refused x → n ≡ m → Stepped r c m p n p
stepped-absent r x c m n p is same = subst (λ (y : Reply). Stepped y c m p n p) (sym is) (same, refl)

-- a value w, which is v, was stored
pub loading : (r : Reply) (a b d : ℕ) (name : List ℕ) (m n : Values) (p q : PassSeen) (v w : Meaning) → w ≡ v → r ≡ reply.Counts a b d → n ≡ finite.insert m name w
    → ((es : List Event) × (sum_of publishes es ≡ 0) × Did es p q) → Keeps p (credits_in m + credit_in w) q (credits_in n) → IsSound n q
    → IsLoading r name v m p n q
loading r a b d name m n p q v w same is stored gone keeps sound =
    subst (λ (x : Meaning). IsLoading r name x m p n q) same (λ what start made did first.
    stepped-counts r a b d (command.Load name what) m start n q is (loaded name what m n start p q w made did first stored gone keeps sound))

-- the account of a session's step
pub step-accounted : (s : Shown) (workers : ℕ) (failed : Bool) (m : Values) (p : PassSeen) (r : Reply) (c : Command) (n : Values) (q : PassSeen)
    → record { values = m; workers = workers; failed = failed; pass = p } ≡ s → IsRunning workers failed m p → s.failed ≡ false → Stepped r c m p n q
    → Accounted s.values s.pass n q
step-accounted s workers failed m p r c n q is running whole stepped =
    subst (λ (x : Shown). Accounted x.values x.pass n q) is (accounted r c m p n q (running.sound (ap (λ (x : Shown). x.failed) is ∙ whole)) stepped)
