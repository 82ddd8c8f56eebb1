-- Lines that load, drop, compare and ask for places, where the pass shows a free slot and a credit: a value that was loaded and not asked
-- since is known to have no breadcrumbs, so the first question installs them.
use Rattle.std.proofs.Common.{◌≡◌, refl, sym, ap, ◌∙◌, subst, arith, Bool, true, false, true≢false, cond, ◌&&◌, not, IfSome, IsUtf8, ℕ, ◌≤◌, nat_le, chars, List, [], ◌∷◌, ◌++◌, length, Option, Some, None}
use Rattle.std.proofs.lemmas.Bool.{leb-true}
use Rattle.std.proofs.lemmas.Cmp.{eq_by_cmp_equiv}
use Rattle.std.proofs.lemmas.Str.{encodes-chars, IsUtf8-from_is_utf8}
use Rattle.std.specs.Cmp.Lexicographic.{slice_cmp, nat_list_cmp_total}
use Rattle.std.specs.Ordering.{nat_cmp, eq_by_cmp}
use Rattle.std.specs.Option.{unwrap_or}
use Rattle.std.specs.FinMap as finite
use Rattle.std.specs.Str.{is_utf8}
use Rattle.std.specs.Str.Lossy.{utf8_valid_len}
use Rattle.text_spec.specs.Text.{utf8}
use Rattle.object_words.specs.Rows.{is_ascii, ascii_of, count_of}
use Rattle.slot_model.specs.declared.event.Event.{Event}
use Rattle.slot_table.specs.Owners.{HeapId, PassSeen}
use Rattle.slot_accounts.specs.Account.{Made, Shows, sum_of}
use Rattle.slot_accounts.specs.Counts.{installs}
use Rattle.slot_accounts.proofs.Beside.{Made-nothing}
use Rattle.slot_accounts.proofs.Counts.{Made-then}
use Rattle.slot_accounts.proofs.Doing.{sum_of-append}
use Rattle.str_value.specs.Meaning.{Meaning, Place, own, shared, fixed, credit_of, storage_of, bare_of, side_of, is_there}
use Rattle.str_value.specs.Learning.{MayLearn}
use Rattle.query_lines.specs.Commands.{command_of}
use Rattle.query_lines.specs.WellFormed.{IsWellFormed}
use Rattle.query_lines.specs.declared.command.Command.{Command}
use Rattle.query_lines.specs.declared.command.Command.TheVariants as command
use Rattle.query_lines.specs.declared.command.Content.{Content}
use Rattle.query_lines.specs.declared.command.Content.TheVariants as content
use Rattle.query_lines.specs.declared.reply.Refusal.TheVariants as refusal
use Rattle.query_lines.specs.declared.reply.Reply.{Reply}
use Rattle.query_lines.specs.declared.reply.Reply.TheVariants as reply
use Rattle.batch_workers.specs.Working.{IsToInstall, InstallsAt}
use Rattle.query_session.specs.Reply.{reply_to, load_reply, counts_of}
use Rattle.query_session.specs.State.{State, has_room, store, text_of}
use Rattle.query_session.specs.Steps.{Done}
use Rattle.query_session.specs.Values.{Values, texts_of}
use Rattle.query_session.proofs.Held.{text_in_use, one-text}
use Rattle.query_program.specs.Answers.{state_after_line}
use Rattle.query_program.specs.Runs.{DidRead}
use Rattle.query_program.specs.Use.{is_accepted, if_accepted, is_slot_load, needs_crumbs, fresh_after, asked_in, asked_from, IsAsking, AllAccepted}
use Rattle.query_program.specs.declared.limits.TheConstants.{CAPACITY_WORDS}
use Rattle.query_program.proofs.Doing.{accepted-done, refused-same}
use Rattle.query_program.proofs.Slots.{Showing}
use Rattle.query_program.proofs.Loading.{InNewSlot, bytes_in, in-new_slot}

both_first : (a b : Bool) → (a && b) ≡ true → a ≡ true
both_first true b h = refl
both_first false b h = absurd (true≢false (sym h))

both_second : (a b : Bool) → (a && b) ≡ true → b ≡ true
both_second true b h = h
both_second false b h = absurd (true≢false (sym h))

not-true : (a : Bool) → not a ≡ true → a ≡ false
not-true true h = absurd (true≢false (sym h))
not-true false h = refl

-- a value that is known to have no breadcrumbs, and may have them if its text is one that they are for
pub record Askable (v : Meaning) : Type 0 where
  pub bare : bare_of v.place ≡ true
  pub unknown : is_there (side_of v.place) ≡ false
  pub may : needs_crumbs (utf8 v.text) ≡ true → MayLearn v

abbrev pub FreshIn : Values → (List ℕ → Bool) → Type 0
FreshIn m fresh = (name : List ℕ) → fresh name ≡ true → IfSome (finite.get m name) Askable

-- ---- loads

load-accepted : (s : State) (name text : List ℕ) → is_accepted (load_reply s name text).0 ≡ true → (load_reply s name text).1 ≡ store s name text
load-accepted s name text h = by (has_room s name) h
  where
    by : (b : Bool) → is_accepted (cond {A = Reply × State} b (counts_of text, store s name text) (reply.Refused refusal.TooManyNames, s)).0 ≡ true
        → (cond {A = Reply × State} b (counts_of text, store s name text) (reply.Refused refusal.TooManyNames, s)).1 ≡ store s name text
    by true h = refl
    by false h = absurd (true≢false (sym h))

-- bytes that are loaded are a text, which the name has then
record IsStored (bytes : List ℕ) (t : State) (name : List ℕ) (s : State) : Type 0 where
  valid : IsUtf8 bytes
  now : t ≡ store s name (chars bytes)

stored : (what : Content) (name : List ℕ) (s t : State) → IsWellFormed (command.Load name what) → is_slot_load what ≡ true → is_accepted (reply_to s (command.Load name what)).0 ≡ true
    → t ≡ (reply_to s (command.Load name what)).1 → IsStored (bytes_in what) t name s
stored (content.Text bytes) name s t well h taken is = record { valid = well.1.text; now = is ∙ load-accepted s name (chars bytes) taken }
stored (content.Raw bytes) name s t well h taken is = by (is_utf8 bytes) refl taken is
  where
    by : (b : Bool) → is_utf8 bytes ≡ b → is_accepted (cond {A = Reply × State} b (load_reply s name (chars bytes)) (reply.Refused (refusal.NotUtf8 (utf8_valid_len bytes)), s)).0 ≡ true
        → t ≡ (cond {A = Reply × State} b (load_reply s name (chars bytes)) (reply.Refused (refusal.NotUtf8 (utf8_valid_len bytes)), s)).1 → IsStored bytes t name s
    by true e taken is = record { valid = IsUtf8-from_is_utf8 bytes e; now = is ∙ load-accepted s name (chars bytes) taken }
    by false e taken is = absurd (true≢false (sym taken))
stored (content.Units units) name s t well h taken is = absurd (true≢false (sym h))
stored (content.Literal number) name s t well h taken is = absurd (true≢false (sym h))

found-there : {V : Type 0} (m : finite.FinMap (slice_cmp nat_cmp) V) (k : List ℕ) (v : V) → finite.get (finite.insert m k v) k ≡ Some v
found-there m k v = finite.get-insert nat_list_cmp_total m k v k ∙ ap (λ b. cond b (Some v) (finite.get m k)) ((eq_by_cmp_equiv nat_list_cmp_total).refl k)

-- the value that was loaded has that text
text-stored : (m n : Values) (name text : List ℕ) (v : Meaning) → n ≡ finite.insert m name v → texts_of n ≡ store (texts_of m) name text → v.text ≡ text
text-stored m n name text v now texts =
    one-text v.text text (sym (text_in_use n name v (ap (λ (x : Values). finite.get x name) now ∙ found-there m name v))
    ∙ (ap (λ (x : State). finite.get x name) texts ∙ found-there (texts_of m) name text))

loaded-askable : (what : Content) (v : Meaning) → InNewSlot what v → IsUtf8 (bytes_in what) → v.text ≡ chars (bytes_in what) → Askable v
loaded-askable what v s valid text = record {
  bare = ap bare_of s.place ∙ s.bare;
  unknown = ap (λ (o : Place). is_there (side_of o)) s.place ∙ ap is_there s.side;
  may = λ h.
      let bytes = bytes_in what in
      let same : utf8 v.text ≡ bytes = ap utf8 text ∙ encodes-chars bytes valid in
      let needs : needs_crumbs bytes ≡ true = ap needs_crumbs (sym same) ∙ h in record {
        utf8 = ap storage_of s.row;
        not_ascii = ap ascii_of s.row ∙ not-true (is_ascii bytes) (both_second (nat_le 64 (length bytes)) (not (is_ascii bytes)) needs);
        long = let low = leb-true 64 (length bytes) (both_first (nat_le 64 (length bytes)) (not (is_ascii bytes)) needs) in let e : count_of v.row ≡ length bytes = ap count_of s.row in omega (arith, low, e);
        in_slot = ap credit_of s.place;
      };
}

-- ---- questions

installs-one : (o : Place) (text : List ℕ) (es : List Event) → InstallsAt o text es → 1 ≤ sum_of installs es
installs-one own text es h = absurd h
installs-one (shared r) text es h = let e : sum_of installs es ≡ 1 = ap (sum_of installs) h.1 in omega (arith, e)
installs-one (fixed l) text es h = absurd h

asks-done : (c : Command) (fresh : List ℕ → Bool) (m n : Values) (p q : PassSeen) → Shows p → p.heap.layout.capacity_words ≡ CAPACITY_WORDS → (d : Done c m p n q) → IsWellFormed c
    → texts_of n ≡ (reply_to (texts_of m) c).1 → is_accepted (reply_to (texts_of m) c).0 ≡ true → IsAsking c → FreshIn m fresh
    → (asked_in fresh (texts_of m) c ≤ sum_of installs d.events) × FreshIn n (fresh_after fresh c)
asks-done (command.Load k what) fresh m n p q shows same d well texts taken is all = (omega arith, each)
  where
    new : Askable d.acted.value
    new =
        let s = in-new_slot what p d.acted.between d.acted.value shows same is d.acted.made in
        let t = stored what k (texts_of m) (texts_of n) well is taken texts in
        loaded-askable what d.acted.value s t.valid (text-stored m n k (chars (bytes_in what)) d.acted.value d.acted.now t.now)

    each : FreshIn n (fresh_after fresh (command.Load k what))
    each name h = subst (λ (o : Option Meaning). IfSome o Askable) (sym (ap (λ (x : Values). finite.get x name) d.acted.now ∙ finite.get-insert nat_list_cmp_total m k d.acted.value name))
        (by (eq_by_cmp (slice_cmp nat_cmp) name k) h)
      where
        by : (e : Bool) → cond e true (fresh name) ≡ true → IfSome (cond e (Some d.acted.value) (finite.get m name)) Askable
        by true h = new
        by false h = all name h
asks-done (command.Copy to source) fresh m n p q shows same d well texts taken is all = absurd is
asks-done (command.Drop k) fresh m n p q shows same d well texts taken is all = (omega arith, each)
  where
    each : FreshIn n fresh
    each name h = subst (λ (o : Option Meaning). IfSome o Askable) (sym (ap (λ (x : Values). finite.get x name) d.acted.now ∙ finite.get-remove nat_list_cmp_total m k name))
        (by (eq_by_cmp (slice_cmp nat_cmp) name k))
      where
        by : (e : Bool) → IfSome (cond e None (finite.get m name)) Askable
        by true = tt
        by false = all name h
asks-done (command.Compare a b) fresh m n p q shows same d well texts taken is all = (omega arith, λ name h. subst (λ (x : Values). IfSome (finite.get x name) Askable) (sym d.acted.values) (all name h))
asks-done (command.On k ops) fresh m n p q shows same d well texts taken is all = (count (fresh k && needs_crumbs (utf8 (unwrap_or (text_of (texts_of m) k) []))) refl, each)
  where
    count : (b : Bool) → (fresh k && needs_crumbs (utf8 (unwrap_or (text_of (texts_of m) k) []))) ≡ b → cond b 1 0 ≤ sum_of installs d.events
    count false h = omega arith
    count true h =
        let r = d.acted in
        let first = both_first (fresh k) (needs_crumbs (utf8 (unwrap_or (text_of (texts_of m) k) []))) h in
        let ask : Askable r.before = subst (λ (o : Option Meaning). IfSome o Askable) r.found (all k first) in
        let text : unwrap_or (text_of (texts_of m) k) [] ≡ r.before.text = ap (λ o. unwrap_or o []) (text_in_use m k r.before r.found) in
        let needs = ap (λ t. needs_crumbs (utf8 t)) (sym text) ∙ both_second (fresh k) (needs_crumbs (utf8 (unwrap_or (text_of (texts_of m) k) []))) h in
        let to : IsToInstall p r.before = record { may = ask.may needs; shows = shows; bare = ask.bare; unknown = ask.unknown } in
        installs-one r.before.place r.before.text d.events (r.installed is.0 is.1 to)

    each : FreshIn n (fresh_after fresh (command.On k ops))
    each name h = subst (λ (o : Option Meaning). IfSome o Askable) (sym (ap (λ (x : Values). finite.get x name) d.acted.now ∙ finite.get-insert nat_list_cmp_total m k d.acted.after name))
        (by (eq_by_cmp (slice_cmp nat_cmp) name k) h)
      where
        by : (e : Bool) → cond e false (fresh name) ≡ true → IfSome (cond e (Some d.acted.after) (finite.get m name)) Askable
        by true h = absurd (true≢false (sym h))
        by false h = all name h
asks-done (command.Batch jobs) fresh m n p q shows same d well texts taken is all = absurd is

-- ---- lines

asks-line : (o : Option Command) (fresh : List ℕ → Bool) (m n : Values) (p q : PassSeen) → Shows p → p.heap.layout.capacity_words ≡ CAPACITY_WORDS → DidRead o m p n q
    → ((c : Command) → o ≡ Some c → is_accepted (reply_to (texts_of m) c).0 ≡ true → IsAsking c) → FreshIn m fresh
    → (es : List Event) × Made es p q × (if_accepted 0 (asked_in fresh) (texts_of m) o ≤ sum_of installs es) × FreshIn n (if_accepted fresh (λ s c. fresh_after fresh c) (texts_of m) o)
asks-line None fresh m n p q shows same d is all = ([], subst (Made [] p) (sym d.1) (Made-nothing p), omega arith, subst (λ (x : Values). FreshIn x fresh) (sym d.0) all)
asks-line (Some c) fresh m n p q shows same d is all = by (is_accepted (reply_to (texts_of m) c).0) refl
  where
    by : (b : Bool) → is_accepted (reply_to (texts_of m) c).0 ≡ b
        → (es : List Event) × Made es p q × (cond b (asked_in fresh (texts_of m) c) 0 ≤ sum_of installs es) × FreshIn n (cond b (fresh_after fresh c) fresh)
    by true h =
        let x = accepted-done (reply_to (texts_of m) c).0 c m n p q h d.stepped in
        let t = asks-done c fresh m n p q shows same x d.well_formed d.texts h (is c refl h) all in (x.events, x.made, t.0, t.1)
    by false h =
        let x = refused-same (reply_to (texts_of m) c).0 c m n p q h d.stepped in
        ([], subst (Made [] p) (sym x.1) (Made-nothing p), omega arith, subst (λ (y : Values). FreshIn y fresh) (sym x.0) all)

pub asks-lines : (z : HeapId) (ls : List (List ℕ)) (fresh : List ℕ → Bool) (m n : Values) (p q : PassSeen) → z.layout.capacity_words ≡ CAPACITY_WORDS → Showing z ls m p n q
    → AllAccepted IsAsking (texts_of m) ls → FreshIn m fresh → (es : List Event) × Made es p q × (asked_from fresh (texts_of m) ls ≤ sum_of installs es)
asks-lines z [] fresh m n p q same d is all = ([], subst (Made [] p) (sym d.1) (Made-nothing p), omega arith)
asks-lines z (line ∷ ls) fresh m n p q same d is all =
    let next : List ℕ → Bool = if_accepted fresh (λ s c. fresh_after fresh c) (texts_of m) (command_of line) in
    let here = asks-line (command_of line) fresh m d.0 p d.1 d.2 (ap (λ (h : HeapId). h.layout.capacity_words) d.3 ∙ same) d.4.done is.0 all in
    let rest = asks-lines z ls next d.0 n d.1 q same d.5 (subst (λ (s : State). AllAccepted IsAsking s ls) (sym d.4.state) is.1) here.3 in
    let e : asked_from next (state_after_line (texts_of m) line) ls ≡ asked_from next (texts_of d.0) ls = ap (λ (s : State). asked_from next s ls) (sym d.4.state) in
    let x = here.2 in
    let y = rest.2 in
    let s = sum_of-append installs here.0 rest.0 in
    (here.0 ++ rest.0, Made-then here.1 rest.1, omega (arith, e, x, y, s))
