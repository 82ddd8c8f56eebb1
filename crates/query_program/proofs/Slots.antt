-- At each moment of a run the pass shows a free slot and a credit, as the whole history tells at its end.
use Rattle.std.proofs.Common.{◌≡◌, refl, sym, ap, ◌∙◌, subst, arith, Bool, true, false, true≢false, cond, MatchBool, ℕ, ◌+◌, ◌*◌, ◌<◌, ◌≤◌, nat_lt, map, List, [], ◌∷◌, ◌++◌, length, Option, Some, None}
use Rattle.std.specs.FinMap as finite
use Rattle.std.specs.Str.{bytes_eq}
use Rattle.slot_model.specs.declared.event.Event.{Event}
use Rattle.slot_model.specs.declared.layout.Layout.{Layout}
use Rattle.slot_model.specs.History.{Legal}
use Rattle.slot_table.specs.Owners.{HeapId, PassSeen}
use Rattle.slot_accounts.specs.Account.{Made, Keeps, Shows, sum_of}
use Rattle.slot_accounts.specs.Counts.{IsComplete, publishes}
use Rattle.slot_accounts.proofs.Doing.{sum_of-append}
use Rattle.slot_accounts.proofs.Counts.{Made-then}
use Rattle.slot_accounts.proofs.Complete.{complete_before, slots_left}
use Rattle.slot_accounts.proofs.Slots.{legal_front}
use Rattle.str_value.specs.Meaning.{Place, own, shared, fixed}
use Rattle.str_value.specs.Making.{making}
use Rattle.str_value.specs.Copying.{copying}
use Rattle.query_lines.specs.Commands.{command_of}
use Rattle.query_lines.specs.declared.command.Command.{Command}
use Rattle.query_lines.specs.declared.command.Command.TheVariants as command
use Rattle.query_lines.specs.declared.command.JobLine.{JobLine}
use Rattle.query_lines.specs.declared.reply.OpReply.{OpReply}
use Rattle.query_lines.specs.declared.reply.Refusal.TheVariants as refusal
use Rattle.query_lines.specs.declared.reply.Reply.{Reply}
use Rattle.query_lines.specs.declared.reply.Reply.TheVariants as reply
use Rattle.batch_workers.specs.Ops.{op_replies}
use Rattle.batch_workers.specs.Working.{edits_of}
use Rattle.batch_workers.specs.Batch.{edits_in}
use Rattle.batch_workers.specs.declared.jobs.Done.{Done as JobDone}
use Rattle.query_session.specs.Batching.{batch_reply, job_replies, first_unused, state_kept}
use Rattle.query_session.specs.Reply.{reply_to, on_reply}
use Rattle.query_session.specs.State.{State, text_of, name_limit}
use Rattle.query_session.specs.Steps.{Done, CopiedTo, Unmoved}
use Rattle.query_session.specs.Values.{Values, texts_of, credits_in}
use Rattle.query_session.proofs.Batching.{replies-done}
use Rattle.query_session.proofs.Held.{text_in_use}
use Rattle.query_session.proofs.Sums.{credits_in_few}
use Rattle.query_program.specs.Answers.{state_after_line}
use Rattle.query_program.specs.Runs.{DidRead, LineDone, LinesDone}
use Rattle.query_program.specs.Use.{is_accepted, if_accepted, edits_told, new_texts_in, new_texts}
use Rattle.query_program.proofs.Doing.{accepted-done, refused-same, lines-made}

-- ---- how many events publish

making-few : (o : Place) → sum_of publishes (making o) ≤ 1
making-few own = omega arith
making-few (shared r) = omega arith
making-few (fixed l) = omega arith

copying-none : (o c : Place) → sum_of publishes (copying o c) ≡ 0
copying-none own c = refl
copying-none (fixed l) c = refl
copying-none (shared r) own = refl
copying-none (shared r) (fixed l) = refl
copying-none (shared r) (shared x) = refl

-- a batch that is accepted names only what is in use, and answers each job
pub batch-accepted : (s : State) (jobs : List JobLine) (o : Option (List ℕ)) → is_accepted (batch_reply s jobs o).0 ≡ true
    → (o ≡ None) × ((batch_reply s jobs o).0 ≡ reply.Jobs (map (job_replies s (length jobs)) jobs))
batch-accepted s jobs (Some name) h = absurd (true≢false (sym h))
batch-accepted s jobs None h = (refl, by (nat_lt name_limit (finite.len (state_kept s jobs))) h)
  where
    by : (b : Bool) → is_accepted (cond {A = Reply × State} b (reply.Refused refusal.TooManyNames, s) (reply.Jobs (map (job_replies s (length jobs)) jobs), state_kept s jobs)).0 ≡ true
        → (cond {A = Reply × State} b (reply.Refused refusal.TooManyNames, s) (reply.Jobs (map (job_replies s (length jobs)) jobs), state_kept s jobs)).0 ≡ reply.Jobs (map (job_replies s (length jobs)) jobs)
    by true h = absurd (true≢false (sym h))
    by false h = refl

edits-map : (done : List JobDone) → edits_in done ≡ sum_of (λ (replies : List OpReply). sum_of edits_of replies) (map (λ (d : JobDone). d.replies) done)
edits-map [] = refl
edits-map (d ∷ done) = ap (λ (n : ℕ). sum_of edits_of d.replies + n) (edits-map done)

few-new : (c : Command) (m n : Values) (p q : PassSeen) (d : Done c m p n q) → is_accepted (reply_to (texts_of m) c).0 ≡ true → sum_of publishes d.events ≤ new_texts_in (texts_of m) c
few-new (command.Load name what) m n p q d h =
    let l = d.acted in
    let a = making-few l.value.place in
    let b = l.none in
    let s : sum_of publishes d.events ≡ sum_of publishes (making l.value.place) + sum_of publishes l.rest = ap (sum_of publishes) l.events_are ∙ sum_of-append publishes (making l.value.place) l.rest in
    omega (arith, a, b, s)
few-new (command.Copy to source) m n p q d h = by (bytes_eq to source) d.acted
  where
    by : (b : Bool) → MatchBool b (Unmoved m p n q d.events) (CopiedTo m to source p n d.events) → sum_of publishes d.events ≤ new_texts_in (texts_of m) (command.Copy to source)
    by true u = let s : sum_of publishes d.events ≡ 0 = ap (sum_of publishes) u.events in omega (arith, s)
    by false k =
        let s : sum_of publishes d.events ≡ sum_of publishes (copying k.before.place k.value.place) + sum_of publishes k.rest =
        ap (sum_of publishes) k.events_are ∙ sum_of-append publishes (copying k.before.place k.value.place) k.rest in
        let a = copying-none k.before.place k.value.place in
        let b = k.none in omega (arith, s, a, b)
few-new (command.Drop name) m n p q d h = let a = d.acted.none in omega (arith, a)
few-new (command.Compare a b) m n p q d h = let s : sum_of publishes d.events ≡ 0 = ap (sum_of publishes) d.acted.events in omega (arith, s)
few-new (command.On name ops) m n p q d h =
    let r = d.acted in
    let f = r.published in
    let e : edits_told (on_reply (texts_of m) name ops (text_of (texts_of m) name)).0 ≡ sum_of edits_of (op_replies r.before.text 0 ops) =
    ap (λ (o : Option (List ℕ)). edits_told (on_reply (texts_of m) name ops o).0) (text_in_use m name r.before r.found) in
    omega (arith, f, e)
few-new (command.Batch jobs) m n p q d h =
    let b = d.acted in
    let f = b.published in
    let e : edits_told (batch_reply (texts_of m) jobs (first_unused (texts_of m) jobs)).0 ≡ sum_of (λ (replies : List OpReply). sum_of edits_of replies) (map (job_replies (texts_of m) (length jobs)) jobs) =
    ap edits_told (batch-accepted (texts_of m) jobs (first_unused (texts_of m) jobs) h).1 in
    let x : edits_in b.done ≡ sum_of (λ (replies : List OpReply). sum_of edits_of replies) (map (job_replies (texts_of m) (length jobs)) jobs) =
    edits-map b.done ∙ ap (sum_of (λ (replies : List OpReply). sum_of edits_of replies))
    (replies-done (texts_of m) (length jobs) m b.middle p b.between b.between jobs b.work b.done refl b.copied b.worked) in
    omega (arith, f, e, x)

-- ---- what is known of a run at each moment, whatever comes

pub record Before (start : PassSeen) (m : Values) (p : PassSeen) (count : ℕ) : Type 0 where
  pub events : List Event
  pub made : Made events start p
  pub few : sum_of publishes events ≤ count
  pub keeps : Keeps start 0 p (credits_in m)
  pub names : finite.len m ≤ 256

before-same : (start : PassSeen) (m n : Values) (p q : PassSeen) (count : ℕ) → Before start m p count → n ≡ m → q ≡ p → Before start n q (count + 0)
before-same start m n p q count b same still = record {
  events = b.events;
  made = subst (Made b.events start) (sym still) b.made;
  few = let f = b.few in omega (arith, f);
  keeps = subst (λ (x : PassSeen × Values). Keeps start 0 x.0 (credits_in x.1)) (λ i. (sym still i, sym same i)) b.keeps;
  names = subst (λ (x : Values). finite.len x ≤ 256) (sym same) b.names;
}

before-line : (start : PassSeen) (m n : Values) (p q : PassSeen) (count : ℕ) (o : Option Command) → Before start m p count → DidRead o m p n q
    → Before start n q (count + if_accepted 0 new_texts_in (texts_of m) o)
before-line start m n p q count None b d = before-same start m n p q count b d.0 d.1
before-line start m n p q count (Some c) b d = by (is_accepted (reply_to (texts_of m) c).0) refl
  where
    by : (a : Bool) → is_accepted (reply_to (texts_of m) c).0 ≡ a → Before start n q (count + cond a (new_texts_in (texts_of m) c) 0)
    by true h =
        let x = accepted-done (reply_to (texts_of m) c).0 c m n p q h d.stepped in record {
          events = b.events ++ x.events;
          made = Made-then b.made x.made;
          few = let t = sum_of-append publishes b.events x.events in let f = few-new c m n p q x h in let g = b.few in omega (arith, t, f, g);
          keeps = let y = b.keeps in let z = x.credits in omega (arith, y, z);
          names = x.sound.few;
        }
    by false h = let x = refused-same (reply_to (texts_of m) c).0 c m n p q h d.stepped in before-same start m n p q count b x.0 x.1

-- the lines were done, and before each of them the pass showed a free slot and a credit
abbrev pub Showing : HeapId → List (List ℕ) → Values → PassSeen → Values → PassSeen → Type 0
Showing z [] m p n q = (n ≡ m) × (q ≡ p)
Showing z (line ∷ more) m p n q = (k : Values) × (r : PassSeen) × Shows p × (p.heap ≡ z) × LineDone line m p k r × Showing z more k r n q

pub showing : (fits : List ℕ → List ℕ → Type 0) (layout : Layout) (ls : List (List ℕ)) (start : PassSeen) (m n : Values) (p q : PassSeen) (count : ℕ) → start.places ≡ []
    → Before start m p count → LinesDone ls m p n q → IsComplete q → Legal fits layout q.front
    → 2 * (count + new_texts (texts_of m) ls) < length start.free → 257 < start.credits → Showing start.heap ls m p n q
showing fits layout [] start m n p q count none b d full legal within credits = d
showing fits layout (l ∷ ls) start m n p q count none b d full legal within credits =
    let all = lines-made (l ∷ ls) m n p q d in
    let complete : IsComplete p = complete_before none b.made all.1 full in
    let lawful : Legal fits layout p.front = legal_front fits layout p.front q.front all.1.grown legal in
    let e : new_texts (state_after_line (texts_of m) l) ls ≡ new_texts (texts_of d.0) ls = ap (λ (s : State). new_texts s ls) (sym d.2.state) in (
      d.0,
      d.1,
      record {
        a_slot = let left = slots_left fits layout none b.made complete lawful in let f = b.few in omega (arith, left, f, within);
        a_credit = let x = b.keeps in let y = credits_in_few m in let z = b.names in omega (arith, x, y, z, credits);
      },
      b.made.one_heap,
      d.2,
      showing fits layout ls start d.0 n d.1 q (count + if_accepted 0 new_texts_in (texts_of m) (command_of l)) none (before-line start m d.0 p d.1 count (command_of l) b d.2.done) d.3 full legal
          (omega (arith, within, e)) credits,
    )
