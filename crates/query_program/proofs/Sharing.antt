-- Lines that load, copy, drop, compare and do batches, where the pass shows a free slot and a credit: every value stands in a slot, and one
-- reference is taken for each that shares one.
use Rattle.std.proofs.Common.{◌≡◌, refl, sym, ap, ◌∙◌, subst, arith, Bool, true, false, true≢false, cond, MatchBool, IfSome, is_some, inl, inr, ℕ, ◌+◌, ◌≤◌, List, [], ◌∷◌, ◌++◌, length, Option, Some, None}
use Rattle.std.proofs.lemmas.List.Elements.{recursion_from_All}
use Rattle.std.specs.List.{AllByRecursion}
use Rattle.std.specs.Cmp.Lexicographic.{slice_cmp, nat_list_cmp_total}
use Rattle.std.specs.Ordering.{nat_cmp, eq_by_cmp}
use Rattle.std.specs.FinMap as finite
use Rattle.std.specs.Str.{bytes_eq}
use Rattle.slot_model.specs.declared.event.Event.{Event}
use Rattle.slot_table.specs.Owners.{HeapId, PassSeen}
use Rattle.slot_accounts.specs.Account.{Made, Shows, sum_of}
use Rattle.slot_accounts.specs.Counts.{retains}
use Rattle.slot_accounts.proofs.Beside.{Made-nothing}
use Rattle.slot_accounts.proofs.Counts.{Made-then}
use Rattle.slot_accounts.proofs.Doing.{sum_of-append}
use Rattle.str_value.specs.Meaning.{Meaning, Place, own, shared, fixed, credit_of}
use Rattle.str_value.specs.Copying.{CopiedAt, copying}
use Rattle.query_lines.specs.Commands.{command_of}
use Rattle.query_lines.specs.declared.command.Command.{Command}
use Rattle.query_lines.specs.declared.command.Command.TheVariants as command
use Rattle.query_lines.specs.declared.command.JobLine.{JobLine}
use Rattle.batch_workers.specs.declared.jobs.Job.{Job}
use Rattle.batch_workers.specs.declared.jobs.Done.{Done as JobDone}
use Rattle.query_session.specs.Batched.{EachCopied, values_kept, credits_read}
use Rattle.query_session.specs.Batching.{first_unused}
use Rattle.query_session.specs.Copied.{CopiedIn}
use Rattle.query_session.specs.Keeping.{kept, under}
use Rattle.query_session.specs.Reply.{reply_to}
use Rattle.query_session.specs.State.{State}
use Rattle.query_session.specs.Steps.{Done, CopiedTo, Unmoved}
use Rattle.query_session.specs.Values.{Values, texts_of, weight}
use Rattle.query_session.proofs.Copying.{unused-head}
use Rattle.query_session.proofs.Sums.{has-texts}
use Rattle.query_program.specs.Answers.{state_after_line}
use Rattle.query_program.specs.Runs.{DidRead}
use Rattle.query_program.specs.Use.{is_accepted, if_accepted, shared_in, IsSharing, AllAccepted}
use Rattle.query_program.specs.Use as use_
use Rattle.query_program.specs.declared.limits.TheConstants.{CAPACITY_WORDS}
use Rattle.query_program.proofs.Doing.{accepted-done, refused-same}
use Rattle.query_program.proofs.Slots.{Showing, batch-accepted}
use Rattle.query_program.proofs.Loading.{in-new_slot}

abbrev pub InSlot : Place → Type 0
InSlot own = ⊥
InSlot (shared r) = Unit {0}
InSlot (fixed l) = ⊥

-- every value stands in a slot
abbrev pub AllInSlots : Values → Type 0
AllInSlots m = (name : List ℕ) → IfSome (finite.get m name) (λ (v : Meaning). InSlot v.place)

slots-insert : (m : Values) (k : List ℕ) (v : Meaning) → AllInSlots m → InSlot v.place → AllInSlots (finite.insert m k v)
slots-insert m k v all is name =
    subst (λ (o : Option Meaning). IfSome o (λ (w : Meaning). InSlot w.place)) (sym (finite.get-insert nat_list_cmp_total m k v name)) (by (eq_by_cmp (slice_cmp nat_cmp) name k))
  where
    by : (b : Bool) → IfSome (cond b (Some v) (finite.get m name)) (λ (w : Meaning). InSlot w.place)
    by true = is
    by false = all name

slots-remove : (m : Values) (k : List ℕ) → AllInSlots m → AllInSlots (finite.remove m k)
slots-remove m k all name =
    subst (λ (o : Option Meaning). IfSome o (λ (w : Meaning). InSlot w.place)) (sym (finite.get-remove nat_list_cmp_total m k name)) (by (eq_by_cmp (slice_cmp nat_cmp) name k))
  where
    by : (b : Bool) → IfSome (cond b None (finite.get m name)) (λ (w : Meaning). InSlot w.place)
    by true = tt
    by false = all name

slot-found : (m : Values) (name : List ℕ) (v : Meaning) → AllInSlots m → finite.get m name ≡ Some v → InSlot v.place
slot-found m name v all found = subst (λ (o : Option Meaning). IfSome o (λ (w : Meaning). InSlot w.place)) found (all name)

-- ---- copies

-- a value stays in its slot when it is copied
stays : (p q : PassSeen) (s t c : Meaning) → InSlot s.place → CopiedAt s.place p s q t c → InSlot t.place
stays p q s t c is k = by s.place refl is k
  where
    by : (o : Place) → s.place ≡ o → InSlot o → CopiedAt o p s q t c → InSlot t.place
    by own e is k = absurd is
    by (fixed l) e is k = absurd is
    by (shared r) e is (inl k) = subst InSlot (sym (ap (λ (x : Meaning). x.place) k.value)) tt
    by (shared r) e is (inr k) = subst InSlot (sym (ap (λ (x : Meaning). x.place) k.2 ∙ e)) tt

-- and its copy is in the same slot, by a reference that is taken, where the pass shows a credit
record IsOneMore (s c : Meaning) : Type 0 where
  in_slot : InSlot c.place
  taken : sum_of retains (copying s.place c.place) ≡ 1

one-more : (p q : PassSeen) (s t c : Meaning) → Shows p → InSlot s.place → CopiedAt s.place p s q t c → IsOneMore s c
one-more p q s t c shows is k = by s.place refl is k
  where
    by : (o : Place) → s.place ≡ o → InSlot o → CopiedAt o p s q t c → IsOneMore s c
    by own e is k = absurd is
    by (fixed l) e is k = absurd is
    by (shared r) e is (inl k) = record {
      in_slot = subst InSlot (sym (ap (λ (x : Meaning). x.place) k.copy)) tt;
      taken = λ i. sum_of retains (copying (e i) (k.copy i).place);
    }
    by (shared r) e is (inr k) = absurd (let a = k.0 in let b = shows.a_credit in let z : ⊥ = omega (arith, a, b) in z)

-- ---- batches

each-in_slots : (m n : Values) (p q : PassSeen) (jobs : List JobLine) (work : List Job) → EachCopied m p jobs n q work → AllInSlots m → AllInSlots n
each-in_slots m n p q [] [] e all = subst AllInSlots (sym e.0) all
each-in_slots m n p q [] (w ∷ work) e all = absurd e
each-in_slots m n p q (j ∷ jobs) [] e all = absurd e
each-in_slots m n p q (j ∷ jobs) (w ∷ work) e all =
    let k : CopiedIn m j.name p e.0 e.1 w.value = e.2 in
    let here = stays p e.1 k.before k.after w.value (slot-found m j.name k.before all k.found) k.copied in
    each-in_slots e.0 n e.1 q jobs work e.4 (subst AllInSlots (sym k.now) (slots-insert m j.name k.after all here))

-- nothing is kept
none-kept : (m : Values) (jobs : List JobLine) (done : List JobDone) → AllByRecursion (λ (j : JobLine). j.keep ≡ None) jobs → kept m (values_kept jobs done) ≡ m
none-kept m [] done h = refl
none-kept m (j ∷ jobs) [] h = refl
none-kept m (j ∷ jobs) (d ∷ done) h = ap (λ (o : Option (List ℕ)). kept (under m o d.value) (values_kept jobs done)) h.0 ∙ none-kept m jobs done h.1

one-credit : (o : Option Meaning) → IfSome o (λ (v : Meaning). InSlot v.place) → is_some o ≡ true → weight o ≡ 1
one-credit None is there = absurd (true≢false (sym there))
one-credit (Some v) is there = by v.place is
  where
    by : (o : Place) → InSlot o → credit_of o ≡ 1
    by own is = absurd is
    by (shared r) is = refl
    by (fixed l) is = absurd is

-- each job's name is in use, and its value holds a credit
all-read : (m : Values) (jobs : List JobLine) → AllInSlots m → first_unused (texts_of m) jobs ≡ None → credits_read m jobs ≡ length jobs
all-read m [] all named = refl
all-read m (j ∷ jobs) all named =
    let u = unused-head (texts_of m) j jobs named in
    let one = one-credit (finite.get m j.name) (all j.name) (sym (has-texts m j.name) ∙ u.0) in
    let rest = all-read m jobs all u.1 in omega (arith, one, rest)

-- ---- commands

shares-done : (c : Command) (m n : Values) (p q : PassSeen) → Shows p → p.heap.layout.capacity_words ≡ CAPACITY_WORDS → (d : Done c m p n q)
    → is_accepted (reply_to (texts_of m) c).0 ≡ true → IsSharing c → AllInSlots m → (shared_in c ≤ sum_of retains d.events) × AllInSlots n
shares-done (command.Load name what) m n p q shows same d taken is all =
    let a = d.acted in
    let s = in-new_slot what p a.between a.value shows same is a.made in
    (omega arith, subst AllInSlots (sym a.now) (slots-insert m name a.value all (subst InSlot (sym s.place) tt)))
shares-done (command.Copy to source) m n p q shows same d taken is all = by (bytes_eq to source) d.acted
  where
    by : (b : Bool) → MatchBool b (Unmoved m p n q d.events) (CopiedTo m to source p n d.events) → (cond b 0 1 ≤ sum_of retains d.events) × AllInSlots n
    by true u = (omega arith, subst AllInSlots (sym u.values) all)
    by false k =
        let from = slot-found m source k.before all k.found in
        let one = one-more p k.between k.before k.after k.value shows from k.copied in
        let s : sum_of retains d.events ≡ sum_of retains (copying k.before.place k.value.place) + sum_of retains k.rest =
        ap (sum_of retains) k.events_are ∙ sum_of-append retains (copying k.before.place k.value.place) k.rest in
        let t = one.taken in
        let middle = slots-insert m source k.after all (stays p k.between k.before k.after k.value from k.copied) in
        (omega (arith, s, t), subst AllInSlots (sym k.now) (slots-insert (finite.insert m source k.after) to k.value middle one.in_slot))
shares-done (command.Drop name) m n p q shows same d taken is all = (omega arith, subst AllInSlots (sym d.acted.now) (slots-remove m name all))
shares-done (command.Compare a b) m n p q shows same d taken is all = (omega arith, subst AllInSlots (sym d.acted.values) all)
shares-done (command.On name ops) m n p q shows same d taken is all = absurd is
shares-done (command.Batch jobs) m n p q shows same d taken is all =
    let b = d.acted in
    let named = (batch-accepted (texts_of m) jobs (first_unused (texts_of m) jobs) taken).0 in
    let read = all-read m jobs all named in
    let r = b.retained in
    let nothing : n ≡ b.middle = b.now ∙ none-kept b.middle jobs b.done (recursion_from_All (λ (j : JobLine). j.keep ≡ None) jobs is) in
    (omega (arith, read, r), subst AllInSlots (sym nothing) (each-in_slots m b.middle p b.between jobs b.work b.copied all))

-- ---- lines

shares-line : (o : Option Command) (m n : Values) (p q : PassSeen) → Shows p → p.heap.layout.capacity_words ≡ CAPACITY_WORDS → DidRead o m p n q
    → ((c : Command) → o ≡ Some c → is_accepted (reply_to (texts_of m) c).0 ≡ true → IsSharing c) → AllInSlots m
    → (es : List Event) × Made es p q × (if_accepted 0 (λ s c. shared_in c) (texts_of m) o ≤ sum_of retains es) × AllInSlots n
shares-line None m n p q shows same d is all = ([], subst (Made [] p) (sym d.1) (Made-nothing p), omega arith, subst AllInSlots (sym d.0) all)
shares-line (Some c) m n p q shows same d is all = by (is_accepted (reply_to (texts_of m) c).0) refl
  where
    by : (b : Bool) → is_accepted (reply_to (texts_of m) c).0 ≡ b → (es : List Event) × Made es p q × (cond b (shared_in c) 0 ≤ sum_of retains es) × AllInSlots n
    by true h =
        let x = accepted-done (reply_to (texts_of m) c).0 c m n p q h d.stepped in
        let t = shares-done c m n p q shows same x h (is c refl h) all in (x.events, x.made, t.0, t.1)
    by false h =
        let x = refused-same (reply_to (texts_of m) c).0 c m n p q h d.stepped in
        ([], subst (Made [] p) (sym x.1) (Made-nothing p), omega arith, subst AllInSlots (sym x.0) all)

pub shares-lines : (z : HeapId) (ls : List (List ℕ)) (m n : Values) (p q : PassSeen) → z.layout.capacity_words ≡ CAPACITY_WORDS → Showing z ls m p n q
    → AllAccepted IsSharing (texts_of m) ls → AllInSlots m → (es : List Event) × Made es p q × (use_.shared (texts_of m) ls ≤ sum_of retains es)
shares-lines z [] m n p q same d is all = ([], subst (Made [] p) (sym d.1) (Made-nothing p), omega arith)
shares-lines z (line ∷ ls) m n p q same d is all =
    let here = shares-line (command_of line) m d.0 p d.1 d.2 (ap (λ (h : HeapId). h.layout.capacity_words) d.3 ∙ same) d.4.done is.0 all in
    let rest = shares-lines z ls d.0 n d.1 q same d.5 (subst (λ (s : State). AllAccepted IsSharing s ls) (sym d.4.state) is.1) here.3 in
    let e : use_.shared (state_after_line (texts_of m) line) ls ≡ use_.shared (texts_of d.0) ls = ap (λ (s : State). use_.shared s ls) (sym d.4.state) in
    let x = here.2 in
    let y = rest.2 in
    let s = sum_of-append retains here.0 rest.0 in
    (here.0 ++ rest.0, Made-then here.1 rest.1, omega (arith, e, x, y, s))
