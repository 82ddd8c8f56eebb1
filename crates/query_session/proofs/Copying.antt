-- Copies of the values of names, one after another.
use Rattle.std.proofs.Common.{◌≡◌, ℕ, ◌+◌, ◌<◌, ◌≤◌, All, Bool, true, false, cond, List, [], ◌∷◌, ◌++◌, length, Some, None, inl, inr, refl, sym, ap, ◌∙◌, subst, arith, append_assoc, append-nil, length-append}
use Rattle.std.proofs.lemmas.List.{map-append}
use Rattle.std.proofs.lemmas.List.Elements.{All-nil, All-push, All-weaker, All-head, All-rest}
use Rattle.std.specs.Cmp.Lexicographic.{nat_list_cmp_total}
use Rattle.std.specs.FinMap as finite
use Rattle.slot_table.specs.Owners.{PassSeen}
use Rattle.slot_accounts.specs.Account.{Keeps, sum_of}
use Rattle.slot_accounts.specs.Counts.{publishes, retains}
use Rattle.slot_accounts.proofs.Doing.{Did-nothing, Did-then, sum_of-append}
use Rattle.str_value.specs.Meaning.{Meaning, Place, own, shared, fixed, OfHeap, credit_of}
use Rattle.str_value.specs.Copying.{CopiedAt, copying}
use Rattle.str_value.proofs.Crumbing.{of_heap-moves}
use Rattle.query_lines.specs.declared.command.JobLine.{JobLine}
use Rattle.query_lines.specs.WellFormed.{IsWellFormedOp, IsWellFormedJob}
use Rattle.batch_workers.specs.declared.jobs.Job.{Job}
use Rattle.batch_workers.specs.Batch.{IsFit, credits_before}
use Rattle.query_session.specs.State.{State, is_in_use}
use Rattle.query_session.specs.Values.{Values, IsSound, HasEnough, texts_of, credits_in, credit_in, weight, job_limit}
use Rattle.query_session.specs.Copied.{CopiedIn}
use Rattle.query_session.specs.Batched.{EachCopied}
use Rattle.query_session.specs.Batching.{first_unused}
use Rattle.query_session.specs.Copies.{Copies, Keep, keep_bytes}
use Rattle.query_session.proofs.States.{alike, one-name}
use Rattle.query_session.proofs.Sums.{credits_in_few, at_most_one}
use Rattle.query_session.proofs.Texts.{copied-texts}

-- ---- one copy

-- where the pass shows a credit, one reference is taken for a value that holds one, and the value holds what it held
record IsCopy (s t c : Meaning) : Type 0 where
  taken : sum_of retains (copying s.place c.place) ≡ credit_in s
  published : sum_of publishes (copying s.place c.place) ≡ 0
  held : credit_in t ≡ credit_in s

is_copy : (p : PassSeen) (s : Meaning) (q : PassSeen) (t c : Meaning) → CopiedAt s.place p s q t c → 1 < p.credits → IsCopy s t c
is_copy p s q t c copied some = by s.place refl copied
  where
    by : (o : Place) → s.place ≡ o → CopiedAt o p s q t c → IsCopy s t c
    by own is k = record {
      taken = (λ i. sum_of retains (copying (is i) c.place)) ∙ sym (ap credit_of is);
      published = λ i. sum_of publishes (copying (is i) c.place);
      held = ap credit_in k.1;
    }
    by (fixed l) is k = record {
      taken = (λ i. sum_of retains (copying (is i) c.place)) ∙ sym (ap credit_of is);
      published = λ i. sum_of publishes (copying (is i) c.place);
      held = ap credit_in k.1;
    }
    by (shared r) is (inl k) = record {
      taken = (λ i. sum_of retains (copying (is i) (k.copy i).place)) ∙ sym (ap credit_of is);
      published = λ i. sum_of publishes (copying (is i) (k.copy i).place);
      held = ap credit_in k.value ∙ sym (ap credit_of is);
    }
    by (shared r) is (inr k) = absurd (let one = k.0 in let z : ⊥ = omega (arith, one, some) in z)

-- ---- each copy

pub each_copied-snoc : (m n t : Values) (p q r : PassSeen) (lines : List JobLine) (jobs : List Job) (line : JobLine) (job : Job) → EachCopied m p lines n q jobs
    → CopiedIn n line.name q t r job.value → job.ops ≡ line.ops → EachCopied m p (lines ++ line ∷ []) t r (jobs ++ job ∷ [])
each_copied-snoc m n t p q r [] [] line job e c ops =
    (t, r, subst (λ (x : Values). CopiedIn x line.name p t r job.value) e.0 (subst (λ (x : PassSeen). CopiedIn n line.name x t r job.value) e.1 c), ops, (refl, refl))
each_copied-snoc m n t p q r [] (j ∷ jobs) line job e c ops = absurd e
each_copied-snoc m n t p q r (l ∷ lines) [] line job e c ops = absurd e
each_copied-snoc m n t p q r (l ∷ lines) (j ∷ jobs) line job e c ops =
    (e.0, e.1, e.2, e.3, each_copied-snoc e.0 n t e.1 q r lines jobs line job e.4 c ops)

pub length-each_copied : (m n : Values) (p q : PassSeen) (lines : List JobLine) (jobs : List Job) → EachCopied m p lines n q jobs → length jobs ≡ length lines
length-each_copied m n p q [] [] e = refl
length-each_copied m n p q [] (j ∷ jobs) e = absurd e
length-each_copied m n p q (l ∷ lines) [] e = absurd e
length-each_copied m n p q (l ∷ lines) (j ∷ jobs) e = let t = length-each_copied e.0 n e.1 q lines jobs e.4 in omega (arith, t)

few_credits : (jobs : List Job) → credits_before jobs ≤ length jobs
few_credits [] = omega arith
few_credits (j ∷ jobs) = let a = at_most_one j.value in let t = few_credits jobs in omega (arith, a, t)

pub copies_none : (m : Values) (p : PassSeen) → IsSound m p → Copies m p [] m p [] []
copies_none m p sound = record {
  copied = (refl, refl);
  events = [];
  did = Did-nothing p;
  published = refl;
  retained = refl;
  texts = refl;
  same = λ name. refl;
  sound = sound;
  credits = omega arith;
  fit = All-nil (IsFit p);
  names = refl;
}

fit-moves : (p q : PassSeen) → q.heap ≡ p.heap → (jobs : List Job) → All (IsFit p) jobs → All (IsFit q) jobs
fit-moves p q same jobs all = All-weaker (IsFit p) (IsFit q) (λ j f. record { heap = of_heap-moves p q j.value.place same f.heap; well_formed = f.well_formed }) jobs all

pub copies_more : (m n t : Values) (p q r : PassSeen) (lines : List JobLine) (jobs : List Job) (keeps : List Keep) (line : JobLine) (job : Job) (keep : Keep)
    → Copies m p lines n q jobs keeps → CopiedIn n line.name q t r job.value → 1 < q.credits → IsSound t r
    → Keeps q (credits_in n) r (credits_in t + credit_in job.value) → OfHeap r job.value.place → job.ops ≡ line.ops → All IsWellFormedOp line.ops
    → keep_bytes keep ≡ line.keep → Copies m p (lines ++ line ∷ []) t r (jobs ++ job ∷ []) (keeps ++ keep ∷ [])
copies_more m n t p q r lines jobs keeps line job keep k c some sound now of ops well kept =
    let copy = is_copy q c.before r c.after job.value c.copied some in
    let found : weight (finite.get m line.name) ≡ credit_in c.before = sym (k.same line.name) ∙ ap weight c.found in
    record {
      copied = each_copied-snoc m n t p q r lines jobs line job k.copied c ops;
      events = k.events ++ copying c.before.place job.value.place;
      did = Did-then k.did c.did;
      published =
          let a = sum_of-append publishes k.events (copying c.before.place job.value.place) in
          let x = k.published in
          let y = copy.published in omega (arith, a, x, y);
      retained =
          let a = sum_of-append retains k.events (copying c.before.place job.value.place) in
          let b = sum_of-append (λ (l : JobLine). weight (finite.get m l.name)) lines (line ∷ []) in
          let x = k.retained in
          let y = copy.taken in omega (arith, a, b, x, y, found);
      texts = copied-texts n t line.name q r job.value c ∙ k.texts;
      same = λ name. ap (λ (x : Values). weight (finite.get x name)) c.now ∙ (ap weight (finite.get-insert nat_list_cmp_total n line.name c.after name) ∙ (stays name (alike name line.name) refl copy.held ∙ k.same name));
      sound = sound;
      credits =
          let a = k.credits in
          let b = sum_of-append (λ (j : Job). credit_of j.value.place) jobs (job ∷ []) in omega (arith, a, b, now);
      fit = All-push (IsFit r) jobs job (fit-moves q r c.did.one_heap jobs k.fit) (record { heap = of; well_formed = subst (λ (o : List _). All IsWellFormedOp o) (sym ops) well });
      names = map-append keep_bytes keeps (keep ∷ []) ∙ ((λ i. k.names i ++ kept i ∷ []) ∙ sym (map-append (λ (l : JobLine). l.keep) lines (line ∷ [])));
    }
  where
    stays : (name : List ℕ) (b : Bool) → alike name line.name ≡ b → credit_in c.after ≡ credit_in c.before → weight (cond b (Some c.after) (finite.get n name)) ≡ weight (finite.get n name)
    stays name true is held = held ∙ (sym (ap weight c.found) ∙ ap (λ q. weight (finite.get n q)) (sym (one-name name line.name is)))
    stays name false is held = refl

-- so many credits are left for the stakes of the shares
pub stakes_left : (m n : Values) (p q : PassSeen) (lines : List JobLine) (jobs : List Job) (keeps : List Keep) → Copies m p lines n q jobs keeps → HasEnough m p
    → length lines ≤ job_limit → job_limit < q.credits
stakes_left m n p q lines jobs keeps k enough few =
    let a = k.credits in
    let b = credits_in_few n in
    let c = k.sound.few in
    let d = few_credits jobs in
    let e = length-each_copied m n p q lines jobs k.copied in omega (arith, a, b, c, d, e, enough, few)

-- ---- names in use

pub unused-head : (s : State) (line : JobLine) (lines : List JobLine) → first_unused s (line ∷ lines) ≡ None → (is_in_use s line.name ≡ true) × (first_unused s lines ≡ None)
unused-head s line lines h = by (is_in_use s line.name) h
  where
    by : (b : Bool) → cond b (first_unused s lines) (Some line.name) ≡ None → (b ≡ true) × (first_unused s lines ≡ None)
    by true e = (refl, e)
    by false e = absurd (let clash : Some line.name ≡ None = e in cc)

-- the loop over the lines: `rest` are those that have no copy yet
pub record CopyingOn (m : Values) (p : PassSeen) (lines rest : List JobLine) (n : Values) (q : PassSeen) (jobs : List Job) (keeps : List Keep) : Type 0 where
  pub front : List JobLine
  pub whole : lines ≡ front ++ rest
  pub copies : Copies m p front n q jobs keeps
  pub named : first_unused (texts_of m) rest ≡ None
  pub well_formed : All IsWellFormedJob rest

pub few_front : {X : Type 0} (xs ys zs : List X) (k : ℕ) → xs ≡ ys ++ zs → length xs ≤ k → length ys ≤ k
few_front xs ys zs k is few = let a : length xs ≡ length ys + length zs = ap length is ∙ length-append ys zs in omega (arith, a, few)

pub copying_none : (m : Values) (p : PassSeen) (lines rest : List JobLine) (jobs : List Job) (keeps : List Keep) → rest ≡ lines → jobs ≡ [] → keeps ≡ [] → IsSound m p
    → first_unused (texts_of m) lines ≡ None → All IsWellFormedJob lines → CopyingOn m p lines rest m p jobs keeps
copying_none m p lines rest jobs keeps is none nothing sound named well = record {
  front = [];
  whole = sym is;
  copies = subst (λ (x : List Job × List Keep). Copies m p [] m p x.0 x.1) (λ i. (sym none i, sym nothing i)) (copies_none m p sound);
  named = ap (first_unused (texts_of m)) is ∙ named;
  well_formed = subst (All IsWellFormedJob) (sym is) well;
}

-- the next line's name is in use
pub next-in-use : (m n : Values) (p q : PassSeen) (lines rest left : List JobLine) (jobs : List Job) (keeps : List Keep) (line : JobLine) → CopyingOn m p lines rest n q jobs keeps
    → rest ≡ line ∷ left → is_in_use (texts_of n) line.name ≡ true
next-in-use m n p q lines rest left jobs keeps line k is =
    ap (λ (s : State). is_in_use s line.name) k.copies.texts ∙ (unused-head (texts_of m) line left (ap (first_unused (texts_of m)) (sym is) ∙ k.named)).0

pub next-well_formed : (m n : Values) (p q : PassSeen) (lines rest left : List JobLine) (jobs : List Job) (keeps : List Keep) (line : JobLine) → CopyingOn m p lines rest n q jobs keeps
    → rest ≡ line ∷ left → IsWellFormedJob line
next-well_formed m n p q lines rest left jobs keeps line k is = All-head IsWellFormedJob line left (subst (All IsWellFormedJob) is k.well_formed)

pub copying_more : (m n t : Values) (p q r : PassSeen) (lines rest left : List JobLine) (jobs more : List Job) (keeps others : List Keep) (line : JobLine) (job : Job) (keep : Keep)
    → CopyingOn m p lines rest n q jobs keeps → rest ≡ line ∷ left → more ≡ jobs ++ job ∷ [] → others ≡ keeps ++ keep ∷ [] → HasEnough m p → length lines ≤ job_limit
    → CopiedIn n line.name q t r job.value → IsSound t r → Keeps q (credits_in n) r (credits_in t + credit_in job.value) → OfHeap r job.value.place
    → job.ops ≡ line.ops → keep_bytes keep ≡ line.keep → CopyingOn m p lines left t r more others
copying_more m n t p q r lines rest left jobs more keeps others line job keep k is pushed kept enough few c sound now of ops under =
    let well = next-well_formed m n p q lines rest left jobs keeps line k is in
    let fewer = few_front lines k.front rest job_limit k.whole few in
    let stakes = stakes_left m n p q k.front jobs keeps k.copies enough fewer in
    record {
      front = k.front ++ line ∷ [];
      whole = k.whole ∙ (ap (λ (x : List JobLine). k.front ++ x) is ∙ sym (append_assoc k.front (line ∷ []) left));
      copies = subst (λ (x : List Job × List Keep). Copies m p (k.front ++ line ∷ []) t r x.0 x.1) (λ i. (sym pushed i, sym kept i))
          (copies_more m n t p q r k.front jobs keeps line job keep k.copies c (omega (arith, stakes)) sound now of ops well.ops under);
      named = (unused-head (texts_of m) line left (ap (first_unused (texts_of m)) (sym is) ∙ k.named)).1;
      well_formed = All-rest IsWellFormedJob line left rest is k.well_formed;
    }

pub copying_end : (m n : Values) (p q : PassSeen) (lines rest : List JobLine) (jobs : List Job) (keeps : List Keep) → CopyingOn m p lines rest n q jobs keeps
    → length rest ≡ 0 → Copies m p lines n q jobs keeps
copying_end m n p q lines rest jobs keeps k none =
    subst (λ (x : List JobLine). Copies m p x n q jobs keeps) (sym (k.whole ∙ (ap (λ (x : List JobLine). k.front ++ x) (nothing rest none) ∙ append-nil k.front))) k.copies
  where
    nothing : (xs : List JobLine) → length xs ≡ 0 → xs ≡ []
    nothing [] e = refl
    nothing (x ∷ xs) e = absurd (let z : ⊥ = omega (arith, e) in z)
