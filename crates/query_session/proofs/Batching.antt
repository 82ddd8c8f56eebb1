-- What a batch leaves, as texts and as values.
use Rattle.std.proofs.Common.{◌≡◌, ℕ, ◌+◌, ◌<◌, ◌≤◌, All, false, List, [], ◌∷◌, ◌++◌, length, map, nat_lt, Option, Some, None, refl, sym, ap, ◌∙◌, subst, arith, append_assoc, append-nil, zero, suc, drop, get_or, slice_get, lt-ltb}
use Rattle.std.proofs.lemmas.List.{map-append, length-map}
use Rattle.std.proofs.lemmas.List.Elements.{All-from_recursion, recursion_from_All, All-map}
use Rattle.std.specs.List.{AllByRecursion}
use Rattle.std.specs.Option.{unwrap_or}
use Rattle.std.specs.FinMap as finite
use Rattle.std.proofs.lemmas.Bool.{cond-true, cond-false, le-ltb}
use Rattle.std.proofs.Math.Seq.{drop-cons}
use Rattle.slot_table.specs.Owners.{PassSeen}
use Rattle.slot_accounts.specs.Account.{Did, Keeps, sum_of}
use Rattle.slot_accounts.specs.Counts.{publishes, retains}
use Rattle.slot_accounts.proofs.Doing.{sum_of-append}
use Rattle.slot_accounts.proofs.Counts.{Made-of, Made-then}
use Rattle.str_value.specs.Meaning.{Meaning, OfHeap}
use Rattle.slot_model.specs.declared.event.Event.{Event}
use Rattle.query_lines.specs.declared.command.Command.TheVariants as command
use Rattle.query_lines.specs.declared.command.JobLine.{JobLine}
use Rattle.query_lines.specs.declared.reply.OpReply.{OpReply}
use Rattle.query_lines.specs.declared.reply.Refusal.TheVariants as refusal
use Rattle.query_lines.specs.declared.reply.Reply.{Reply}
use Rattle.query_lines.specs.declared.reply.Reply.TheVariants as reply
use Rattle.query_lines.specs.Replies.{IsShownOp}
use Rattle.batch_workers.specs.Ops.{op_replies, text_after_ops}
use Rattle.batch_workers.specs.Batch.{EachDone, IsMade, credits_before, credits_after, edits_in, spent_before}
use Rattle.batch_workers.specs.declared.jobs.Job.{Job}
use Rattle.batch_workers.specs.declared.jobs.Done.{Done}
use Rattle.query_session.specs.declared.kept.Kept.{Kept}
use Rattle.query_session.specs.Keeping.{kept, names_of}
use Rattle.query_session.specs.Kept.{pairs_of, credits_of, keeps_of, EachOfHeap}
use Rattle.query_session.specs.State.{State, is_in_use, name_limit}
use Rattle.query_session.specs.Reply.{IsRefused}
use Rattle.query_session.specs.Values.{Values, IsSound, texts_of, credits_in, credit_in}
use Rattle.query_session.specs.Copied.{CopiedIn}
use Rattle.query_session.specs.Batched.{EachCopied, values_kept}
use Rattle.query_session.specs.Batching.{job_text, job_replies, text_kept, state_kept, jobs_reply, batch_reply, first_unused}
use Rattle.query_session.specs.Copies.{Copies, Keep, keep_bytes}
use Rattle.query_session.specs.Steps as steps
use Rattle.query_session.proofs.Sums.{len-texts}
use Rattle.query_session.proofs.Held.{text_in_use}
use Rattle.query_session.proofs.Texts.{copied-texts}
use Rattle.query_session.proofs.KeepingValues.{texts_kept, texts-kept}
use Rattle.query_session.proofs.Copying.{length-each_copied}

-- ---- lists

module _ {X : Type 0} where
  abbrev head_or : X → List X → X
  head_or d [] = d
  head_or d (x ∷ xs) = x

  abbrev tail_of : List X → List X
  tail_of [] = []
  tail_of (x ∷ xs) = xs

  same-heads : (x y : X) (xs ys : List X) → x ∷ xs ≡ y ∷ ys → x ≡ y
  same-heads x y xs ys is = ap (head_or x) is

  same-tails : (x y : X) (xs ys : List X) → x ∷ xs ≡ y ∷ ys → xs ≡ ys
  same-tails x y xs ys is = ap tail_of is

  not_cons : (x : X) (xs : List X) → x ∷ xs ≡ [] → ⊥
  not_cons x xs is = let z : length (x ∷ xs) ≡ 0 = ap length is in let y : ⊥ = omega (arith, z) in y

  no_cons : (x : X) (xs : List X) → [] ≡ x ∷ xs → ⊥
  no_cons x xs is = not_cons x xs (sym is)

-- ---- jobs that were done on copies

-- a copy has the text of its name
text-copied : (m n : Values) (p q : PassSeen) (line : JobLine) (v : Meaning) → CopiedIn m line.name p n q v → v.text ≡ job_text (texts_of m) line
text-copied m n p q line v c = c.text ∙ sym (ap (λ o. unwrap_or o []) (text_in_use m line.name c.before c.found))

pub replies-done : (s : State) (jobs : ℕ) (m n : Values) (p q r : PassSeen) (lines : List JobLine) (work : List Job) (done : List Done) → texts_of m ≡ s
    → EachCopied m p lines n q work → EachDone r jobs work done → map (λ (d : Done). d.replies) done ≡ map (job_replies s jobs) lines
replies-done s jobs m n p q r [] [] [] is e d = refl
replies-done s jobs m n p q r [] [] (x ∷ done) is e d = absurd d
replies-done s jobs m n p q r [] (w ∷ work) done is e d = absurd e
replies-done s jobs m n p q r (l ∷ lines) [] done is e d = absurd e
replies-done s jobs m n p q r (l ∷ lines) (w ∷ work) [] is e d = absurd d
replies-done s jobs m n p q r (l ∷ lines) (w ∷ work) (x ∷ done) is e d =
    let text : w.value.text ≡ job_text s l = text-copied m e.0 p e.1 l w.value e.2 ∙ ap (λ (t : State). job_text t l) is in
    let one : x.replies ≡ job_replies s jobs l = d.0.answers ∙ (λ i. op_replies (text i) (spent_before jobs) (e.3 i)) in
    let rest = replies-done s jobs e.0 n e.1 q r lines work done (copied-texts m e.0 l.name p e.1 w.value e.2 ∙ is) e.4 d.1 in
    λ i. one i ∷ rest i

pub texts-done : (s : State) (jobs : ℕ) (m n : Values) (p q r : PassSeen) (lines : List JobLine) (work : List Job) (done : List Done) → texts_of m ≡ s
    → EachCopied m p lines n q work → EachDone r jobs work done → texts_kept (values_kept lines done) ≡ map (text_kept s) lines
texts-done s jobs m n p q r [] [] [] is e d = refl
texts-done s jobs m n p q r [] [] (x ∷ done) is e d = absurd d
texts-done s jobs m n p q r [] (w ∷ work) done is e d = absurd e
texts-done s jobs m n p q r (l ∷ lines) [] done is e d = absurd e
texts-done s jobs m n p q r (l ∷ lines) (w ∷ work) [] is e d = absurd d
texts-done s jobs m n p q r (l ∷ lines) (w ∷ work) (x ∷ done) is e d =
    let text : w.value.text ≡ job_text s l = text-copied m e.0 p e.1 l w.value e.2 ∙ ap (λ (t : State). job_text t l) is in
    let one : x.value.text ≡ text_after_ops (job_text s l) l.ops = d.0.text ∙ (λ i. text_after_ops (text i) (e.3 i)) in
    let rest = texts-done s jobs e.0 n e.1 q r lines work done (copied-texts m e.0 l.name p e.1 w.value e.2 ∙ is) e.4 d.1 in
    λ i. (l.keep, one i) ∷ rest i

pub length-each_done : (r : PassSeen) (jobs : ℕ) (work : List Job) (done : List Done) → EachDone r jobs work done → length done ≡ length work
length-each_done r jobs [] [] d = refl
length-each_done r jobs [] (x ∷ done) d = absurd d
length-each_done r jobs (w ∷ work) [] d = absurd d
length-each_done r jobs (w ∷ work) (x ∷ done) d = let t = length-each_done r jobs work done d.1 in omega (arith, t)

-- ---- what is kept

-- the values that were done, under the names of their lines
pub pairs-kept : (items : List Kept) (keeps : List Keep) (lines : List JobLine) (done : List Done) → map (λ (k : Kept). keep_bytes k.name) items ≡ map keep_bytes keeps
    → map keep_bytes keeps ≡ map (λ (l : JobLine). l.keep) lines → map (λ (k : Kept). k.value) items ≡ map (λ (d : Done). d.value) done → pairs_of items ≡ values_kept lines done
pairs-kept items keeps lines done names given values = by items lines done (names ∙ given) values
  where
    by : (items : List Kept) (lines : List JobLine) (done : List Done) → map (λ (k : Kept). keep_bytes k.name) items ≡ map (λ (l : JobLine). l.keep) lines
        → map (λ (k : Kept). k.value) items ≡ map (λ (d : Done). d.value) done → pairs_of items ≡ values_kept lines done
    by [] [] done names values = refl
    by [] (l ∷ lines) done names values = absurd (no_cons l.keep (map (λ (l : JobLine). l.keep) lines) names)
    by (k ∷ items) [] done names values = absurd (not_cons (keep_bytes k.name) (map (λ (k : Kept). keep_bytes k.name) items) names)
    by (k ∷ items) (l ∷ lines) [] names values = absurd (not_cons k.value (map (λ (k : Kept). k.value) items) values)
    by (k ∷ items) (l ∷ lines) (d ∷ done) names values =
        let name = same-heads (keep_bytes k.name) l.keep (map (λ (k : Kept). keep_bytes k.name) items) (map (λ (l : JobLine). l.keep) lines) names in
        let value = same-heads k.value d.value (map (λ (k : Kept). k.value) items) (map (λ (d : Done). d.value) done) values in
        let rest = by items lines done (same-tails (keep_bytes k.name) l.keep (map (λ (k : Kept). keep_bytes k.name) items) (map (λ (l : JobLine). l.keep) lines) names)
        (same-tails k.value d.value (map (λ (k : Kept). k.value) items) (map (λ (d : Done). d.value) done) values) in
        λ i. (name i, value i) ∷ rest i

sum-map : {X : Type 0} (f : X → Meaning) (xs : List X) → sum_of (λ x. credit_in (f x)) xs ≡ sum_of credit_in (map f xs)
sum-map f [] = refl
sum-map f (x ∷ xs) = ap (λ (n : ℕ). credit_in (f x) + n) (sum-map f xs)

pub credits-kept : (items : List Kept) (done : List Done) → map (λ (k : Kept). k.value) items ≡ map (λ (d : Done). d.value) done → credits_of items ≡ credits_after done
credits-kept items done values = sum-map (λ (k : Kept). k.value) items ∙ (ap (sum_of credit_in) values ∙ sym (sum-map (λ (d : Done). d.value) done))

-- ---- the whole batch

-- the names in use are as few as they have to be
pub room-kept : (m n : Values) (p q r : PassSeen) (lines : List JobLine) (work : List Job) (done : List Done) (items : List Kept) → EachCopied m p lines n q work
    → EachDone r (length work) work done → texts_of n ≡ texts_of m → pairs_of items ≡ values_kept lines done
    → finite.len (state_kept (texts_of m) lines) ≤ name_limit → finite.len (kept n (pairs_of items)) ≤ name_limit
room-kept m n p q r lines work done items copied worked texts pairs few =
    let after : texts_of (kept n (pairs_of items)) ≡ state_kept (texts_of m) lines =
    texts-kept n (pairs_of items) ∙ ((λ i. kept (texts i) (texts_kept (pairs i))) ∙ ap (kept (texts_of m)) (texts-done (texts_of m) (length work) m n p q r lines work done refl copied worked)) in
    let a : finite.len (kept n (pairs_of items)) ≡ finite.len (state_kept (texts_of m) lines) = sym (len-texts (kept n (pairs_of items))) ∙ ap finite.len after in
    omega (arith, a, few)

pub jobs-replied : (m n t : Values) (p q r : PassSeen) (lines : List JobLine) (work : List Job) (done : List Done) (items : List Kept) (answers : List (List OpReply))
    → EachCopied m p lines n q work → EachDone r (length work) work done → length work ≡ length lines → texts_of n ≡ texts_of m → pairs_of items ≡ values_kept lines done
    → answers ≡ map (λ (d : Done). d.replies) done → t ≡ kept n (pairs_of items) → finite.len (state_kept (texts_of m) lines) ≤ name_limit
    → ◌≡◌ {A = Reply × State} (reply.Jobs answers, texts_of t) (jobs_reply (texts_of m) lines)
jobs-replied m n t p q r lines work done items answers copied worked count texts pairs told now few =
    let s = texts_of m in
    let after : texts_of t ≡ state_kept s lines =
    ap texts_of now ∙ (texts-kept n (pairs_of items) ∙ ((λ i. kept (texts i) (texts_kept (pairs i))) ∙ ap (kept s) (texts-done s (length work) m n p q r lines work done refl copied worked))) in
    let replies : answers ≡ map (job_replies s (length lines)) lines =
    told ∙ (replies-done s (length work) m n p q r lines work done refl copied worked ∙ ap (λ (k : ℕ). map (job_replies s k) lines) count) in
    (λ i. (reply.Jobs (replies i), after i)) ∙ sym (cond-false (nat_lt name_limit (finite.len (state_kept s lines))) _ _ (not_above few))
  where
    not_above : finite.len (state_kept (texts_of m) lines) ≤ name_limit → nat_lt name_limit (finite.len (state_kept (texts_of m) lines)) ≡ false
    not_above few = le-ltb name_limit (finite.len (state_kept (texts_of m) lines)) few

pub batch-done : (m n t : Values) (p q r u : PassSeen) (lines : List JobLine) (work : List Job) (keeps : List Keep) (done : List Done) (items : List Kept)
    → Copies m p lines n q work keeps → EachDone q (length work) work done → length work ≡ length lines → IsMade q r (edits_in done)
    → Keeps q (credits_before work) r (credits_after done) → pairs_of items ≡ values_kept lines done → credits_of items ≡ credits_after done
    → t ≡ kept n (pairs_of items) → ((es : List Event) × (sum_of publishes es ≡ 0) × (sum_of retains es ≡ 0) × Did es r u)
    → Keeps r (credits_in n + credits_of items) u (credits_in t) → IsSound t u → steps.Done (command.Batch lines) m p t u
batch-done m n t p q r u lines work keeps done items k worked count b second pairs held now gone third sound =
    let sum : (w : Event → ℕ) → sum_of w (k.events ++ (b.events ++ gone.0)) ≡ sum_of w k.events + (sum_of w b.events + sum_of w gone.0) =
    λ w. sum_of-append w k.events (b.events ++ gone.0) ∙ ap (λ (x : ℕ). sum_of w k.events + x) (sum_of-append w b.events gone.0) in
    record {
      events = k.events ++ (b.events ++ gone.0);
      made = Made-then (Made-of k.did) (Made-then b.made (Made-of gone.3));
      credits = let x = k.credits in omega (arith, x, second, third, held);
      sound = sound;
      acted = record {
        middle = n;
        between = q;
        work = work;
        done = done;
        copied = k.copied;
        worked = subst (λ (j : ℕ). EachDone q j work done) count worked;
        now = now ∙ ap (kept n) pairs;
        published = let a = sum publishes in let x = k.published in let y = b.published in let z = gone.1 in omega (arith, a, x, y, z);
        retained = let a = sum retains in let x = k.retained in let y = b.retained in let z = gone.2 in omega (arith, a, x, y, z);
      };
    }

-- ---- the answers apart from the values

-- the loop over what jobs left: `rest` and `left` are still to come
pub record PartingOn (done : List Done) (keeps : List Keep) (rest : List Done) (left : List Keep) (answers : List (List OpReply)) (items : List Kept) : Type 0 where
  pub replies : map (λ (d : Done). d.replies) done ≡ answers ++ map (λ (d : Done). d.replies) rest
  pub values : map (λ (d : Done). d.value) done ≡ map (λ (k : Kept). k.value) items ++ map (λ (d : Done). d.value) rest
  pub names : map keep_bytes keeps ≡ map (λ (k : Kept). keep_bytes k.name) items ++ map keep_bytes left
  pub count : length left ≡ length rest

pub parting_none : (done rest : List Done) (keeps left : List Keep) (answers : List (List OpReply)) (items : List Kept) → rest ≡ done → left ≡ keeps → answers ≡ [] → items ≡ []
    → length keeps ≡ length done → PartingOn done keeps rest left answers items
parting_none done rest keeps left answers items is same none nothing count = record {
  replies = sym (λ i. none i ++ map (λ (d : Done). d.replies) (is i));
  values = sym (λ i. map (λ (k : Kept). k.value) (nothing i) ++ map (λ (d : Done). d.value) (is i));
  names = sym (λ i. map (λ (k : Kept). keep_bytes k.name) (nothing i) ++ map keep_bytes (same i));
  count = ap length same ∙ (count ∙ sym (ap length is));
}

moved : {Y : Type 0} (xs ys zs : List Y) (more : List Y) (y : Y) → more ≡ ys ++ y ∷ [] → xs ≡ ys ++ y ∷ zs → xs ≡ more ++ zs
moved xs ys zs more y pushed is = is ∙ (sym (append_assoc ys (y ∷ []) zs) ∙ ap (λ (l : List _). l ++ zs) (sym pushed))

pub parting_more : (done rest next : List Done) (keeps left others : List Keep) (answers more : List (List OpReply)) (items others_kept : List Kept) (d : Done) (k : Kept)
    → PartingOn done keeps rest left answers items → rest ≡ d ∷ next → left ≡ k.name ∷ others → k.value ≡ d.value → more ≡ answers ++ d.replies ∷ []
    → others_kept ≡ items ++ k ∷ [] → PartingOn done keeps next others more others_kept
parting_more done rest next keeps left others answers more items others_kept d k p is same value told pushed = record {
  replies = moved (map (λ (x : Done). x.replies) done) answers (map (λ (x : Done). x.replies) next) more d.replies told
      (p.replies ∙ ap (λ (l : List Done). answers ++ map (λ (x : Done). x.replies) l) is);
  values = moved (map (λ (x : Done). x.value) done) (map (λ (x : Kept). x.value) items) (map (λ (x : Done). x.value) next) (map (λ (x : Kept). x.value) others_kept) k.value
      (ap (map (λ (x : Kept). x.value)) pushed ∙ map-append (λ (x : Kept). x.value) items (k ∷ []))
      (p.values ∙ ((λ i. map (λ (x : Kept). x.value) items ++ map (λ (x : Done). x.value) (is i)) ∙ ap (λ (v : Meaning). map (λ (x : Kept). x.value) items ++ v ∷ map (λ (x : Done). x.value) next) (sym value)));
  names = moved (map keep_bytes keeps) (map (λ (x : Kept). keep_bytes x.name) items) (map keep_bytes others) (map (λ (x : Kept). keep_bytes x.name) others_kept) (keep_bytes k.name)
      (ap (map (λ (x : Kept). keep_bytes x.name)) pushed ∙ map-append (λ (x : Kept). keep_bytes x.name) items (k ∷ []))
      (p.names ∙ ap (λ (l : List Keep). map (λ (x : Kept). keep_bytes x.name) items ++ map keep_bytes l) same);
  count = let a = p.count in let b : length left ≡ length others + 1 = ap length same ∙ omega arith in let e : length rest ≡ length next + 1 = ap length is ∙ omega arith in omega (arith, a, b, e);
}

pub parting_end : (done rest : List Done) (keeps left : List Keep) (answers : List (List OpReply)) (items : List Kept) → PartingOn done keeps rest left answers items → length rest ≡ 0
    → (answers ≡ map (λ (d : Done). d.replies) done) × (map (λ (k : Kept). keep_bytes k.name) items ≡ map keep_bytes keeps) × (map (λ (k : Kept). k.value) items ≡ map (λ (d : Done). d.value) done)
parting_end done rest keeps left answers items p none =
    let no_rest : rest ≡ [] = nothing rest none in
    let no_left : left ≡ [] = nothing left (p.count ∙ none) in (
      sym (p.replies ∙ (ap (λ (l : List Done). answers ++ map (λ (d : Done). d.replies) l) no_rest ∙ append-nil answers)),
      sym (p.names ∙ (ap (λ (l : List Keep). map (λ (k : Kept). keep_bytes k.name) items ++ map keep_bytes l) no_left ∙ append-nil (map (λ (k : Kept). keep_bytes k.name) items))),
      sym (p.values ∙ (ap (λ (l : List Done). map (λ (k : Kept). k.value) items ++ map (λ (d : Done). d.value) l) no_rest ∙ append-nil (map (λ (k : Kept). k.value) items))),
    )
  where
    nothing : {X : Type 0} (xs : List X) → length xs ≡ 0 → xs ≡ []
    nothing [] e = refl
    nothing (x ∷ xs) e = absurd (let z : ⊥ = omega (arith, e) in z)

-- ---- refusals

names-kept : (s : State) (lines : List JobLine) → names_of (map (text_kept s) lines) ≡ keeps_of lines
names-kept s [] = refl
names-kept s (l ∷ lines) = ap (λ (os : List (Option (List ℕ))). l.keep ∷ os) (names-kept s lines)

-- how many names the code counts, and how many there are
pub names-counted : (s : State) (lines slice : List JobLine) (n : ℕ) → slice ≡ lines
    → ((pairs : List (Option (List ℕ) × List ℕ)) → names_of pairs ≡ keeps_of slice → n ≡ finite.len (kept s pairs)) → n ≡ finite.len (state_kept s lines)
names-counted s lines slice n is counted = counted (map (text_kept s) lines) (names-kept s lines ∙ ap keeps_of (sym is))

pub too-many : (s : State) (lines : List JobLine) (n : ℕ) → first_unused s lines ≡ None → n ≡ finite.len (state_kept s lines) → name_limit < n
    → ◌≡◌ {A = Reply × State} (reply.Refused refusal.TooManyNames, s) (batch_reply s lines (first_unused s lines))
too-many s lines n none count above =
    sym (ap (batch_reply s lines) none ∙ cond-true (nat_lt name_limit (finite.len (state_kept s lines))) _ _ (lt-ltb name_limit (finite.len (state_kept s lines)) (omega (arith, count, above))))

pub jobs-answered : (s : State) (lines : List JobLine) → first_unused s lines ≡ None → finite.len (state_kept s lines) ≤ name_limit
    → batch_reply s lines (first_unused s lines) ≡ (reply.Jobs (map (job_replies s (length lines)) lines), state_kept s lines)
jobs-answered s lines none few = ap (batch_reply s lines) none ∙ cond-false (nat_lt name_limit (finite.len (state_kept s lines))) _ _ (le-ltb name_limit (finite.len (state_kept s lines)) few)

pub never-refused : (s : State) (lines : List JobLine) → first_unused s lines ≡ None → finite.len (state_kept s lines) ≤ name_limit
    → ¬ (IsRefused (batch_reply s lines (first_unused s lines)).0)
never-refused s lines none few refused = subst (λ (x : Reply × State). IsRefused (x.0)) (jobs-answered s lines none few) refused

-- the first line whose name isn't in use
pub unused-found : (s : State) (lines : List JobLine) (i : ℕ) (line : JobLine) → first_unused s lines ≡ first_unused s (drop i lines) → i < length lines
    → line ≡ get_or lines i line → is_in_use s line.name ≡ false → first_unused s lines ≡ Some line.name
unused-found s lines i line before below is unused =
    before ∙ (ap (first_unused s) (drop-cons lines i line below ∙ ap (λ (l : JobLine). l ∷ drop (suc i) lines) (sym is)) ∙ cond-false (is_in_use s line.name) _ _ unused)

pub there : (lines : List JobLine) (i : ℕ) (line : JobLine) → i < length lines → line ≡ get_or lines i line → slice_get lines i ≡ Some line
there [] i line below is = absurd (let z : ⊥ = omega (arith, below) in z)
there (l ∷ lines) zero line below is = ap Some (sym is)
there (l ∷ lines) (suc i) line below is = there lines i line (omega (arith, below)) is

-- ---- what stands between the calls

pub counts-agree : (m n : Values) (p q r : PassSeen) (lines : List JobLine) (work : List Job) (keeps : List Keep) (done : List Done) → Copies m p lines n q work keeps
    → EachDone r (length work) work done → length keeps ≡ length done
counts-agree m n p q r lines work keeps done k worked =
    sym (length-map keeps keep_bytes) ∙ (ap length k.names ∙ (length-map lines (λ (l : JobLine). l.keep)
    ∙ (sym (length-each_copied m n p q lines work k.copied) ∙ sym (length-each_done r (length work) work done worked))))

pub heap-kept : (p : PassSeen) (items : List Kept) (done : List Done) → map (λ (k : Kept). k.value) items ≡ map (λ (d : Done). d.value) done
    → All (λ (d : Done). OfHeap p d.value.place) done → EachOfHeap p items
heap-kept p items done values all =
    All-from_recursion (λ (k : Kept). OfHeap p k.value.place) items (by items done values (recursion_from_All (λ (d : Done). OfHeap p d.value.place) done all))
  where
    by : (items : List Kept) (done : List Done) → map (λ (k : Kept). k.value) items ≡ map (λ (d : Done). d.value) done
        → AllByRecursion (λ (d : Done). OfHeap p d.value.place) done → AllByRecursion (λ (k : Kept). OfHeap p k.value.place) items
    by [] done values all = tt
    by (k ∷ items) [] values all = absurd (not_cons k.value (map (λ (k : Kept). k.value) items) values)
    by (k ∷ items) (d ∷ done) values all = (
      subst (λ (v : Meaning). OfHeap p v.place) (sym (same-heads k.value d.value (map (λ (k : Kept). k.value) items) (map (λ (d : Done). d.value) done) values)) all.0,
      by items done (same-tails k.value d.value (map (λ (k : Kept). k.value) items) (map (λ (d : Done). d.value) done) values) all.1,
    )

pub shown-told : (answers : List (List OpReply)) (done : List Done) → answers ≡ map (λ (d : Done). d.replies) done → All (λ (d : Done). All IsShownOp d.replies) done
    → All (All IsShownOp) answers
shown-told answers done told all = subst (All (All IsShownOp)) (sym told) (All-map (All IsShownOp) (λ (d : Done). d.replies) done all)
