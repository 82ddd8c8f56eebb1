-- Shares that are dealt, worked with and gathered again: what the jobs did together.
use Rattle.std.proofs.Common.{◌≡◌, ℕ, suc, ◌+◌, ◌-◌, ◌*◌, ◌/◌, ◌<◌, ◌≤◌, List, [], ◌∷◌, ◌++◌, length, map, All, refl, sym, ap, ◌∙◌, subst, arith, append-nil, append_assoc}
use Rattle.std.specs.List.{AllByRecursion}
use Rattle.std.proofs.lemmas.List.Elements.{All-from_recursion, recursion_from_All}
use Rattle.std.proofs.Math.Nat.{div-mul-le_self, min-le_left}
use Rattle.std.proofs.lemmas.Nat.{mul-le}
use Rattle.slot_model.specs.declared.event.Event.{Event}
use Rattle.slot_table.specs.Owners.{PassSeen, Divided}
use Rattle.slot_accounts.specs.Account.{Made, Keeps, Shows, sum_of}
use Rattle.slot_accounts.specs.Counts.{publishes, retains}
use Rattle.slot_accounts.specs.Shares.{Dealt, Gathered}
use Rattle.slot_accounts.proofs.Doing.{sum_of-append}
use Rattle.slot_accounts.proofs.Counts.{Made-of}
use Rattle.slot_accounts.proofs.Beside.{beside, dealt-snoc, Made-nothing}
use Rattle.query_lines.specs.Replies.{IsShownOp}
use Rattle.str_value.specs.Meaning.{OfHeap}
use Rattle.str_value.proofs.Crumbing.{of_heap-moves}
use Rattle.batch_workers.specs.declared.jobs.Job.{Job}
use Rattle.batch_workers.specs.declared.jobs.Done.{Done}
use Rattle.batch_workers.specs.declared.jobs.Task.{Task}
use Rattle.batch_workers.specs.declared.jobs.Finished.{Finished}
use Rattle.batch_workers.specs.Batch.{spent_before, slots_each, credits_each, SharesShow, IsFit, EachDone, credits_before, credits_after, edits_in, IsMade}
use Rattle.batch_workers.specs.Sharing.{IsReady, EachWorkedOn, shares_of, jobs_of, shares_in, done_in, IsEqualShare, EachEqual, IsDealt, EachShareOf, IsGathered}

-- ---- what holds of each job, and of what it left, by recursion

abbrev pub EachFit : PassSeen → List Job → Type 0
EachFit p js = AllByRecursion (IsFit p) js

abbrev pub EachOfHeap : PassSeen → List Done → Type 0
EachOfHeap p ds = AllByRecursion (λ (d : Done). OfHeap p d.value.place) ds

fit-moves : (p q : PassSeen) (js : List Job) → q.heap ≡ p.heap → EachFit p js → EachFit q js
fit-moves p q [] same h = tt
fit-moves p q (j ∷ js) same h = (record { heap = of_heap-moves p q j.value.place same h.0.heap; well_formed = h.0.well_formed }, fit-moves p q js same h.1)

heap-moves : (p q : PassSeen) (ds : List Done) → q.heap ≡ p.heap → EachOfHeap p ds → EachOfHeap q ds
heap-moves p q [] same h = tt
heap-moves p q (d ∷ ds) same h = (of_heap-moves p q d.value.place same h.0, heap-moves p q ds same h.1)

ready : (ts : List Task) (p q : PassSeen) → Dealt p (shares_of ts) q → EachFit p (jobs_of ts) → AllByRecursion IsReady ts
ready [] p q dealt fit = tt
ready (t ∷ ts) p q dealt fit =
    let split = dealt.1.2 in (
      record { heap = of_heap-moves p t.pass t.job.value.place (ap (λ (x : PassSeen). x.heap) split.other_is) fit.0.heap; well_formed = fit.0.well_formed },
      ready ts dealt.0 q dealt.2 (fit-moves p dealt.0 (jobs_of ts) (ap (λ (x : PassSeen). x.heap) split.pass_is) fit.1),
    )

-- each job is ready once it has its share
pub each_ready : (p q : PassSeen) (js : List Job) (ts : List Task) → All (IsFit p) js → IsDealt p js q ts → AllByRecursion IsReady ts
each_ready p q js ts fit d = ready ts p q d.shares (subst (EachFit p) (sym d.jobs_are) (recursion_from_All (IsFit p) js fit))

-- ---- what the jobs did together

record Joint (p : PassSeen) (ts : List Task) (r : PassSeen) (fs : List Finished) : Type 0 where
  events : List Event
  made : Made events p r
  published : sum_of publishes events ≤ edits_in (done_in fs)
  retained : sum_of retains events ≡ 0
  credits : Keeps p (credits_before (jobs_of ts)) r (credits_after (done_in fs))
  heap : EachOfHeap r (done_in fs)
  shown : AllByRecursion (λ (d : Done). All IsShownOp d.replies) (done_in fs)

joint : (spent : ℕ) (ts : List Task) (fs : List Finished) (p q r : PassSeen) → Dealt p (shares_of ts) q → EachWorkedOn spent ts fs → Gathered q (shares_in fs) r → Joint p ts r fs
joint spent [] [] p q r dealt worked gathered =
    let same : r ≡ p = gathered ∙ dealt in record {
      events = [];
      made = subst (Made [] p) (sym same) (Made-nothing p);
      published = omega arith;
      retained = refl;
      credits = let c : r.credits ≡ p.credits = ap (λ (x : PassSeen). x.credits) same in omega (arith, c);
      heap = tt;
      shown = tt;
    }
joint spent [] (f ∷ fs) p q r dealt worked gathered = absurd worked
joint spent (t ∷ ts) [] p q r dealt worked gathered = absurd worked
joint spent (t ∷ ts) (f ∷ fs) p q r dealt worked gathered =
    let m : PassSeen = dealt.0 in let cut = dealt.1 in let split = cut.2 in
    let n : PassSeen = gathered.0 in let back = gathered.2 in
    let heap_s : t.pass.heap ≡ p.heap = ap (λ (x : PassSeen). x.heap) split.other_is in
    let rest = joint spent ts fs m q n dealt.2 worked.1 gathered.1 in
    let job = worked.0 in
    let made = beside cut rest.made (Made-of job.did) back in
    let heap_r : r.heap ≡ n.heap = ap (λ (x : PassSeen). x.heap) back.pass_is in
    record {
      events = rest.events ++ job.events;
      made = made;
      published = let a = sum_of-append publishes rest.events job.events in omega (arith, a, rest.published, job.published);
      retained = let a = sum_of-append retains rest.events job.events in omega (arith, a, rest.retained, job.retained);
      credits =
          let a = split.credits_are in let b : r.credits ≡ n.credits + f.pass.credits = ap (λ (x : PassSeen). x.credits) back.pass_is in
          let c = rest.credits in let e = job.credits in omega (arith, a, b, c, e);
      heap = (of_heap-moves f.pass r f.done.value.place (made.one_heap ∙ sym (job.did.one_heap ∙ heap_s)) job.heap, heap-moves n r (done_in fs) heap_r rest.heap);
      shown = (job.shown, rest.shown);
    }

-- a share shows what each share shows
shows : (p s : PassSeen) (n : ℕ) → IsEqualShare p n s → SharesShow p n → Shows s
shows p s n is show = record { a_slot = omega (arith, is.slots, show.a_slot); a_credit = omega (arith, is.credits, show.a_credit) }

each_done : (p : PassSeen) (n : ℕ) (ts : List Task) (fs : List Finished) → EachEqual p n ts → EachWorkedOn (spent_before n) ts fs → EachDone p n (jobs_of ts) (done_in fs)
each_done p n [] [] equal worked = tt
each_done p n [] (f ∷ fs) equal worked = absurd worked
each_done p n (t ∷ ts) [] equal worked = absurd worked
each_done p n (t ∷ ts) (f ∷ fs) equal worked = let w = worked.0 in (
  record {
    answers = w.answers;
    text = w.text;
    unedited = w.unedited;
    learned = λ some asked may show. w.learned some asked may (shows p t.pass n equal.0 show);
  },
  each_done p n ts fs equal.1 worked.1,
)

-- all that a batch says of what its jobs left
pub record Together (p : PassSeen) (js : List Job) (r : PassSeen) (ds : List Done) : Type 0 where
  pub done : EachDone p (length js) js ds
  pub made : IsMade p r (edits_in ds)
  pub credits : Keeps p (credits_before js) r (credits_after ds)
  pub heap : All (λ (d : Done). OfHeap r d.value.place) ds
  pub shown : All (λ (d : Done). All IsShownOp d.replies) ds

pub together : (p q r : PassSeen) (js : List Job) (ts : List Task) (fs : List Finished) (ds : List Done) → IsDealt p js q ts
    → EachWorkedOn (spent_before (length js)) ts fs → IsGathered q fs r ds → Together p js r ds
together p q r js ts fs ds dealt worked gathered =
    let all = joint (spent_before (length js)) ts fs p q r dealt.shares worked gathered.shares in
    let same = gathered.done_are in
    subst (λ l. Together p js r l) (sym same) record {
      done = subst (λ l. EachDone p (length js) l (done_in fs)) dealt.jobs_are (each_done p (length js) ts fs dealt.equal worked);
      made = record { events = all.events; made = all.made; published = all.published; retained = all.retained };
      credits = subst (λ l. Keeps p (credits_before l) r (credits_after (done_in fs))) dealt.jobs_are all.credits;
      heap = All-from_recursion (λ (d : Done). OfHeap r d.value.place) (done_in fs) all.heap;
      shown = All-from_recursion (λ (d : Done). All IsShownOp d.replies) (done_in fs) all.shown;
    }

-- each share is of the heap, before the shares come back
pub each_share : (spent : ℕ) (ts : List Task) (fs : List Finished) (p q : PassSeen) → Dealt p (shares_of ts) q → EachWorkedOn spent ts fs → EachShareOf q fs × (q.heap ≡ p.heap)
each_share spent [] [] p q dealt worked = (tt, ap (λ (x : PassSeen). x.heap) dealt)
each_share spent [] (f ∷ fs) p q dealt worked = absurd worked
each_share spent (t ∷ ts) [] p q dealt worked = absurd worked
each_share spent (t ∷ ts) (f ∷ fs) p q dealt worked =
    let split = dealt.1.2 in let rest = each_share spent ts fs dealt.0 q dealt.2 worked.1 in
    let heap_q : q.heap ≡ p.heap = rest.1 ∙ ap (λ (x : PassSeen). x.heap) split.pass_is in
    ((worked.0.did.one_heap ∙ (ap (λ (x : PassSeen). x.heap) split.other_is ∙ sym heap_q), rest.0), heap_q)

-- ---- while the pass is dealt out

map-snoc : {X Y : Type 0} (f : X → Y) (xs : List X) (x : X) → map f (xs ++ x ∷ []) ≡ map f xs ++ f x ∷ []
map-snoc f [] x = refl
map-snoc f (y ∷ ys) x = ap (λ l. f y ∷ l) (map-snoc f ys x)

-- `left` are the jobs that have no share yet
pub record Dealing (p : PassSeen) (js : List Job) (q : PassSeen) (ts : List Task) (left : List Job) : Type 0 where
  pub shares : Dealt p (shares_of ts) q
  pub jobs_are : jobs_of ts ++ left ≡ js
  pub equal : EachEqual p (length js) ts
  pub heap : q.heap ≡ p.heap

equal-snoc : (p : PassSeen) (n : ℕ) (ts : List Task) (t : Task) → EachEqual p n ts → IsEqualShare p n t.pass → EachEqual p n (ts ++ t ∷ [])
equal-snoc p n [] t all is = (is, tt)
equal-snoc p n (u ∷ us) t all is = (all.0, equal-snoc p n us t all.1 is)

pub dealing_none : (p : PassSeen) (js : List Job) → Dealing p js p [] js
dealing_none p js = record { shares = refl; jobs_are = refl; equal = tt; heap = refl }

pub dealing_more : (p q r : PassSeen) (js : List Job) (ts : List Task) (t : Task) (was left : List Job) → Dealing p js q ts was → was ≡ t.job ∷ left
    → Divided q (slots_each p (length js)) (credits_each p (length js)) r t.pass → Dealing p js r (ts ++ t ∷ []) left
dealing_more p q r js ts t was left d first cut = record {
  shares = subst (λ l. Dealt p l r) (sym (map-snoc (λ (x : Task). x.pass) ts t)) (dealt-snoc p q r t.pass (shares_of ts) d.shares (slots_each p (length js), credits_each p (length js), cut));
  jobs_are = ap (λ l. l ++ left) (map-snoc (λ (x : Task). x.job) ts t) ∙ (append_assoc (jobs_of ts) (t.job ∷ []) left ∙ (ap (λ l. jobs_of ts ++ l) (sym first) ∙ d.jobs_are));
  equal = equal-snoc p (length js) ts t d.equal record { slots = cut.slots_are; credits = ap (λ (x : PassSeen). x.credits) cut.other_is };
  heap = ap (λ (x : PassSeen). x.heap) cut.pass_is ∙ d.heap;
}

pub dealing_end : (p q : PassSeen) (js : List Job) (ts : List Task) (left : List Job) → length left ≡ 0 → Dealing p js q ts left → IsDealt p js q ts
dealing_end p q js ts [] none d = record { shares = d.shares; jobs_are = sym (append-nil (jobs_of ts)) ∙ d.jobs_are; equal = d.equal }
dealing_end p q js ts (j ∷ left) none d = absurd (omega (arith, none))

-- ---- what is dealt is there

pub slots_enough : (p : PassSeen) (n : ℕ) → slots_each p n * n ≤ length p.free
slots_enough p n = div-mul-le_self (length p.free) n

pub credits_enough : (p : PassSeen) (n : ℕ) → n < p.credits → (credits_each p n + 1) * n < p.credits
credits_enough p n less =
    let a = div-mul-le_self (p.credits - 1 - n) n in
    let b = mul-le (credits_each p n) n ((p.credits - 1 - n) / n) n (min-le_left ((p.credits - 1 - n) / n) 8) (omega arith) in
    let c = one_more (credits_each p n) n in
    omega (arith, a, b, c, less)
  where
    one_more : (k n : ℕ) → (k + 1) * n ≡ k * n + n
    one_more k n = omega arith

-- one more of n
pub times_suc : (k n : ℕ) → k * suc n ≡ k * n + k
times_suc k n = omega arith
