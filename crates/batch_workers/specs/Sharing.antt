-- Jobs that are done with shares of a pass, spread among workers: what this crate's own functions say of them.
use Rattle.std.specs.Prelude.{◌≡◌, ◌≢◌, ℕ, zero, suc, ◌+◌, ◌%◌, ◌==◌, ◌<◌, ◌≤◌, Bool, true, false, All, List, [], ◌∷◌, ◌++◌, length, map}
use Rattle.std.specs.Global.{Vec}
use Rattle.slot_model.specs.declared.event.Event.{Event}
use Rattle.slot_table.specs.Owners.{PassSeen}
use Rattle.slot_accounts.specs.Account.{Did, Keeps, Shows, sum_of}
use Rattle.slot_accounts.specs.Counts.{publishes, retains}
use Rattle.slot_accounts.specs.Shares.{Dealt, Gathered}
use Rattle.query_lines.specs.Replies.{IsShownOp}
use Rattle.query_lines.specs.WellFormed.{IsWellFormedOp}
use Rattle.str_value.specs.Meaning.{OfHeap, credit_of, is_there, side_of}
use Rattle.str_value.specs.Learning.{MayLearn}
use Rattle.batch_workers.specs.Ops.{op_replies, text_after_ops, is_counts, is_at}
use Rattle.batch_workers.specs.Working.{IsRead, edits_of}
use Rattle.batch_workers.specs.Batch.{slots_each, credits_each}
use Rattle.batch_workers.specs.declared.jobs.Job.{Job}
use Rattle.batch_workers.specs.declared.jobs.Done.{Done}
use Rattle.batch_workers.specs.declared.jobs.Task.{Task}
use Rattle.batch_workers.specs.declared.jobs.Finished.{Finished}

-- ---- one job

-- a job may be done with its share
pub record IsReady (task : Task) : Type 0 where
  pub heap : OfHeap task.pass task.job.value.place
  pub well_formed : All IsWellFormedOp task.job.ops

-- one job was done with its share, where so many bytes of text count as answered before it
pub record IsWorkedOn (spent : ℕ) (task : Task) (f : Finished) : Type 0 where
  pub answers : f.done.replies ≡ op_replies task.job.value.text spent task.job.ops
  pub text : f.done.value.text ≡ text_after_ops task.job.value.text task.job.ops
  pub unedited : All (λ reply. is_counts reply ≡ false) f.done.replies → IsRead task.job.value f.done.value
  pub shown : All IsShownOp f.done.replies
  pub learned : task.job.ops ≢ [] → All (λ op. is_at op ≡ true) task.job.ops → MayLearn task.job.value → Shows task.pass
      → is_there (side_of f.done.value.place) ≡ true
  pub events : List Event
  pub did : Did events task.pass f.pass
  pub published : sum_of publishes events ≤ sum_of edits_of f.done.replies
  pub retained : sum_of retains events ≡ 0
  pub credits : Keeps task.pass (credit_of task.job.value.place) f.pass (credit_of f.done.value.place)
  pub heap : OfHeap f.pass f.done.value.place

abbrev pub EachWorkedOn : ℕ → List Task → List Finished → Type 0
EachWorkedOn spent [] [] = Unit {0}
EachWorkedOn spent [] (f ∷ fs) = ⊥
EachWorkedOn spent (t ∷ ts) [] = ⊥
EachWorkedOn spent (t ∷ ts) (f ∷ fs) = IsWorkedOn spent t f × EachWorkedOn spent ts fs

-- ---- lists spread among workers

-- what is in the vector of worker k, and nothing past the last worker
abbrev pub bundle : {X : Type 0} → List (Vec X) → ℕ → List X
bundle [] k = []
bundle (b ∷ bs) zero = b.items
bundle (b ∷ bs) (suc k) = bundle bs k

-- the list with one more element before it, or without
abbrev pub taken : {X : Type 0} → Bool → X → List X → List X
taken true x xs = x ∷ xs
taken false x xs = xs

-- of elements that are numbered from n on, those whose number modulo w is k
abbrev pub column : {X : Type 0} → ℕ → ℕ → ℕ → List X → List X
column w k n [] = []
column w k n (x ∷ xs) = taken (n % w == k) x (column w k (suc n) xs)

-- element i of the list is with worker i modulo their number
abbrev pub IsSpread : {X : Type 0} → List X → List (Vec X) → Type 0
IsSpread xs bs = (k : ℕ) → k < length bs → bundle bs k ≡ column (length bs) k 0 xs

-- worker i got one more, at the end
pub record Pushed {X : Type 0} (bs : List (Vec X)) (i : ℕ) (x : X) (cs : List (Vec X)) : Type 0 where
  pub len : length cs ≡ length bs
  pub here : bundle cs i ≡ bundle bs i ++ x ∷ []
  pub elsewhere : (k : ℕ) → k ≢ i → bundle cs k ≡ bundle bs k

-- each worker did its jobs
abbrev pub WorkedBundles : ℕ → List (Vec Task) → List (Vec Finished) → Type 0
WorkedBundles spent [] [] = Unit {0}
WorkedBundles spent [] (f ∷ fs) = ⊥
WorkedBundles spent (t ∷ ts) [] = ⊥
WorkedBundles spent (t ∷ ts) (f ∷ fs) = EachWorkedOn spent t.items f.items × WorkedBundles spent ts fs

-- ---- shares

abbrev pub shares_of : List Task → List PassSeen
shares_of tasks = map (λ (t : Task). t.pass) tasks

abbrev pub jobs_of : List Task → List Job
jobs_of tasks = map (λ (t : Task). t.job) tasks

abbrev pub shares_in : List Finished → List PassSeen
shares_in fs = map (λ (f : Finished). f.pass) fs

abbrev pub done_in : List Finished → List Done
done_in fs = map (λ (f : Finished). f.done) fs

-- an equal share for each of n jobs
pub record IsEqualShare (p : PassSeen) (n : ℕ) (share : PassSeen) : Type 0 where
  pub slots : length share.free ≡ slots_each p n
  pub credits : share.credits ≡ credits_each p n + 1

abbrev pub EachEqual : PassSeen → ℕ → List Task → Type 0
EachEqual p n [] = Unit {0}
EachEqual p n (t ∷ ts) = IsEqualShare p n t.pass × EachEqual p n ts

-- p was dealt to the jobs, and q is left
pub record IsDealt (p : PassSeen) (jobs : List Job) (q : PassSeen) (tasks : List Task) : Type 0 where
  pub shares : Dealt p (shares_of tasks) q
  pub jobs_are : jobs_of tasks ≡ jobs
  pub equal : EachEqual p (length jobs) tasks

abbrev pub EachShareOf : PassSeen → List Finished → Type 0
EachShareOf p [] = Unit {0}
EachShareOf p (f ∷ fs) = (f.pass.heap ≡ p.heap) × EachShareOf p fs

-- q took the shares back and became r
pub record IsGathered (q : PassSeen) (fs : List Finished) (r : PassSeen) (done : List Done) : Type 0 where
  pub shares : Gathered q (shares_in fs) r
  pub done_are : done ≡ done_in fs
