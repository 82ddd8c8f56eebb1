-- Jobs that are done beside each other, each on a value of its own and with a share of one pass. p is what contracts see of the pass
-- before, q after.
use Rattle.std.specs.Prelude.{◌≡◌, ◌≢◌, ℕ, ◌-◌, ◌/◌, ◌≤◌, min, true, false, All, List, [], ◌∷◌, length}
use Rattle.slot_model.specs.declared.event.Event.{Event}
use Rattle.slot_table.specs.Owners.{PassSeen}
use Rattle.slot_accounts.specs.Account.{Made, sum_of}
use Rattle.slot_accounts.specs.Counts.{publishes, retains}
use Rattle.query_lines.specs.WellFormed.{IsWellFormedOp}
use Rattle.str_value.specs.Meaning.{OfHeap, credit_of, is_there, side_of}
use Rattle.str_value.specs.Learning.{MayLearn}
use Rattle.batch_workers.specs.Ops.{answer_limit, op_replies, text_after_ops, is_counts, is_at}
use Rattle.batch_workers.specs.Working.{IsRead, edits_of}
use Rattle.batch_workers.specs.declared.jobs.Job.{Job}
use Rattle.batch_workers.specs.declared.jobs.Done.{Done}

-- How many bytes of text count as answered before the ops of each of so many jobs: each may answer an equal share of a line's limit
abbrev pub spent_before : ℕ → ℕ
spent_before jobs = answer_limit - answer_limit / jobs

-- The free slots that each of so many jobs gets of the pass, and the credits that it may spend, once each has one as the stake of its
-- share
abbrev pub slots_each : PassSeen → ℕ → ℕ
slots_each p jobs = length p.free / jobs

abbrev pub credits_each : PassSeen → ℕ → ℕ
credits_each p jobs = min ((p.credits - 1 - jobs) / jobs) 8

-- the share of each job shows a free slot and a credit
pub record SharesShow (p : PassSeen) (jobs : ℕ) : Type 0 where
  pub a_slot : 1 ≤ slots_each p jobs
  pub a_credit : 1 ≤ credits_each p jobs

-- a job may be done: its value is of the pass's heap, and its ops are well formed
pub record IsFit (p : PassSeen) (job : Job) : Type 0 where
  pub heap : OfHeap p job.value.place
  pub well_formed : All IsWellFormedOp job.ops

-- One of so many jobs was done as its ops say, as if it were alone: its answers and its text are those of the plain fold. Where nothing
-- was edited the value is as it was but for its breadcrumbs, and it knows them once it was asked for places alone, if shares show what
-- they take
pub record IsDone (p : PassSeen) (jobs : ℕ) (job : Job) (done : Done) : Type 0 where
  pub answers : done.replies ≡ op_replies job.value.text (spent_before jobs) job.ops
  pub text : done.value.text ≡ text_after_ops job.value.text job.ops
  pub unedited : All (λ reply. is_counts reply ≡ false) done.replies → IsRead job.value done.value
  pub learned : job.ops ≢ [] → All (λ op. is_at op ≡ true) job.ops → MayLearn job.value → SharesShow p jobs
      → is_there (side_of done.value.place) ≡ true

-- what was left stands in the order of the jobs
abbrev pub EachDone : PassSeen → ℕ → List Job → List Done → Type 0
EachDone p n [] [] = Unit {0}
EachDone p n [] (d ∷ ds) = ⊥
EachDone p n (j ∷ js) [] = ⊥
EachDone p n (j ∷ js) (d ∷ ds) = IsDone p n j d × EachDone p n js ds

-- the credits that the values hold, before and after, and the edits that the answers tell of
abbrev pub credits_before : List Job → ℕ
credits_before jobs = sum_of (λ (j : Job). credit_of j.value.place) jobs

abbrev pub credits_after : List Done → ℕ
credits_after done = sum_of (λ (d : Done). credit_of d.value.place) done

abbrev pub edits_in : List Done → ℕ
edits_in done = sum_of (λ (d : Done). sum_of edits_of d.replies) done

-- the jobs' own events led from the one pass to the other, of which at most so many publish and none takes a reference
pub record IsMade (p q : PassSeen) (edits : ℕ) : Type 0 where
  pub events : List Event
  pub made : Made events p q
  pub published : sum_of publishes events ≤ edits
  pub retained : sum_of retains events ≡ 0
