-- What a batch does to the values of the names and on the heap. m and p are the values and the pass before, n and q after.
use Rattle.std.specs.Prelude.{◌≡◌, ℕ, ◌≤◌, List, [], ◌∷◌, length, Option}
use Rattle.std.specs.FinMap as finite
use Rattle.slot_model.specs.declared.event.Event.{Event}
use Rattle.slot_table.specs.Owners.{PassSeen}
use Rattle.slot_accounts.specs.Account.{sum_of}
use Rattle.slot_accounts.specs.Counts.{publishes, retains}
use Rattle.str_value.specs.Meaning.{Meaning}
use Rattle.query_lines.specs.declared.command.JobLine.{JobLine}
use Rattle.batch_workers.specs.declared.jobs.Job.{Job}
use Rattle.batch_workers.specs.declared.jobs.Done.{Done}
use Rattle.batch_workers.specs.Batch.{EachDone, edits_in}
use Rattle.query_session.specs.Values.{Values, weight}
use Rattle.query_session.specs.Keeping.{kept}
use Rattle.query_session.specs.Copied.{CopiedIn}

-- the value of the name of each job was copied, one job after another, and is the job's with its ops
abbrev pub EachCopied : Values → PassSeen → List JobLine → Values → PassSeen → List Job → Type 0
EachCopied m p [] n q [] = (n ≡ m) × (q ≡ p)
EachCopied m p [] n q (w ∷ work) = ⊥
EachCopied m p (job ∷ jobs) n q [] = ⊥
EachCopied m p (job ∷ jobs) n q (w ∷ work) =
    (middle : Values) × (between : PassSeen) × CopiedIn m job.name p middle between w.value × (w.ops ≡ job.ops) × EachCopied middle between jobs n q work

-- the values that the jobs left, each with the name under which it is kept, if it is
abbrev pub values_kept : List JobLine → List Done → List (Option (List ℕ) × Meaning)
values_kept [] done = []
values_kept (job ∷ jobs) [] = []
values_kept (job ∷ jobs) (d ∷ done) = (job.keep, d.value) ∷ values_kept jobs done

-- the credits that the values of the jobs' names hold
abbrev pub credits_read : Values → List JobLine → ℕ
credits_read m jobs = sum_of (λ (job : JobLine). weight (finite.get m job.name)) jobs

-- Each job was done on a copy of the value of its name, and the values that they left were kept. No more events publish than edits were
-- done, and one takes a reference for each copy of a value that holds a credit. A value that was copied and not kept over is as it was,
-- but that it may know less of its slot
pub record Batched (m : Values) (p : PassSeen) (jobs : List JobLine) (n : Values) (es : List Event) : Type 0 where
  pub middle : Values
  pub between : PassSeen
  pub work : List Job
  pub done : List Done
  pub copied : EachCopied m p jobs middle between work
  pub worked : EachDone between (length jobs) work done
  pub now : n ≡ kept middle (values_kept jobs done)
  pub published : sum_of publishes es ≤ edits_in done
  pub retained : sum_of retains es ≡ credits_read m jobs
