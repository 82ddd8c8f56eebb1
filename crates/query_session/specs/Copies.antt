-- Jobs on copies of the values of names, before they are done and after. m and p are the values and the pass before, n and q after.
use Rattle.std.specs.Prelude.{◌≡◌, ℕ, ◌+◌, All, List, map, Option, String, string_bytes}
use Rattle.std.specs.Option.{option_map}
use Rattle.std.specs.declared.alloc.Global.{Global}
use Rattle.std.specs.FinMap as finite
use Rattle.slot_model.specs.declared.event.Event.{Event}
use Rattle.slot_table.specs.Owners.{PassSeen}
use Rattle.slot_accounts.specs.Account.{Did, Keeps, sum_of}
use Rattle.slot_accounts.specs.Counts.{publishes, retains}
use Rattle.query_lines.specs.declared.command.JobLine.{JobLine}
use Rattle.batch_workers.specs.declared.jobs.Job.{Job}
use Rattle.batch_workers.specs.Batch.{IsFit, credits_before}
use Rattle.query_session.specs.Values.{Values, IsSound, texts_of, credits_in, weight}
use Rattle.query_session.specs.Batched.{EachCopied, credits_read}

abbrev pub Keep : Type 0
Keep = Option (String Global)

abbrev pub keep_bytes : Keep → Option (List ℕ)
keep_bytes keep = option_map string_bytes keep

-- each job has its copy, and the values of the names have the texts and the credits that they had
pub record Copies (m : Values) (p : PassSeen) (lines : List JobLine) (n : Values) (q : PassSeen) (jobs : List Job) (keeps : List Keep) : Type 0 where
  pub copied : EachCopied m p lines n q jobs
  pub events : List Event
  pub did : Did events p q
  pub published : sum_of publishes events ≡ 0
  pub retained : sum_of retains events ≡ credits_read m lines
  pub texts : texts_of n ≡ texts_of m
  pub same : (name : List ℕ) → weight (finite.get n name) ≡ weight (finite.get m name)
  pub sound : IsSound n q
  pub credits : Keeps p (credits_in m) q (credits_in n + credits_before jobs)
  pub fit : All (IsFit q) jobs
  pub names : map keep_bytes keeps ≡ map (λ (line : JobLine). line.keep) lines
