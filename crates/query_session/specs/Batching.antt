-- What a batch is answered, and what the names stand for afterwards. Each job works on the text that its name had before the line.
use Rattle.std.specs.Prelude.{ℕ, List, [], ◌∷◌, map, length, nat_lt, if◌then◌else◌, Option, Some, None}
use Rattle.std.specs.Option.{unwrap_or}
use Rattle.std.specs.FinMap as finite
use Rattle.query_lines.specs.declared.command.JobLine.{JobLine}
use Rattle.query_lines.specs.declared.reply.OpReply.{OpReply}
use Rattle.query_lines.specs.declared.reply.Refusal.TheVariants as refusal
use Rattle.query_lines.specs.declared.reply.Reply.{Reply}
use Rattle.query_lines.specs.declared.reply.Reply.TheVariants as reply
use Rattle.batch_workers.specs.Ops.{op_replies, text_after_ops}
use Rattle.batch_workers.specs.Batch.{spent_before}
use Rattle.query_session.specs.State.{State, text_of, is_in_use, name_limit}
use Rattle.query_session.specs.Keeping.{kept}

-- the first of the jobs' names that isn't in use
abbrev pub first_unused : State → List JobLine → Option (List ℕ)
first_unused state [] = None
first_unused state (job ∷ jobs) = if is_in_use state job.name then first_unused state jobs else Some job.name

-- the text of a job's name, which is in use
abbrev pub job_text : State → JobLine → List ℕ
job_text state job = unwrap_or (text_of state job.name) []

-- what one of so many jobs answers: an equal share of the line's limit is left to it
abbrev pub job_replies : State → ℕ → JobLine → List OpReply
job_replies state jobs job = op_replies (job_text state job) (spent_before jobs) job.ops

-- what a job keeps: the text that its ops leave, under a name or not
abbrev pub text_kept : State → JobLine → Option (List ℕ) × List ℕ
text_kept state job = (job.keep, text_after_ops (job_text state job) job.ops)

-- the state once the texts of all jobs are kept, in order
abbrev pub state_kept : State → List JobLine → State
state_kept state jobs = kept state (map (text_kept state) jobs)

-- the jobs are done, unless more names than may be would be in use then
abbrev pub jobs_reply : State → List JobLine → Reply × State
jobs_reply state jobs = if nat_lt name_limit (finite.len (state_kept state jobs)) then (reply.Refused refusal.TooManyNames, state)
    else (reply.Jobs (map (job_replies state (length jobs)) jobs), state_kept state jobs)

-- the same, unless the first of the jobs' names that isn't in use is told
abbrev pub batch_reply : State → List JobLine → Option (List ℕ) → Reply × State
batch_reply state jobs (Some name) = (reply.Refused (refusal.NoName name), state)
batch_reply state jobs None = jobs_reply state jobs
