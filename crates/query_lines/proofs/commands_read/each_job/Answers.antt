use Rattle.std.proofs.lemmas.List.Elements.{All-push}
use Rattle.query_lines.specs.Commands.{job_in}
use Rattle.query_lines.specs.WellFormed.{IsWellFormedJob}
use Rattle.query_lines.proofs.ItemByItem.{each_item-step}
use Rattle.query_lines.proofs.commands_read.each_job.Goals as goal

-- one more is read, and it is well formed
pub loop-item-preserved : goal.loop-item-preserved
loop-item-preserved c =
    let read = each_item-step job_in c.loop-item.jobs.items _ c.in_ok-job_of.field-0 c.in-Some.item _ _ _ c.in-Some.ensures.steps.0 c.in_ok-job_of.ensures.ok c.in_ok-push.ensures.items c.loop-item.invariant.2 in
    (tt, tt, read, rw c.in_ok-push.ensures.items (All-push IsWellFormedJob c.loop-item.jobs.items c.in_ok-job_of.field-0 c.loop-item.invariant.3 c.in_ok-job_of.ensures.well_formed))
