use Rattle.std.proofs.Common.{◌||◌, take, sym, ap, ◌∙◌}
use Rattle.query_session.specs.Kept.{with_keeps}
use Rattle.query_session.specs.State.{is_in_use}
use Rattle.query_session.specs.Values.{texts_of}
use Rattle.query_session.proofs.Counting.{in-use-more}
use Rattle.query_session.proofs.kept.is_in_use_after.Goals as goal
use Rattle.query_session.proofs.kept.is_in_use_after.Goals.{then-keeps, else-keeps}

pub loop-job-preserved : goal.loop-job-preserved
loop-job-preserved c =
    let s = texts_of c.args.names.now in
    let used = is_in_use (with_keeps s (take c.loop-job.job-index c.args.jobs.now)) c.args.name.now in
    let more = in-use-more s c.args.jobs.now c.loop-job.job-index c.job-item.result c.args.name.now c.loop-job-test.true c.job-item.is in
    elim c.if-keeps.branch [
      | then-keeps w ↦ w.found-is ∙ (w.if-keeps.true ∙ ap (λ b. b || used) (sym w.if-keeps.true ∙ c.keeps.ensures) ∙ sym more)
      | else-keeps w ↦ w.found-is ∙ (c.loop-job.invariant ∙ (ap (λ b. b || used) (sym w.if-keeps.false ∙ c.keeps.ensures) ∙ sym more))
    ]
