use Rattle.std.proofs.Common.{rules, ◌<◌, ◌∙◌, arith}
use Rattle.batch_workers.specs.Sharing.{IsReady}
use Rattle.batch_workers.proofs.Spreading.{spread-all, as_many}
use Rattle.batch_workers.proofs.Shares.{each_ready}
use Rattle.batch_workers.proofs.Batches.{ordered, all_together}
use Rattle.batch_workers.specs.Batch.{spent_before}
use Rattle.batch_workers.proofs.batch.run_batch.Goals as goal

pub work_all-requires-clause-ready : goal.work_all-requires-clause-ready
work_all-requires-clause-ready g c κs within =
    spread-all IsReady c.in_ok-tasks.tasks.items c.in_ok-bundles.bundles.items
    (each_ready c.args.pass.now c.deal.new.pass c.args.jobs.items c.in_ok-tasks.tasks.items c.requires.fit c.in_ok-tasks.ensures.dealt) c.in_ok-bundles.ensures.1

pub gather-requires-clause-some : goal.gather-requires-clause-some
gather-requires-clause-some g c =
    let some : 0 < c.min.result = search rules in
    let many = as_many (spent_before c.len-count.result) c.in_ok-bundles.bundles.items c.in_ok-worked.worked.items c.in_ok-worked.ensures in
    omega (arith, some, many, c.in_ok-bundles.ensures.0)

pub gather-requires-clause-spread : goal.gather-requires-clause-spread
gather-requires-clause-spread g c =
    let some : 0 < c.min.result = search rules in
    ordered c.len-count.result c.args.pass.now c.deal.new.pass c.args.jobs.items c.in_ok-tasks.tasks.items c.in_ok-bundles.bundles.items c.in_ok-worked.worked.items
    (c.len-count.ensures ∙ c.args.jobs.ok.0) (omega (arith, some, c.in_ok-bundles.ensures.0)) c.in_ok-tasks.ensures.dealt c.in_ok-bundles.ensures.1 c.in_ok-worked.ensures

pub returns-clause-done : goal.returns-clause-done
returns-clause-done g c =
    let some : 0 < c.min.result = search rules in
    (all_together c.len-count.result c.args.pass.now c.deal.new.pass c.args.jobs.items c.in_ok-tasks.tasks.items c.in_ok-bundles.bundles.items c.in_ok-worked.worked.items
    (c.len-count.ensures ∙ c.args.jobs.ok.0) (omega (arith, some, c.in_ok-bundles.ensures.0)) c.in_ok-tasks.ensures.dealt c.in_ok-bundles.ensures.1 c.in_ok-worked.ensures
    c.gather.new.pass c.in_ok-done.done.items c.in_ok-done.ensures.gathered).done

pub returns-clause-shown : goal.returns-clause-shown
returns-clause-shown g c =
    let some : 0 < c.min.result = search rules in
    (all_together c.len-count.result c.args.pass.now c.deal.new.pass c.args.jobs.items c.in_ok-tasks.tasks.items c.in_ok-bundles.bundles.items c.in_ok-worked.worked.items
    (c.len-count.ensures ∙ c.args.jobs.ok.0) (omega (arith, some, c.in_ok-bundles.ensures.0)) c.in_ok-tasks.ensures.dealt c.in_ok-bundles.ensures.1 c.in_ok-worked.ensures
    c.gather.new.pass c.in_ok-done.done.items c.in_ok-done.ensures.gathered).shown

pub returns-clause-made : goal.returns-clause-made
returns-clause-made g c =
    let some : 0 < c.min.result = search rules in
    (all_together c.len-count.result c.args.pass.now c.deal.new.pass c.args.jobs.items c.in_ok-tasks.tasks.items c.in_ok-bundles.bundles.items c.in_ok-worked.worked.items
    (c.len-count.ensures ∙ c.args.jobs.ok.0) (omega (arith, some, c.in_ok-bundles.ensures.0)) c.in_ok-tasks.ensures.dealt c.in_ok-bundles.ensures.1 c.in_ok-worked.ensures
    c.gather.new.pass c.in_ok-done.done.items c.in_ok-done.ensures.gathered).made

pub returns-clause-credits : goal.returns-clause-credits
returns-clause-credits g c =
    let some : 0 < c.min.result = search rules in
    (all_together c.len-count.result c.args.pass.now c.deal.new.pass c.args.jobs.items c.in_ok-tasks.tasks.items c.in_ok-bundles.bundles.items c.in_ok-worked.worked.items
    (c.len-count.ensures ∙ c.args.jobs.ok.0) (omega (arith, some, c.in_ok-bundles.ensures.0)) c.in_ok-tasks.ensures.dealt c.in_ok-bundles.ensures.1 c.in_ok-worked.ensures
    c.gather.new.pass c.in_ok-done.done.items c.in_ok-done.ensures.gathered).credits

pub returns-clause-heap : goal.returns-clause-heap
returns-clause-heap g c =
    let some : 0 < c.min.result = search rules in
    (all_together c.len-count.result c.args.pass.now c.deal.new.pass c.args.jobs.items c.in_ok-tasks.tasks.items c.in_ok-bundles.bundles.items c.in_ok-worked.worked.items
    (c.len-count.ensures ∙ c.args.jobs.ok.0) (omega (arith, some, c.in_ok-bundles.ensures.0)) c.in_ok-tasks.ensures.dealt c.in_ok-bundles.ensures.1 c.in_ok-worked.ensures
    c.gather.new.pass c.in_ok-done.done.items c.in_ok-done.ensures.gathered).heap
