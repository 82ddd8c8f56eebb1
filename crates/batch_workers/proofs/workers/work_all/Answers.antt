use Rattle.std.proofs.Common.{sym, ◌∙◌}
use Rattle.batch_workers.proofs.Spreading.{taking_none, taking_more, taking_end}
use Rattle.batch_workers.proofs.workers.work_all.Goals as goal

pub loop-result-init : goal.loop-result-init
loop-result-init g c = record {
  taking = taking_none c.args.spent c.args.bundles.items _ c.in_ok-results.results.items c.into_iter-result-iterator.result.rest.items c.into_iter-result-iterator.ensures.into_iter_gives.0
      c.in_ok-worked.ensures.items c.in_ok-results.ensures.len c.in_ok-results.ensures.each;
}

pub loop-result-preserved : goal.loop-result-preserved
loop-result-preserved g c = record {
  taking = taking_more c.args.spent c.args.bundles.items c.loop-result.worked.items c.push.new.self.items c.loop-result.result-iterator.rest.items c.next.new.self.rest.items c.in-Some.result c.in_ok-finished.finished
      c.loop-result.invariant.taking c.in-Some.ensures.steps.0 c.in_ok-finished.was c.in_ok-push.ensures.items;
}

pub returns : goal.returns
returns g c =
    let left = c.loop-result.result-iterator.rest in
    taking_end c.args.spent c.args.bundles.items c.loop-result.worked.items left.items c.loop-result.invariant.taking (sym left.ok.0 ∙ c.in-None.ensures.steps.0)
