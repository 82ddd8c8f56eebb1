use Rattle.std.proofs.Common.{◌≡◌, ◌+◌, length, sym, ap, ◌∙◌, arith}
use Rattle.std.proofs.lemmas.Nat.{mod_below}
use Rattle.batch_workers.proofs.Spreading.{spreading_none, spreading_more, spreading_end}
use Rattle.batch_workers.proofs.workers.spread.Goals as goal

pub loop-task-init : goal.loop-task-init
loop-task-init c =
    let same = c.into_iter-task-iterator.ensures.into_iter_gives.0 in
    record {
      spreading = spreading_none c.args.tasks.items c.into_iter-task-iterator.result.rest.items c.args.workers c.in_ok-bundles.bundles.items same c.in_ok-bundles.ensures.0 c.in_ok-bundles.ensures.1;
      count = omega (arith, ap length same);
    }

pub put-requires : goal.put-requires
put-requires c = omega (arith, mod_below c.loop-task.number c.args.workers c.requires, c.loop-task.invariant.spreading.len)

pub loop-task-preserved : goal.loop-task-preserved
loop-task-preserved c =
    let steps = c.in-Some.ensures.steps.0 in
    let more : length c.loop-task.task-iterator.rest.items ≡ length c.next.new.self.rest.items + 1 = ap length steps ∙ omega arith in
    record {
      spreading = spreading_more c.args.tasks.items c.loop-task.task-iterator.rest.items c.next.new.self.rest.items c.loop-task.number c.args.workers c.loop-task.bundles.items c.put.new.bundles.items c.in-Some.task
          c.loop-task.invariant.spreading steps c.in_ok-put.ensures;
      count = omega (arith, c.loop-task.invariant.count, more);
    }

pub returns : goal.returns
returns c =
    let left = c.loop-task.task-iterator.rest in
    spreading_end c.args.tasks.items left.items c.loop-task.number c.args.workers c.loop-task.bundles.items c.loop-task.invariant.spreading (sym left.ok.0 ∙ c.in-None.ensures.steps.0)
