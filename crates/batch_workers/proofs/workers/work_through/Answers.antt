use Rattle.std.proofs.Common.{sym, ◌∙◌, subst}
use Rattle.std.specs.List.{AllByRecursion}
use Rattle.std.proofs.lemmas.List.Elements.{recursion_from_All}
use Rattle.batch_workers.specs.Sharing.{IsReady}
use Rattle.batch_workers.proofs.Spreading.{working_none, working_more, working_end}
use Rattle.batch_workers.proofs.workers.work_through.Goals as goal

pub loop-task-init : goal.loop-task-init
loop-task-init g c =
    let same = c.into_iter-task-iterator.ensures.into_iter_gives.0 in
    record {
      working = working_none c.args.spent c.args.tasks.items c.into_iter-task-iterator.result.rest.items _ same c.in_ok-finished.ensures.items;
      ready = subst (AllByRecursion IsReady) (sym same) (recursion_from_All IsReady c.args.tasks.items c.requires.ready);
    }

pub work_on-requires-clause-ready : goal.work_on-requires-clause-ready
work_on-requires-clause-ready g c = λ _ _. (subst (AllByRecursion IsReady) c.in-Some.ensures.steps.0 c.loop-task.invariant.ready).0

pub loop-task-preserved : goal.loop-task-preserved
loop-task-preserved g c =
    let steps = c.in-Some.ensures.steps.0 in
    record {
      working = working_more c.args.spent c.args.tasks.items c.loop-task.task-iterator.rest.items c.next.new.self.rest.items c.loop-task.finished.items c.push.new.self.items c.in-Some.task c.in_ok-done.done
          c.loop-task.invariant.working steps c.in_ok-done.ensures c.in_ok-push.ensures.items;
      ready = (subst (AllByRecursion IsReady) steps c.loop-task.invariant.ready).1;
    }

pub returns : goal.returns
returns g c =
    let left = c.loop-task.task-iterator.rest in
    working_end c.args.spent c.args.tasks.items left.items c.loop-task.finished.items c.loop-task.invariant.working (sym left.ok.0 ∙ c.in-None.ensures.steps.0)
