use Rattle.std.proofs.Common.{inl, length}
use Rattle.slot_accounts.specs.Account.{sum_of}
use Rattle.batch_workers.specs.Working.{edits_of}
use Rattle.batch_workers.proofs.Working.{on_ok-then, worked-either}
use Rattle.batch_workers.proofs.run.run_ops.Goals as goal

pub returns-clause-did : goal.returns-clause-did
returns-clause-did g c =
    let done = worked-either c.run_each.result (sum_of edits_of) c.args.pass.now c.args.s.now c.args.ops.now c.run_each.new.pass c.run_each.new.s (length c.args.ops.now)
    c.run_each.ensures.worked c.run_each.ensures.left in
    (done.1.events, done.1.did)

pub returns-clause-credits : goal.returns-clause-credits
returns-clause-credits g c =
    let done = worked-either c.run_each.result (sum_of edits_of) c.args.pass.now c.args.s.now c.args.ops.now c.run_each.new.pass c.run_each.new.s (length c.args.ops.now)
    c.run_each.ensures.worked c.run_each.ensures.left in
    done.1.credits

pub returns-clause-one_heap : goal.returns-clause-one_heap
returns-clause-one_heap g c =
    let done = worked-either c.run_each.result (sum_of edits_of) c.args.pass.now c.args.s.now c.args.ops.now c.run_each.new.pass c.run_each.new.s (length c.args.ops.now)
    c.run_each.ensures.worked c.run_each.ensures.left in
    done.1.did.one_heap

pub returns-clause-heap : goal.returns-clause-heap
returns-clause-heap g c =
    let done = worked-either c.run_each.result (sum_of edits_of) c.args.pass.now c.args.s.now c.args.ops.now c.run_each.new.pass c.run_each.new.s (length c.args.ops.now)
    c.run_each.ensures.worked c.run_each.ensures.left in
    done.1.heap

pub returns-clause-learned : goal.returns-clause-learned
returns-clause-learned g c =
    on_ok-then c.run_each.result _ _ (λ known some asked may shows. known some asked (record { may = may; can = inl shows })) c.run_each.ensures.learned
