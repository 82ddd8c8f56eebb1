use Rattle.std.proofs.Common.{◌≡◌, ◌-◌, sym, ap, ◌∙◌, subst, arith}
use Rattle.slot_table.specs.Owners.{PassSeen}
use Rattle.batch_workers.proofs.Gathering.{Gathering, one_left, gathering_some, gathering_same, gathering_more, gathering_end}
use Rattle.batch_workers.proofs.batch.gather.Goals as goal

pub unreachable-requires : goal.unreachable-requires
unreachable-requires c =
    let l = c.loop-left in let e = c.requires.spread in
    gathering_some c.args.pass.now l.pass e.0 c.len-workers.result (l.left - 1) l.worked.items l.done.items l.invariant.some
    (one_left c.args.pass.now l.pass e.0 c.len-workers.result l.left l.worked.items l.done.items c.loop-left-test.true (l.invariant.gathering e.0 e.1 e.2 e.3))
    c.in_default.ensures.none

pub join-requires : goal.join-requires
join-requires c =
    let l = c.loop-left in let e = c.requires.spread in
    gathering_same c.args.pass.now l.pass e.0 c.len-workers.result (l.left - 1) l.worked.items c.take_last.new.bundles.items l.done.items c.in-Some.last l.invariant.some
    (one_left c.args.pass.now l.pass e.0 c.len-workers.result l.left l.worked.items l.done.items c.loop-left-test.true (l.invariant.gathering e.0 e.1 e.2 e.3))
    c.in-Some.ensures.some

pub loop-left-preserved : goal.loop-left-preserved
loop-left-preserved c =
    let l = c.loop-left in
    record {
      gathering = λ fs many spread same.
          gathering_more c.args.pass.now l.pass c.join.new.self fs c.len-workers.result (l.left - 1) l.worked.items c.take_last.new.bundles.items l.done.items c.push.new.self.items c.in-Some.last
          l.invariant.some
          (one_left c.args.pass.now l.pass fs c.len-workers.result l.left l.worked.items l.done.items c.loop-left-test.true (l.invariant.gathering fs many spread same))
          c.in-Some.ensures.some c.join.ensures c.in_ok-push.ensures.items;
      workers = sym c.in-Some.ensures.some.len ∙ l.invariant.workers;
      some = l.invariant.some;
      heap = ap (λ (x : PassSeen). x.heap) c.join.ensures.pass_is ∙ l.invariant.heap;
    }

pub returns-clause-gathered : goal.returns-clause-gathered
returns-clause-gathered c fs many spread same =
    let l = c.loop-left in
    let none : l.left ≡ 0 = omega (arith, c.loop-left-test.false) in
    gathering_end c.args.pass.now l.pass fs c.len-workers.result l.worked.items l.done.items c.reverse.new.self.items
    (subst (λ n. Gathering c.args.pass.now l.pass fs c.len-workers.result n l.worked.items l.done.items) none (l.invariant.gathering fs many spread same)) c.reverse.ensures.items
