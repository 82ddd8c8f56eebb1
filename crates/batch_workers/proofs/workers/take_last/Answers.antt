use Rattle.batch_workers.proofs.Spreading.{popped, popped-none}
use Rattle.batch_workers.proofs.workers.take_last.Goals as goal

pub returns-clause-some : goal.returns-clause-some
returns-clause-some c = popped c.args.bundles.now.items c.args.worker c.index_mut.result.now c.pop.new.self c.pop.result c.requires c.index_mut.ensures.value c.pop.ensures.items

pub returns-clause-none : goal.returns-clause-none
returns-clause-none c =
    popped-none c.args.bundles.now.items c.args.worker c.index_mut.result.now c.pop.new.self c.pop.result c.requires c.index_mut.ensures.value c.pop.ensures.cases
