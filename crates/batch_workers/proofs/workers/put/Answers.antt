use Rattle.batch_workers.proofs.Spreading.{pushed}
use Rattle.batch_workers.proofs.workers.put.Goals as goal

pub returns : goal.returns
returns c = pushed c.args.bundles.now.items c.args.worker c.index_mut.result.now c.push.new.self c.args.task c.requires c.index_mut.ensures.value c.in_ok-push.ensures.items
