use Rattle.std.proofs.Common.{sym, subst}
use Rattle.str_value.specs.Meaning.{Meaning}
use Rattle.batch_workers.specs.Working.{IsLearnt}
use Rattle.batch_workers.proofs.run.at.Goals as goal

pub returns-clause-worked : goal.returns-clause-worked
returns-clause-worked g c =
    subst (λ (m : Meaning). IsLearnt c.args.pass.now c.args.s.now c.learn.new.pass m) (sym c.place.ensures.kept) c.learn.ensures.worked
