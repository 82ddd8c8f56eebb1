use Rattle.query_program.proofs.Marks.{counted_more}
use Rattle.query_program.proofs.tally.Tally.take.Goals as goal

pub invariant_of-self : goal.invariant_of-self
invariant_of-self c = counted_more c.self.inside.log.items c.and-self-inside.result.items c.args.byte c.self.inside.count c.self.inside.mark c.and-self-inside.ensures c.self.invariant
