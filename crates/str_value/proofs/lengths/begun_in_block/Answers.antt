use Rattle.std.proofs.Common.{arith}
use Rattle.std.proofs.lemmas.List.Sums.{count_by-le-length}
use Rattle.str_value.specs.Leading.{starts_scalar}
use Rattle.str_value.proofs.Begun.{begun-scalars, begun-pairs}
use Rattle.str_value.proofs.lengths.begun_in_block.Goals as goal

pub returns-clause-scalars : goal.returns-clause-scalars
returns-clause-scalars c =
    omega (arith, begun-scalars c.args.block, c.below-ascii.ensures.count, c.below-before_leads.ensures.count, c.below-before_leads.ensures.few, c.below-ascii.ensures.long)

pub returns-clause-pairs : goal.returns-clause-pairs
returns-clause-pairs c = omega (arith, begun-pairs c.args.block, c.below-before_pairs.ensures.count, c.below-ascii.ensures.long)

pub returns-clause-few : goal.returns-clause-few
returns-clause-few c =
    let scalars = begun-scalars c.args.block in
    let most = count_by-le-length starts_scalar c.args.block in
    (omega (arith, scalars, most, c.below-ascii.ensures.count, c.below-before_leads.ensures.count, c.below-before_leads.ensures.few, c.below-ascii.ensures.long), omega arith)
