use Rattle.std.proofs.Common.{rules, arith}
use Rattle.str_value.proofs.Unpaired.{units-le-bytes}
use Rattle.str_value.proofs.taking.object_beside_units.Goals as goal

pub owned-requires-clause-count_in : goal.owned-requires-clause-count_in
owned-requires-clause-count_in c = omega (arith, units-le-bytes c.args.units.now (λ i. search (rules, c.type_inv.units i)), c.requires)
