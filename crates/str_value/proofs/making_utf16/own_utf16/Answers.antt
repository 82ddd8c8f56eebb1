use Rattle.std.proofs.Common.{rules, arith}
use Rattle.str_value.proofs.Kept.{units-stored}
use Rattle.str_value.proofs.Unpaired.{units-le-bytes}
use Rattle.str_value.proofs.making_utf16.own_utf16.Goals as goal

pub owned-object-requires-clause-count_in : goal.owned-object-requires-clause-count_in
owned-object-requires-clause-count_in c = omega (arith, units-le-bytes c.args.units.now (λ i. search (rules, c.type_inv.units i)), c.requires)

pub invariant_of-result : goal.invariant_of-result
invariant_of-result c =
    units-stored _ _ c.args.units.now _ c.owned-object.ensures c.are_ascii-ascii.ensures c.in_ok-copy.ensures.items
    (λ i. search (rules, c.type_inv.units i)) c.requires
