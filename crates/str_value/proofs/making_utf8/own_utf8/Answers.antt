use Rattle.std.proofs.Common.{rules}
use Rattle.str_value.proofs.Kept.{bytes-stored}
use Rattle.str_value.proofs.making_utf8.own_utf8.Goals as goal

pub invariant_of-result : goal.invariant_of-result
invariant_of-result c =
    bytes-stored _ _ c.args.bytes.now _ c.owned-object.ensures c.is_ascii-ascii.ensures c.in_ok-copy.ensures.items c.requires.utf8
    (λ i. search (rules, c.type_inv.bytes i)) c.requires.limit
