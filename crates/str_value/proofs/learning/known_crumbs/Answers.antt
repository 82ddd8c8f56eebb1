use Rattle.str_value.proofs.Crumbing.{count-known}
use Rattle.str_value.proofs.learning.known_crumbs.Goals as goal

pub returns-in-Some-clause-count : goal.returns-in-Some-clause-count
returns-in-Some-clause-count c =
    count-known c.args.reference.now c.known_side.result c.in-Some.field-0 c.side.result c.in-Some.is c.known_side.ensures.side c.requires c.side.ensures.word
