use Rattle.std.proofs.Common.{ap, rules, chars}
use Rattle.object_words.specs.Rows.{small}
use Rattle.str_value.proofs.Kept.{small-held, small-stored}
use Rattle.str_value.proofs.making_utf8.small.Goals as goal

pub invariant_of-result : goal.invariant_of-result
invariant_of-result c = small-stored c.args.bytes.now c.in_ok-object.object (search rules) c.in_ok-object.ensures.row

pub returns-clause-text : goal.returns-clause-text
returns-clause-text c = ap chars (small-held c.args.bytes.now c.in_ok-object.object (search rules) c.in_ok-object.ensures.row)

pub returns-clause-row : goal.returns-clause-row
returns-clause-row c = ap small (small-held c.args.bytes.now c.in_ok-object.object (search rules) c.in_ok-object.ensures.row)
