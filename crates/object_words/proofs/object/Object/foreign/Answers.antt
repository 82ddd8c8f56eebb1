use Rattle.std.proofs.Common.{rules}
use Rattle.object_words.specs.Rows.{foreign, Describes}
use Rattle.object_words.proofs.Reading.{pair}
use Rattle.object_words.proofs.object.Object.foreign.Goals as goal

described : (c : goal.After-form_word) → Describes (foreign c.args.ascii c.args.count c.args.slot) (c.count_word.result, c.form_word.result)
described c = record { is_row = (c.requires, search rules); says = pair c.count_word.ensures c.form_word.ensures }

pub invariant_of-result : goal.invariant_of-result
invariant_of-result c = (foreign c.args.ascii c.args.count c.args.slot, described c)

pub returns : goal.returns
returns c = described c
