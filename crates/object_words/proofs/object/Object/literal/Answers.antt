use Rattle.std.proofs.Common.{rules}
use Rattle.object_words.specs.Rows.{literal, Describes}
use Rattle.object_words.proofs.Reading.{pair}
use Rattle.object_words.proofs.object.Object.literal.Goals as goal

described : (c : goal.After-form_word) → Describes (literal c.args.ascii c.args.nfc c.args.count c.args.number) (c.count_word.result, c.form_word.result)
described c = record { is_row = (c.requires.ascii_is_nfc, c.requires.count_in, search rules); says = pair c.count_word.ensures c.form_word.ensures }

pub invariant_of-result : goal.invariant_of-result
invariant_of-result c = (literal c.args.ascii c.args.nfc c.args.count c.args.number, described c)

pub returns : goal.returns
returns c = described c
