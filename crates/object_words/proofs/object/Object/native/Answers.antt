use Rattle.std.proofs.Common.{rules}
use Rattle.object_words.specs.Rows.{native, Describes}
use Rattle.object_words.proofs.Reading.{pair}
use Rattle.object_words.proofs.object.Object.native.Goals as goal

described : (c : goal.After-form_word) → Describes (native c.args.ascii c.args.nfc c.args.count c.args.slot) (c.count_word.result, c.form_word.result)
described c = record { is_row = (c.requires.ascii_is_nfc, c.requires.count_in, search rules); says = pair c.count_word.ensures c.form_word.ensures }

pub invariant_of-result : goal.invariant_of-result
invariant_of-result c = (native c.args.ascii c.args.nfc c.args.count c.args.slot, described c)

pub returns : goal.returns
returns c = described c
