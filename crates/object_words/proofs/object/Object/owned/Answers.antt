use Rattle.object_words.specs.Rows.{owned, Describes}
use Rattle.object_words.proofs.Reading.{pair}
use Rattle.object_words.proofs.object.Object.owned.Goals as goal

described : (c : goal.After-form_word) → Describes (owned c.args.utf16 c.args.ascii c.args.nfc c.args.count) (c.count_word.result, c.form_word.result)
described c = record { is_row = (c.requires.ascii_is_nfc, c.requires.nfc_is_ascii, c.requires.count_in); says = pair c.count_word.ensures c.form_word.ensures }

pub invariant_of-result : goal.invariant_of-result
invariant_of-result c = (owned c.args.utf16 c.args.ascii c.args.nfc c.args.count, described c)

pub returns : goal.returns
returns c = described c
