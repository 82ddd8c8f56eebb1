use Rattle.slot_edits.proofs.Texts.{edited-text}
use Rattle.slot_edits.proofs.laws.edited_words_denote_the_replaced_text.Goals as goal

pub returns : goal.returns
returns c known later with text part ascii t is at_low at_high valid e = edited-text known later with text part is at_low at_high valid e
