use Rattle.object_words.proofs.Forms.{small_text}
use Rattle.object_words.proofs.laws.small_words_hold_the_text.Goals as goal

pub returns : goal.returns
returns c = small_text
