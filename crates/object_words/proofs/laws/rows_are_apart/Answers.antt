use Rattle.object_words.proofs.Forms.{one_row}
use Rattle.object_words.proofs.laws.rows_are_apart.Goals as goal

pub returns : goal.returns
returns c = one_row
