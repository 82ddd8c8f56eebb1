use Rattle.made_input.proofs.Lines.{lines-short, made-short}
use Rattle.made_input.proofs.laws.made_input_is_short.Goals as goal

pub returns-clause-lines : goal.returns-clause-lines
returns-clause-lines c = lines-short

pub returns-clause-input : goal.returns-clause-input
returns-clause-input c = made-short
