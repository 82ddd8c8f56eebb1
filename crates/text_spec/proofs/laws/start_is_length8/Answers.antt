use Rattle.text_spec.proofs.Lengths.{start-utf8}
use Rattle.text_spec.proofs.laws.start_is_length8.Goals as goal

pub returns : goal.returns
returns c = record { length8 = start-utf8 }
