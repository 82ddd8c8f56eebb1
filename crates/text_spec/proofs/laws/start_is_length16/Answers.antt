use Rattle.text_spec.proofs.Lengths.{start-utf16}
use Rattle.text_spec.proofs.laws.start_is_length16.Goals as goal

pub returns : goal.returns
returns c = record { length16 = start-utf16 }
