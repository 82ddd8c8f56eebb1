use Rattle.text_spec.proofs.Decoding.{repair-utf16}
use Rattle.text_spec.proofs.laws.utf16_is_inverse.Goals as goal

pub returns : goal.returns
returns c = record { decoded = repair-utf16 }
