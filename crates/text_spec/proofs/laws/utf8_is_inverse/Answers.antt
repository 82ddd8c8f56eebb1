use Rattle.text_spec.proofs.Decoding.{decode_utf8-utf8, utf8-decode_utf8}
use Rattle.text_spec.proofs.laws.utf8_is_inverse.Goals as goal

pub returns : goal.returns
returns c = record { decoded = decode_utf8-utf8; encoded = utf8-decode_utf8 }
