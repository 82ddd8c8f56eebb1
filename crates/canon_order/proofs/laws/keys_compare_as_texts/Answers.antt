use Rattle.unicode_normalization.specs.Forms.{nfc}
use Rattle.canon_order.proofs.Encoded.{utf8_compares}
use Rattle.canon_order.proofs.laws.keys_compare_as_texts.Goals as goal

pub returns : goal.returns
returns c = λ a b. utf8_compares (nfc a) (nfc b)
