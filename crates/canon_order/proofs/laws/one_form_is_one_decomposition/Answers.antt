use Rattle.unicode_normalization.proofs.FormsLemmas.{nfd_from_nfc, nfc_from_nfd}
use Rattle.canon_order.proofs.laws.one_form_is_one_decomposition.Goals as goal

pub returns : goal.returns
returns c = λ a b. (nfd_from_nfc a b, nfc_from_nfd a b)
