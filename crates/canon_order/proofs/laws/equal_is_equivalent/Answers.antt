use Rattle.std.proofs.Common.{sym, ap, ◌∙◌}
use Rattle.std.proofs.lemmas.Cmp.{tied_itself, nat_list_cmp_total}
use Rattle.std.specs.Cmp.Lexicographic.{slice_cmp}
use Rattle.std.specs.FinMap.{slice_cmp-IsAntisymmetric, nat_cmp-IsAntisymmetric}
use Rattle.std.specs.Ordering.{nat_cmp}
use Rattle.unicode_normalization.specs.Forms.{nfc}
use Rattle.canon_order.proofs.laws.equal_is_equivalent.Goals as goal

pub returns : goal.returns
returns c = λ a b. (
  slice_cmp-IsAntisymmetric nat_cmp-IsAntisymmetric (nfc a) (nfc b),
  λ same. ap (slice_cmp nat_cmp (nfc a)) (sym same) ∙ tied_itself nat_list_cmp_total (nfc a),
)
