use Rattle.std.proofs.lemmas.Cmp.{on_total, nat_list_cmp_total}
use Rattle.unicode_normalization.specs.Forms.{nfc}
use Rattle.canon_order.proofs.laws.order_is_total.Goals as goal

pub returns : goal.returns
returns c = on_total nfc nat_list_cmp_total
