use Rattle.canon_order.proofs.AsciiCodes.{nfc-ascii}
use Rattle.canon_order.proofs.laws.ascii_is_its_own_form.Goals as goal

pub returns : goal.returns
returns c = nfc-ascii
