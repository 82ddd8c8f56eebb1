use Rattle.slot_accounts.proofs.Counts.{published_in_order}
use Rattle.slot_accounts.proofs.laws.words_are_published_in_order.Goals as goal

pub returns : goal.returns
returns c es p q did = published_in_order did
