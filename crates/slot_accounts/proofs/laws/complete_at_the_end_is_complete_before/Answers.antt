use Rattle.slot_accounts.proofs.Complete.{complete_before}
use Rattle.slot_accounts.proofs.laws.complete_at_the_end_is_complete_before.Goals as goal

pub returns : goal.returns
returns c es ds start p q none made later full = complete_before none made later full
