use Rattle.slot_accounts.proofs.Beside.{beside}
use Rattle.slot_accounts.proofs.laws.shares_work_beside_each_other.Goals as goal

pub returns : goal.returns
returns c es ds p m n s t r slots credits cut one other back = beside (slots, credits, cut) one other back
