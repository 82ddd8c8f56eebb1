use Rattle.slot_accounts.proofs.Complete.{slots_left}
use Rattle.slot_accounts.proofs.Slots.{two_a_publish}
use Rattle.slot_accounts.proofs.laws.two_slots_a_publish.Goals as goal

pub returns-clause-taken : goal.returns-clause-taken
returns-clause-taken g c = two_a_publish g.A.Attach.fits

pub returns-clause-left : goal.returns-clause-left
returns-clause-left g c k es start p none made full legal = slots_left g.A.Attach.fits k none made full legal
