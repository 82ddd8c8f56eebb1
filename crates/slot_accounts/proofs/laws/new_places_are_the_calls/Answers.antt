use Rattle.slot_accounts.proofs.Counts.{new_are, new_only}
use Rattle.slot_accounts.proofs.laws.new_places_are_the_calls.Goals as goal

pub returns-clause-new : goal.returns-clause-new
returns-clause-new c = new_are

pub returns-clause-no_other : goal.returns-clause-no_other
returns-clause-no_other c = new_only
