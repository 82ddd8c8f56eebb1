use Rattle.slot_accounts.proofs.Whole.{whole_history}
use Rattle.slot_accounts.proofs.Complete.{counted_whole}
use Rattle.slot_accounts.proofs.laws.own_events_are_the_history.Goals as goal

pub returns-clause-whole : goal.returns-clause-whole
returns-clause-whole c = whole_history

pub returns-clause-counted : goal.returns-clause-counted
returns-clause-counted c weight es p q none made full = counted_whole weight none made full
