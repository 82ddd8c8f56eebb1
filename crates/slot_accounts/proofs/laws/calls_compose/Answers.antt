use Rattle.slot_accounts.proofs.Doing.{Did-then}
use Rattle.slot_accounts.proofs.Counts.{Made-of, Made-then}
use Rattle.slot_accounts.proofs.laws.calls_compose.Goals as goal

pub returns-clause-did : goal.returns-clause-did
returns-clause-did c es ds p q r first second = Did-then first second

pub returns-clause-made : goal.returns-clause-made
returns-clause-made c es ds p q r first second = Made-then first second

pub returns-clause-did_is_made : goal.returns-clause-did_is_made
returns-clause-did_is_made c es p q did = Made-of did
