use Rattle.slot_accounts.proofs.Runs.{Strung-one, Strung-then, Did-strung}
use Rattle.slot_accounts.proofs.laws.events_between_meetings_are_the_passes.Goals as goal

pub returns-clause-one : goal.returns-clause-one
returns-clause-one g c k e s t adds = Strung-one g.A.Attach.fits k s t e adds

pub returns-clause-then : goal.returns-clause-then
returns-clause-then g c es ds r s t first second = Strung-then first second

pub returns-clause-did : goal.returns-clause-did
returns-clause-did g c = Did-strung
