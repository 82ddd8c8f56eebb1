use Rattle.query_session.proofs.Accounts.{nothing-published, nothing-retained}
use Rattle.query_session.proofs.stored.release_old.Goals as goal

pub returns-clause-did : goal.returns-clause-did
returns-clause-did c =
    let d = c.release.ensures.did in (_, nothing-published c.in-Some.value.place d.0 d.1, nothing-retained c.in-Some.value.place d.0 d.1, d.3)
