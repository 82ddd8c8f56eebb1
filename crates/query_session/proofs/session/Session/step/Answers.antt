use Rattle.query_session.proofs.Accounts.{step-accounted}
use Rattle.query_session.proofs.session.Session.step.Goals as goal

pub returns-in-Ok-clause-accounted : goal.returns-in-Ok-clause-accounted
returns-in-Ok-clause-accounted g c =
    step-accounted c.args.self.now _ _ _ _ c.in-Ok.reply c.args.command _ _ c.self.view_is c.self.invariant c.requires.whole c.in-Ok.ensures.stepped
