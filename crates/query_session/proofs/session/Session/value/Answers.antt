use Rattle.std.proofs.Common.{sym, ap, ◌∙◌}
use Rattle.std.specs.FinMap as finite
use Rattle.query_session.specs.Session.{Shown}
use Rattle.query_session.proofs.Held.{text_in_use}
use Rattle.query_session.proofs.session.Session.value.Goals as goal

pub returns-clause-text : goal.returns-clause-text
returns-clause-text c =
    text_in_use c.args.self.now.values c.args.name.now c.value.result.now
    (ap (λ (s : Shown). finite.get s.values c.args.name.now) (sym c.self.view_is) ∙ c.value.ensures)
