use Rattle.std.proofs.Common.{is_some, sym, ap, ◌∙◌}
use Rattle.std.specs.FinMap as finite
use Rattle.query_session.specs.Values.{Values}
use Rattle.query_session.proofs.Sums.{has-texts}
use Rattle.query_session.proofs.Held.{get-held, some-copied}
use Rattle.query_session.proofs.names.Names.has.Goals as goal

pub returns : goal.returns
returns c =
    c.is_some.ensures ∙ (some-copied c.get.result ∙ (ap is_some (c.get.ensures.value ∙ sym (get-held c.self.inside.values c.args.name.now))
    ∙ (ap (λ (m : Values). finite.contains_key m c.args.name.now) c.self.view_is ∙ sym (has-texts c.args.self.now c.args.name.now))))
