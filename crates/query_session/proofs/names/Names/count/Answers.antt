use Rattle.std.proofs.Common.{sym, ap, ◌∙◌}
use Rattle.std.specs.FinMap as finite
use Rattle.query_session.specs.Values.{Values}
use Rattle.query_session.proofs.Sums.{len-texts}
use Rattle.query_session.proofs.names.Names.count.Goals as goal

pub returns : goal.returns
returns c = c.self.invariant ∙ (ap (λ (m : Values). finite.len m) c.self.view_is ∙ sym (len-texts c.args.self.now))
