use Rattle.std.proofs.Common.{◌∙◌}
use Rattle.word_units.proofs.Backing.{backs_end}
use Rattle.word_units.proofs.floor.boundary_at_or_before.Goals as goal

pub returns-then-p-count-clause-value : goal.returns-then-p-count-clause-value
returns-then-p-count-clause-value g c =
    backs_end (g.T.Text.part c.args.t.now).storage (g.T.Text.part c.args.t.now).whole c.args.p (c.if-p-count.true ∙ c.count.ensures.value)
