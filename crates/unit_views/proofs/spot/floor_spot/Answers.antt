use Rattle.std.proofs.Common.{sym, ap, ◌∙◌}
use Rattle.unit_views.proofs.Floors.{floor-ascii}
use Rattle.unit_views.proofs.spot.floor_spot.Goals as goal

pub returns-then-ascii-clause-place : goal.returns-then-ascii-clause-place
returns-then-ascii-clause-place g c =
    ap (λ p. (p, 0)) c.position.ensures.value
    ∙ floor-ascii c.args.view (g.T.Text.part c.args.t.now).storage (g.T.Text.part c.args.t.now).whole (c.ascii.ensures.below (sym c.ascii.ensures.value ∙ c.if-ascii.true)) (g.T.Text.part c.args.t.now).first c.args.i (g.T.Text.part c.args.t.now).end
    c.bounds-low.ensures.end_inside c.requires.not_above
