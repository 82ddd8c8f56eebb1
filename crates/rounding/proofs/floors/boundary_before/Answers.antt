use Rattle.std.proofs.Common.{ap, ◌∙◌}
use Rattle.text_spec.specs.Offsets.{start, down}
use Rattle.text_spec.specs.Views.{width_in}
use Rattle.rounding.proofs.Places.{floor_found}
use Rattle.rounding.proofs.floors.boundary_before.Goals as goal

pub returns-clause-floor : goal.returns-clause-floor
returns-clause-floor g c =
    floor_found _ _ _ _ _ _ _ _ c.bounds-low.ensures c.requires
    (c.boundary_at_or_before.ensures.value ∙ ap (λ p. start (width_in (g.T.Text.part c.args.t.now).storage) (g.T.Text.part c.args.t.now).whole (down (width_in (g.T.Text.part c.args.t.now).storage) (g.T.Text.part c.args.t.now).whole p)) c.position.ensures.value)
