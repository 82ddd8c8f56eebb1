use Rattle.std.proofs.Common.{◌≡◌, subst}
use Rattle.text_spec.specs.Rounding.{Place}
use Rattle.rounding.specs.Resolving.{index_place}
use Rattle.unit_views.specs.Elements.{floor_of}
use Rattle.unit_views.proofs.Floors.{floored}
use Rattle.unit_views.proofs.spot.spot_of.Goals as goal

pub returns-clause-offset : goal.returns-clause-offset
returns-clause-offset g c =
    (floored c.args.view (g.T.Text.part c.args.t.now).storage (g.T.Text.part c.args.t.now).whole (g.T.Text.part c.args.t.now).first (g.T.Text.part c.args.t.now).end c.args.i c.in_ok-index.index _ _ _ _ c.bounds-low.ensures
    c.in_ok-index.ensures.found c.in_ok-index.ensures.resolved
    (subst (λ t. ◌≡◌ {A = Place} (c.floor_spot.result.at, c.floor_spot.result.past) (floor_of c.args.view (g.T.Text.part t) (index_place c.in_ok-index.index)))
    c.resolve.ensures.kept c.floor_spot.ensures.place)).offset

pub returns-clause-spot : goal.returns-clause-spot
returns-clause-spot g c =
    (floored c.args.view (g.T.Text.part c.args.t.now).storage (g.T.Text.part c.args.t.now).whole (g.T.Text.part c.args.t.now).first (g.T.Text.part c.args.t.now).end c.args.i c.in_ok-index.index _ _ _ _ c.bounds-low.ensures
    c.in_ok-index.ensures.found c.in_ok-index.ensures.resolved
    (subst (λ t. ◌≡◌ {A = Place} (c.floor_spot.result.at, c.floor_spot.result.past) (floor_of c.args.view (g.T.Text.part t) (index_place c.in_ok-index.index)))
    c.resolve.ensures.kept c.floor_spot.ensures.place)).spot
