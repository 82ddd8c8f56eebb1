use Rattle.std.proofs.Common.{◌≡◌, sym, ap, ◌∙◌, ℕ, ◌≤◌, Some, arith}
use Rattle.std.specs.Option.{option_map}
use Rattle.text_spec.specs.Offsets.{start}
use Rattle.text_spec.specs.Views.{width_in}
use Rattle.text_spec.proofs.Downward.{down-length, down-greatest}
use Rattle.text_spec.proofs.Walk.{start-mono}
use Rattle.index_words.specs.Fields.{position_of}
use Rattle.word_units.specs.Parts.{Part, low_of, scalars_before}
use Rattle.rounding.specs.Resolving.{Bounds, IsFloor, IsResolved}
use Rattle.rounding.proofs.Places.{floor_found}
use Rattle.rounding.proofs.resolution.scalar_boundary.Given.{Over}
use Rattle.rounding.proofs.resolution.scalar_boundary.Goals as goal

-- the text begins at the floor or before it
above : (t : Part) (low high index at : ℕ) → Bounds t low high → IsResolved t index → IsFloor t index at → low_of t ≤ at
above t low high index at bounds met floor =
    let w = width_in t.storage in
    let inside : t.first ≤ scalars_before t (position_of index) =
    down-greatest w t.whole (position_of index) t.first (omega (arith, bounds.first_is, down-length w t.whole low)) met.not_below in
    omega (arith, floor.is, start-mono w t.whole t.first (scalars_before t (position_of index)) inside)

-- the boundary that is found is the floor of the resolved index
floor : (g : Over) (c : goal.After-boundary_at_or_before g) → IsFloor (g.T.Text.part c.args.t.now) c.in_ok-index.index c.boundary_at_or_before.result
floor g c =
    floor_found _ _ _ _ _ _ c.in_ok-index.index _ c.bounds-low.ensures c.in_ok-index.ensures.resolved
    (c.boundary_at_or_before.ensures.value
    ∙ ap (λ t. start (width_in (g.T.Text.part t).storage) (g.T.Text.part t).whole (scalars_before (g.T.Text.part t) c.position.result)) c.resolve.ensures.kept
    ∙ ap (λ p. start (width_in (g.T.Text.part c.args.t.now).storage) (g.T.Text.part c.args.t.now).whole (scalars_before (g.T.Text.part c.args.t.now) p)) c.position.ensures.value)

pub returns-clause-number : goal.returns-clause-number
returns-clause-number g c =
    ap (option_map (λ place. scalars_before (g.T.Text.part c.args.t.now) (place.0))) c.in_ok-index.ensures.found ∙ ap Some (sym (floor g c).number)

pub returns-clause-boundary : goal.returns-clause-boundary
returns-clause-boundary g c = (floor g c).boundary

pub returns-clause-low : goal.returns-clause-low
returns-clause-low g c = above _ _ _ c.in_ok-index.index _ c.bounds-low.ensures c.in_ok-index.ensures.resolved (floor g c)

pub returns-clause-high : goal.returns-clause-high
returns-clause-high g c = (floor g c).within
