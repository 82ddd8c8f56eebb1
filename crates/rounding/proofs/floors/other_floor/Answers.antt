use Rattle.std.proofs.Common.{◌≡◌, ◌<◌, ℕ, sym, subst, ap, ◌∙◌, get_or, arith}
use Rattle.text_spec.specs.Offsets.{start, down}
use Rattle.text_spec.specs.Views.{width_in, other_width, size_in}
use Rattle.index_words.specs.Fields.{position_of}
use Rattle.word_units.specs.Walking.{Passes}
use Rattle.rounding.specs.Resolving.{IsFloor, index_at}
use Rattle.rounding.proofs.Places.{floor_index, keeps_none_inside, keeps_none_end, keeps_none_past, keeps_all, units_passed}
use Rattle.rounding.proofs.floors.other_floor.Given.{Over}
use Rattle.rounding.proofs.floors.other_floor.Goals as goal

-- the index of the floor with a transcoded offset
abbrev at_floor : (g : Over) (t : g.row.T.Denot) (i past : ℕ) → ℕ
at_floor g t i past = index_at (g.T.Text.part t) (start (width_in (g.T.Text.part t).storage) (g.T.Text.part t).whole (down (width_in (g.T.Text.part t).storage) (g.T.Text.part t).whole (position_of i)), past)

pub returns-then-at-position-clause-floor : goal.returns-then-at-position-clause-floor
returns-then-at-position-clause-floor g c =
    floor_index _ _ _ _ _ _ _ 0 _ c.boundary_before-at.ensures.floor c.encoding-encoding.ensures c.index_from.ensures
    ∙ ap (at_floor g c.args.t.now c.args.i) (keeps_none_inside _ _ _ _ _ _ _ c.boundary_before-at.ensures.floor (omega (arith, c.if-at-position.true, c.position-position.ensures.value)))

pub returns-then-at-high-clause-floor : goal.returns-then-at-high-clause-floor
returns-then-at-high-clause-floor g c =
    floor_index _ _ _ _ _ _ _ 0 _ c.boundary_before-at.ensures.floor c.encoding-encoding.ensures c.index_from-then-at-high.ensures
    ∙ ap (at_floor g c.args.t.now c.args.i) (keeps_none_end _ _ _ c.args.i (omega (arith, c.if-at-high.true, c.bounds-high.ensures.high_is, c.boundary_before-at.ensures.floor.not_after)))

pub pass_scalar-units-requires-clause-inside : goal.pass_scalar-units-requires-clause-inside
pass_scalar-units-requires-clause-inside g c =
    let before : c.boundary_before-at.result < size_in (g.T.Text.part c.args.t.now).storage (g.T.Text.part c.args.t.now).whole
    = omega (arith, c.if-at-high.false, c.boundary_before-at.ensures.floor.within, c.bounds-high.ensures.high_is, c.bounds-high.ensures.high_inside) in
    subst (λ t. c.boundary_before-at.result < size_in (g.T.Text.part t).storage (g.T.Text.part t).whole) (sym c.boundary_before-at.ensures.kept) before

pub pass_scalar-units-requires-clause-boundary : goal.pass_scalar-units-requires-clause-boundary
pass_scalar-units-requires-clause-boundary g c =
    subst (λ t. start (width_in (g.T.Text.part t).storage) (g.T.Text.part t).whole (down (width_in (g.T.Text.part t).storage) (g.T.Text.part t).whole c.boundary_before-at.result) ≡ c.boundary_before-at.result)
    (sym c.boundary_before-at.ensures.kept) c.boundary_before-at.ensures.floor.boundary

-- what the scalar at the floor takes, of the text as it was
units_here : (g : Over) (old text : g.row.T.Denot) (i at next units : ℕ) → text ≡ old
    → IsFloor (g.T.Text.part old) i at → Passes (g.T.Text.part text) at next units
    → units ≡ other_width (g.T.Text.part old).storage (get_or (g.T.Text.part old).whole (down (width_in (g.T.Text.part old).storage) (g.T.Text.part old).whole (position_of i)) 0)
units_here g old text i at next units same floor passes =
    units_passed _ _ _ _ i at next units floor (subst (λ t. Passes (g.T.Text.part t) at next units) same passes)

pub returns-then-past-units-clause-floor : goal.returns-then-past-units-clause-floor
returns-then-past-units-clause-floor g c =
    let floor = c.boundary_before-at.ensures.floor in
    floor_index _ _ _ _ _ _ _ c.transcoded-past.result _ floor c.encoding-encoding.ensures c.index_from-then-past-units.ensures
    ∙ ap (at_floor g c.args.t.now c.args.i) (c.transcoded-past.ensures.value ∙ keeps_all _ _ _ _ _ c.args.i _ c.pass_scalar-units.result.1 floor
    (omega (arith, c.if-at-position.false, c.position-position.ensures.value))
    (omega (arith, c.if-at-high.false, floor.within, floor.not_after, c.if-at-position.false, c.position-position.ensures.value, c.bounds-high.ensures.high_is))
    (units_here g c.args.t.now _ c.args.i _ _ _ c.boundary_before-at.ensures.kept floor c.pass_scalar-units.ensures.passes)
    (omega (arith, c.if-past-units.true, c.transcoded-past.ensures.value)))

pub returns-clause-floor : goal.returns-clause-floor
returns-clause-floor g c =
    let floor = c.boundary_before-at.ensures.floor in
    floor_index _ _ _ _ _ _ _ 0 _ floor c.encoding-encoding.ensures c.index_from-2.ensures
    ∙ ap (at_floor g c.args.t.now c.args.i) (keeps_none_past _ _ _ c.args.i c.pass_scalar-units.result.1
    (units_here g c.args.t.now _ c.args.i _ _ _ c.boundary_before-at.ensures.kept floor c.pass_scalar-units.ensures.passes)
    (omega (arith, c.if-past-units.false, c.transcoded-past.ensures.value)))
