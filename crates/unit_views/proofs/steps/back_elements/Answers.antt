use Rattle.std.proofs.Common.{◌≡◌, sym, subst, ◌<◌}
use Rattle.text_spec.specs.Offsets.{start, down}
use Rattle.text_spec.specs.Views.{width_in, size_in}
use Rattle.word_units.specs.Walking.{Passes}
use Rattle.unit_views.proofs.Walks.{back, backing_scalars, backing_units}
use Rattle.unit_views.proofs.steps.back_elements.Goals as goal

pub pass_scalar-next-requires-clause-inside : goal.pass_scalar-next-requires-clause-inside
pass_scalar-next-requires-clause-inside g c =
    let p = back (g.T.Text.part c.args.t.now).storage (g.T.Text.part c.args.t.now).whole c.args.at c.args.to c.boundary_at_or_before-previous.result c.requires.begun c.requires.order c.requires.inside c.boundary_at_or_before-previous.ensures.value in
    subst (λ t. c.boundary_at_or_before-previous.result < size_in (g.T.Text.part t).storage (g.T.Text.part t).whole) (sym c.boundary_at_or_before-previous.ensures.kept) p.inside

pub pass_scalar-next-requires-clause-boundary : goal.pass_scalar-next-requires-clause-boundary
pass_scalar-next-requires-clause-boundary g c =
    let p = back (g.T.Text.part c.args.t.now).storage (g.T.Text.part c.args.t.now).whole c.args.at c.args.to c.boundary_at_or_before-previous.result c.requires.begun c.requires.order c.requires.inside c.boundary_at_or_before-previous.ensures.value in
    subst (λ t. start (width_in (g.T.Text.part t).storage) (g.T.Text.part t).whole (down (width_in (g.T.Text.part t).storage) (g.T.Text.part t).whole c.boundary_at_or_before-previous.result) ≡ c.boundary_at_or_before-previous.result)
    (sym c.boundary_at_or_before-previous.ensures.kept) p.boundary

pub returns-in-Scalars-clause-backs : goal.returns-in-Scalars-clause-backs
returns-in-Scalars-clause-backs g c =
    let p = back (g.T.Text.part c.args.t.now).storage (g.T.Text.part c.args.t.now).whole c.args.at c.args.to c.boundary_at_or_before-previous.result c.requires.begun c.requires.order c.requires.inside c.boundary_at_or_before-previous.ensures.value in
    backing_scalars c.args.view _ _ c.args.at c.args.to _ c.in-Scalars.is c.requires.begun c.requires.ends c.requires.order p

pub returns-in-Units-clause-backs : goal.returns-in-Units-clause-backs
returns-in-Units-clause-backs g c =
    let p = back (g.T.Text.part c.args.t.now).storage (g.T.Text.part c.args.t.now).whole c.args.at c.args.to c.boundary_at_or_before-previous.result c.requires.begun c.requires.order c.requires.inside c.boundary_at_or_before-previous.ensures.value in
    backing_units c.args.view _ _ _ _ _ c.args.at c.args.to _ _ _ c.in-Units.is c.requires.across c.requires.begun c.requires.ends c.requires.order p
    (subst (λ t. Passes (g.T.Text.part t) c.boundary_at_or_before-previous.result c.pass_scalar-next.result.0 c.pass_scalar-next.result.1)
    c.boundary_at_or_before-previous.ensures.kept c.pass_scalar-next.ensures.passes)
