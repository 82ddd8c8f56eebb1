use Rattle.std.proofs.Common.{◌≡◌, inr, subst, ◌∙◌, ℕ, Some, pos, ◌+ℤ◌, arith, to_z-of_z}
use Rattle.std.proofs.lemmas.Int.{ints}
use Rattle.unit_views.specs.declared.kind.ElementKind.{ElementKind}
use Rattle.rounding.specs.Refusals.{IsOutOfRange}
use Rattle.rounding.proofs.Places.{mapped_some}
use Rattle.unit_views.specs.Elements.{element_offset}
use Rattle.unit_views.specs.Spots.{spot_offset}
use Rattle.unit_views.proofs.calls.distance.Given.{Over}
use Rattle.unit_views.proofs.calls.distance.Goals as goal

abbrev offset_in : (g : Over) → g.row.T.Denot → ElementKind → ℕ → ℕ → ℕ
offset_in g t view at past = spot_offset view (g.T.Text.part t) at past

pub returns-in-Ok-clause-elements : goal.returns-in-Ok-clause-elements
returns-in-Ok-clause-elements g c =
    let t = c.args.t.now in
    let view = c.args.view in
    let here = c.in_ok-start.start in
    let there = c.in-Ok.there in
    let value = subst (λ t. pos (offset_in g t view here.at here.past) +ℤ c.apart.result ≡ pos (offset_in g t view there.at there.past))
    (c.spot_of-2.ensures.kept ∙ c.spot_of.ensures.kept) c.apart.ensures.value in (
      offset_in g t view here.at here.past,
      offset_in g t view there.at there.past,
      c.in_ok-start.ensures.offset,
      subst (λ t. element_offset view (g.T.Text.part t) c.args.to ≡ Some (offset_in g t view there.at there.past))
          c.spot_of.ensures.kept c.in-Ok.ensures.offset,
      grind (arith, ints, to_z-of_z),
    )

pub returns-in-Err-clause-refused : goal.returns-in-Err-clause-refused
returns-in-Err-clause-refused g c =
    let first = mapped_some _ _ _ c.in_ok-start.ensures.offset in
    inr (first.0, first.1, subst (λ t. IsOutOfRange (g.T.Text.part t) c.args.to c.in-Err.out) c.spot_of.ensures.kept c.in-Err.ensures.refused)
