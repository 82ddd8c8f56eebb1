use Rattle.std.proofs.Common.{◌≡◌, ap, subst, ◌∙◌, ℕ, ◌+◌, ◌<◌, ◌≤◌, inr, Some, arith}
use Rattle.unit_views.specs.declared.kind.ElementKind.{ElementKind}
use Rattle.unit_views.specs.Elements.{elements_of, element_count, element_index}
use Rattle.rounding.specs.Elements.{leaves_text}
use Rattle.unit_views.specs.Spots.{spot_offset}
use Rattle.unit_views.proofs.calls.after.Given.{Over}
use Rattle.unit_views.proofs.calls.after.Goals as goal

abbrev offset_in : (g : Over) → g.row.T.Denot → ElementKind → ℕ → ℕ → ℕ
offset_in g t view at past = spot_offset view (g.T.Text.part t) at past

pub returns-in-Ok-clause-next : goal.returns-in-Ok-clause-next
returns-in-Ok-clause-next g c =
    let t = c.args.t.now in
    let view = c.args.view in
    let here = c.in_ok-spot.spot in
    let there = c.in-Ok.next in
    let moved = subst (λ t. offset_in g t view there.at there.past ≡ offset_in g t view here.at here.past + 1) c.spot_of.ensures.kept c.in-Ok.ensures.moved in
    let counted = subst (λ t. offset_in g t view there.at there.past ≤ element_count view (g.T.Text.part t)) c.spot_of.ensures.kept c.in-Ok.ensures.spot.counted in
    let index = subst (λ t. c.index_of.result ≡ element_index view (g.T.Text.part t) (offset_in g t view there.at there.past))
    (c.forward.ensures.kept ∙ c.spot_of.ensures.kept) c.index_of.ensures.index in (
      offset_in g t view here.at here.past,
      c.in_ok-spot.ensures.offset,
      omega (arith, moved, counted),
      index ∙ ap (element_index view (g.T.Text.part t)) moved,
    )

pub returns-in-Err-clause-refused : goal.returns-in-Err-clause-refused
returns-in-Err-clause-refused g c =
    let t = c.args.t.now in
    let view = c.args.view in
    let here = c.in_ok-spot.spot in
    let left = subst (λ t. (offset_in g t view here.at here.past + c.in-Err.field-0 ≡ element_count view (g.T.Text.part t)) × (c.in-Err.field-0 < 1)) c.spot_of.ensures.kept c.in-Err.ensures.left in
    let last : offset_in g t view here.at here.past ≡ element_count view (g.T.Text.part t) = omega (arith, left.0, left.1) in
    let leaves = subst (λ t. c.leaving.result ≡ leaves_text (elements_of view (g.T.Text.part t)) (offset_in g t view here.at here.past))
    (c.forward.ensures.kept ∙ c.spot_of.ensures.kept) c.leaving.ensures in
    inr (c.in_ok-spot.ensures.offset ∙ ap Some last, leaves ∙ ap (leaves_text (elements_of view (g.T.Text.part t))) last)
