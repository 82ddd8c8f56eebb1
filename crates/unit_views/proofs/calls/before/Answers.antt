use Rattle.std.proofs.Common.{◌≡◌, refl, ap, subst, ◌∙◌, ℕ, ◌+◌, ◌-◌, ◌<◌, inr, Some, arith}
use Rattle.unit_views.specs.declared.kind.ElementKind.{ElementKind}
use Rattle.unit_views.specs.Elements.{elements_of, element_index}
use Rattle.rounding.specs.Elements.{leaves_text}
use Rattle.unit_views.specs.Spots.{spot_offset}
use Rattle.unit_views.proofs.calls.before.Given.{Over}
use Rattle.unit_views.proofs.calls.before.Goals as goal

abbrev offset_in : (g : Over) → g.row.T.Denot → ElementKind → ℕ → ℕ → ℕ
offset_in g t view at past = spot_offset view (g.T.Text.part t) at past

pub returns-in-Some-clause-previous : goal.returns-in-Some-clause-previous
returns-in-Some-clause-previous g c =
    let t = c.args.t.now in
    let view = c.args.view in
    let here = c.in_ok-spot.spot in
    let there = c.in-Some.previous in
    let moved = subst (λ t. offset_in g t view there.at there.past + 1 ≡ offset_in g t view here.at here.past) c.spot_of.ensures.kept c.in-Some.ensures.moved in
    let index = subst (λ t. c.index_of.result ≡ element_index view (g.T.Text.part t) (offset_in g t view there.at there.past))
    (c.back.ensures.kept ∙ c.spot_of.ensures.kept) c.index_of.ensures.index in (
      offset_in g t view here.at here.past,
      c.in_ok-spot.ensures.offset,
      omega (arith, moved),
      index ∙ ap (element_index view (g.T.Text.part t)) {x = offset_in g t view there.at there.past} {y = offset_in g t view here.at here.past - 1} (omega (arith, moved)),
    )

pub returns-in-None-clause-refused : goal.returns-in-None-clause-refused
returns-in-None-clause-refused g c =
    let t = c.args.t.now in
    let view = c.args.view in
    let here = c.in_ok-spot.spot in
    let few : offset_in g t view here.at here.past < 1 = subst (λ t. offset_in g t view here.at here.past < 1) c.spot_of.ensures.kept (c.in-None.ensures.cause.0 refl) in
    let zero : offset_in g t view here.at here.past ≡ 0 = omega (arith, few) in
    let leaves = subst (λ t. c.leaving.result ≡ leaves_text (elements_of view (g.T.Text.part t)) (offset_in g t view here.at here.past))
    (c.back.ensures.kept ∙ c.spot_of.ensures.kept) c.leaving.ensures in
    inr (c.in_ok-spot.ensures.offset ∙ ap Some zero, leaves ∙ ap (leaves_text (elements_of view (g.T.Text.part t))) zero)
