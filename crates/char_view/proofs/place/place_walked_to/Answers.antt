use Rattle.std.proofs.Common.{◌≡◌, subst, ◌∙◌, ◌+◌}
use Rattle.text_spec.specs.Offsets.{down}
use Rattle.text_spec.specs.Views.{width_in}
use Rattle.char_view.specs.Places.{IsPlace}
use Rattle.char_view.proofs.Parts.{not_past}
use Rattle.char_view.proofs.place.place_walked_to.Goals as goal

pub scalars-preserved : goal.scalars-preserved
scalars-preserved g c =
    let i = c.scalars.invariant in
    let next = c.place_after-at in
    let place = subst (λ t. IsPlace (g.T.Text.part t) next.result.offset next.result.position) i.same next.ensures.place in
    let number = subst (λ t. down (width_in (g.T.Text.part t).storage) (g.T.Text.part t).whole next.result.position ≡ down (width_in (g.T.Text.part t).storage) (g.T.Text.part t).whole c.scalars.at.position + 1) i.same next.ensures.number in
    record {
      same = next.ensures.kept ∙ i.same;
      place = place;
      order = not_past _ _ _ _ c.scalars.at.offset c.scalars.at.position next.result.offset next.result.position c.args.offset i.place place number c.requires.cut c.scalars-test.true;
    }
