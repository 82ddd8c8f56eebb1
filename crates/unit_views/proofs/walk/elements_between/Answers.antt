use Rattle.std.proofs.Common.{ap, ◌∙◌, arith}
use Rattle.text_spec.specs.Offsets.{start, down}
use Rattle.text_spec.specs.Views.{width_in}
use Rattle.unit_views.specs.Elements.{view_width}
use Rattle.unit_views.proofs.Walks.{walked_end, back_most}
use Rattle.unit_views.proofs.walk.elements_between.Goals as goal

pub returns-clause-value : goal.returns-clause-value
returns-clause-value g c =
    let e = (g.T.Text.part c.args.t.now).storage in
    let b = (g.T.Text.part c.args.t.now).whole in
    let ends = walked_end c.args.view e b c.args.from c.args.to _ _ _ c.walk_on-at.ensures.walked c.requires.inside (omega (arith, c.count-count.ensures.value, c.count-count.ensures.small)) (omega arith) in
    c.walk_on-at.ensures.walked.counted ∙ ap (λ p. start (view_width c.args.view) b (down (width_in e) b p)) ends

pub returns-clause-small : goal.returns-clause-small
returns-clause-small g c =
    let e = (g.T.Text.part c.args.t.now).storage in
    let b = (g.T.Text.part c.args.t.now).whole in
    omega (
      arith,
      c.walk_on-at.ensures.walked.counted,
      back_most c.args.view e b c.walk_on-at.result.0 (omega (arith, c.walk_on-at.ensures.walked.within, c.requires.inside)) (omega (arith, c.count-count.ensures.value, c.count-count.ensures.small)),
    )
