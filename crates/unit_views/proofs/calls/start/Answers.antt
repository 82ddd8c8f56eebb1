use Rattle.std.proofs.Common.{ap, ◌∙◌, ◌==◌, arith}
use Rattle.text_spec.specs.Views.{width_in}
use Rattle.word_units.specs.Parts.{all_of}
use Rattle.rounding.specs.Resolving.{index_at}
use Rattle.rounding.proofs.Places.{index_at_told, boundary_told}
use Rattle.unit_views.proofs.Between.{down-mono}
use Rattle.unit_views.proofs.Moves.{start_index}
use Rattle.unit_views.proofs.calls.start.Goals as goal

pub returns : goal.returns
returns g c =
    let e = (g.T.Text.part c.args.t.now).storage in
    let b = (g.T.Text.part c.args.t.now).whole in
    let is = c.bounds-low.ensures in
    start_index c.args.view e b (g.T.Text.part c.args.t.now).first (g.T.Text.part c.args.t.now).end
    (omega (arith, is.first_is, is.end_is, down-mono (width_in e) b c.bounds-low.result.0 c.bounds-low.result.1 is.order)) is.end_inside (omega (arith, is.high_is, is.high_small)) _
    (index_at_told _ e b (0 == 0) c.bounds-low.result.0 0 _ c.encoding.ensures (boundary_told e b c.bounds-low.result.0 0 is.low_boundary) c.index_from.ensures
    ∙ ap (λ p. index_at (all_of e b) (p, 0)) is.low_is)
