use Rattle.std.proofs.Common.{sym, ◌∙◌, ◌==◌}
use Rattle.rounding.proofs.Places.{index_at_told, boundary_told}
use Rattle.unit_views.proofs.Floors.{ascii_boundary}
use Rattle.unit_views.proofs.spot.unit_index.Goals as goal

pub returns-then-ascii-clause-index : goal.returns-then-ascii-clause-index
returns-then-ascii-clause-index g c =
    index_at_told _ _ _ (0 == 0) c.args.at 0 _ c.encoding-encoding.ensures
    (boundary_told _ _ c.args.at 0 (ascii_boundary _ _ (c.ascii.ensures.below (sym c.ascii.ensures.value ∙ c.if-ascii.true)) (g.T.Text.part c.args.t.now).end c.args.at c.bounds-low.ensures.end_inside c.requires.inside))
    c.index_from.ensures
