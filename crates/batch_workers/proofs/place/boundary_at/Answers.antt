use Rattle.std.proofs.Common.{sym, ap, subst, ◌∙◌}
use Rattle.text_spec.specs.Offsets.{start, down}
use Rattle.text_spec.specs.Views.{width_in}
use Rattle.text_spec.proofs.Downward.{down-length}
use Rattle.str_value.specs.Meaning.{Meaning, storage_of}
use Rattle.batch_workers.specs.Boundaries.{IsBoundary}
use Rattle.batch_workers.proofs.Boundaries.{number-there, boundary-there, inside-there}
use Rattle.batch_workers.proofs.place.boundary_at.Goals as goal

pub boundary_of-requires-clause-inside : goal.boundary_of-requires-clause-inside
boundary_of-requires-clause-inside g c =
    rw c.edge_at.ensures.kept (inside-there (storage_of c.args.text.now.row) c.args.text.now.text _ _ c.in_ok-edge.ensures.place)

pub boundary_of-requires-clause-boundary : goal.boundary_of-requires-clause-boundary
boundary_of-requires-clause-boundary g c =
    let t = c.args.text.now.text in
    rw c.edge_at.ensures.kept
    (boundary-there (storage_of c.args.text.now.row) t _ _ (down-length (width_in c.args.unit) t c.args.offset) c.in_ok-edge.ensures.place)

pub boundary_of-requires-clause-offset : goal.boundary_of-requires-clause-offset
boundary_of-requires-clause-offset g c =
    let t = c.args.text.now.text in
    let number = number-there (storage_of c.args.text.now.row) t _ _ (down-length (width_in c.args.unit) t c.args.offset) c.in_ok-edge.ensures.place in
    rw c.edge_at.ensures.kept (c.in_ok-edge.ensures.offset ∙ ap (start (width_in c.args.unit) t) (sym number))

pub returns-clause-boundary : goal.returns-clause-boundary
returns-clause-boundary g c =
    let t = c.args.text.now.text in
    let e = storage_of c.args.text.now.row in
    let number = number-there e t _ _ (down-length (width_in c.args.unit) t c.args.offset) c.in_ok-edge.ensures.place in
    let here = subst (λ (m : Meaning). IsBoundary (storage_of m.row) m.text (down (width_in (storage_of m.row)) m.text c.in_ok-edge.edge.place) c.boundary_of.result)
    c.edge_at.ensures.kept c.boundary_of.ensures.boundary in
    subst (λ k. IsBoundary e t k c.boundary_of.result) number here
