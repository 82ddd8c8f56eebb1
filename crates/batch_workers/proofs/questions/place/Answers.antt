use Rattle.std.proofs.Common.{◌≡◌, subst}
use Rattle.std.specs.List.{slice_get}
use Rattle.text_spec.specs.Offsets.{down}
use Rattle.text_spec.specs.Views.{width_in}
use Rattle.str_value.specs.Meaning.{Meaning, storage_of}
use Rattle.batch_workers.proofs.Boundaries.{boundary-there, inside-there}
use Rattle.batch_workers.proofs.Parts.{place-reply}
use Rattle.batch_workers.proofs.questions.place.Goals as goal

pub scalar_from-value-requires-clause-inside : goal.scalar_from-value-requires-clause-inside
scalar_from-value-requires-clause-inside g c =
    rw c.boundary_at.ensures.kept (inside-there (storage_of c.args.text.now.row) c.args.text.now.text _ _ c.in-Ok.ensures.boundary.place)

pub scalar_from-value-requires-clause-boundary : goal.scalar_from-value-requires-clause-boundary
scalar_from-value-requires-clause-boundary g c =
    let is = c.in-Ok.ensures.boundary in
    rw c.boundary_at.ensures.kept (boundary-there (storage_of c.args.text.now.row) c.args.text.now.text _ _ is.inside is.place)

pub returns-in-Ok-clause-answer : goal.returns-in-Ok-clause-answer
returns-in-Ok-clause-answer g c =
    let value = subst (λ (m : Meaning). c.scalar_from-value.result ≡ slice_get m.text (down (width_in (storage_of m.row)) m.text c.in-Ok.boundary.place))
    c.boundary_at.ensures.kept c.scalar_from-value.ensures.value in
    place-reply c.args.unit (storage_of c.args.text.now.row) c.args.text.now.text c.in-Ok.boundary c.scalar_from-value.result c.args.offset
    c.in-Ok.ensures.boundary value c.in-Ok.ensures.inside
