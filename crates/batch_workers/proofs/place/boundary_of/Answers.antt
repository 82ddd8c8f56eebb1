use Rattle.std.proofs.Common.{ap, ◌∙◌}
use Rattle.text_spec.specs.Offsets.{start, down}
use Rattle.text_spec.specs.Views.{width_in}
use Rattle.str_value.specs.Meaning.{storage_of}
use Rattle.batch_workers.proofs.Boundaries.{boundary-at}
use Rattle.batch_workers.proofs.place.boundary_of.Goals as goal

pub returns-in-Utf8-clause-boundary : goal.returns-in-Utf8-clause-boundary
returns-in-Utf8-clause-boundary g c =
    let e = storage_of c.args.text.now.row in
    let t = c.args.text.now.text in
    boundary-at e t c.args.edge.place _ _ c.requires.boundary c.offset_in.ensures.offset
    (c.requires.offset ∙ ap (λ unit. start (width_in unit) t (down (width_in e) t c.args.edge.place)) c.in-Utf8.is)

pub returns-in-Utf16-clause-boundary : goal.returns-in-Utf16-clause-boundary
returns-in-Utf16-clause-boundary g c =
    let e = storage_of c.args.text.now.row in
    let t = c.args.text.now.text in
    boundary-at e t c.args.edge.place _ _ c.requires.boundary
    (c.requires.offset ∙ ap (λ unit. start (width_in unit) t (down (width_in e) t c.args.edge.place)) c.in-Utf16.is)
    c.offset_in-in-Utf16.ensures.offset
