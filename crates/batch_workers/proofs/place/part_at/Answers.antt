use Rattle.std.proofs.Common.{sym, ap, ◌∙◌, arith}
use Rattle.text_spec.specs.declared.encoding.Encoding.TheVariants.{Utf16}
use Rattle.text_spec.specs.Offsets.{len_utf16, start}
use Rattle.text_spec.specs.Views.{width_in}
use Rattle.text_spec.proofs.Downward.{down-length, start-down}
use Rattle.str_value.specs.Meaning.{storage_of}
use Rattle.batch_workers.proofs.Boundaries.{number-there, boundary-there, inside-there}
use Rattle.batch_workers.proofs.place.part_at.Goals as goal

pub place_from-requires-clause-inside : goal.place_from-requires-clause-inside
place_from-requires-clause-inside g c =
    rw c.edge_at.ensures.kept (inside-there (storage_of c.args.text.now.row) c.args.text.now.text _ _ c.in_ok-low.ensures.place)

pub place_from-requires-clause-boundary : goal.place_from-requires-clause-boundary
place_from-requires-clause-boundary g c =
    let t = c.args.text.now.text in
    rw c.edge_at.ensures.kept (boundary-there (storage_of c.args.text.now.row) t _ _ (down-length (width_in Utf16) t c.args.a) c.in_ok-low.ensures.place)

pub place_from-requires-clause-from : goal.place_from-requires-clause-from
place_from-requires-clause-from g c =
    let t = c.args.text.now.text in
    let number = number-there (storage_of c.args.text.now.row) t _ _ (down-length (width_in Utf16) t c.args.a) c.in_ok-low.ensures.place in
    rw c.edge_at.ensures.kept (c.in_ok-low.ensures.offset ∙ ap (start len_utf16 t) (sym number))

pub place_from-requires-clause-later : goal.place_from-requires-clause-later
place_from-requires-clause-later g c = omega (arith, c.in_ok-low.ensures.offset, start-down len_utf16 c.args.text.now.text c.args.a, c.if-b-a.false)
