use Rattle.std.proofs.Common.{arith, sym, ap, ◌∙◌, Some}
use Rattle.std.proofs.lemmas.Option.{slice_get-get_or, slice_get_past}
use Rattle.text_spec.specs.Offsets.{down}
use Rattle.text_spec.specs.Views.{width_in}
use Rattle.text_spec.proofs.Walk.{down-next, down-end}
use Rattle.str_value.specs.Meaning.{storage_of}
use Rattle.batch_workers.proofs.place.scalar_from.Goals as goal

pub returns-then-place-count-clause-value : goal.returns-then-place-count-clause-value
returns-then-place-count-clause-value g c =
    let w = width_in (storage_of c.args.text.now.row) in
    let t = c.args.text.now.text in
    let end = down-end w t c.args.place (omega (arith, c.count.ensures.value, c.if-place-count.true)) in
    sym (slice_get_past t (down w t c.args.place) (omega (arith, end)))

pub returns-clause-value : goal.returns-clause-value
returns-clause-value g c =
    let w = width_in (storage_of c.args.text.now.row) in
    let t = c.args.text.now.text in
    let near = down-next w t c.args.place (omega (arith, c.count.ensures.value, c.if-place-count.false)) in
    ap Some c.scalar_at-scalar.ensures.scalar ∙ sym (slice_get-get_or t (down w t c.args.place) 0 near.0)
