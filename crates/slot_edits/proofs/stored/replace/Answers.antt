use Rattle.std.proofs.Common.{◌≡◌, Some, ap, ◌∙◌}
use Rattle.slot_edits.proofs.Copies.{object-after, where-none}
use Rattle.slot_edits.proofs.stored.replace.Goals as goal

pub returns-in-Some-copied-clause-copied : goal.returns-in-Some-copied-clause-copied
returns-in-Some-copied-clause-copied g c = λ object e.
    let first = c.replace_in_place-reference in
    let then = c.replace_copied-reference in
    let same : c.in-Some-copied.object ≡ object = cc in
    object-after c.args.pass.now first.new.pass then.new.pass c.args.reference first.result.0 then.result.0 c.args.part c.args.with.now then.result.1 object
    (c.in-Some-copied.is ∙ ap Some same) (where-none first.result.1 c.in-None.is first.ensures.shared) first.ensures.credits then.ensures.copied then.ensures.object
