use Rattle.std.proofs.Common.{◌≡◌, [], Some, ap, ◌∙◌}
use Rattle.slot_edits.specs.Parts.{nothing_of}
use Rattle.slot_edits.proofs.Copies.{object-after}
use Rattle.slot_edits.proofs.stored.reserve.Goals as goal

pub returns-in-Some-clause-copied : goal.returns-in-Some-clause-copied
returns-in-Some-clause-copied g c = λ object e.
    let first = c.ready-reference in
    let then = c.replace_copied-reference in
    let same : c.in-Some.object ≡ object = cc in
    object-after c.args.pass.now first.new.pass then.new.pass c.args.reference first.result.0 then.result.0 (nothing_of c.args.count) [] then.result.1 object
    (c.in-Some.is ∙ ap Some same) (first.ensures.shared c.if-alone.false) first.ensures.credits then.ensures.copied then.ensures.object
