-- The slot gets its side first, and then the side is set.
use Rattle.std.proofs.Common.{sym, ap, ◌∙◌, Some, set}
use Rattle.std.proofs.lemmas.List.{map-set}
use Rattle.slot_model.specs.History.{sided, side_of, installed}
use Rattle.slot_model.specs.Checking.{slot_in, heap_in}
use Rattle.slot_model.proofs.Kept.{heap_in-changed}
use Rattle.slot_model.proofs.advance.install_at.Goals as goal

pub returns-in-None : goal.returns-in-None
returns-in-None c =
    let s = c.args.slots.now in
    let x = c.args.slot in
    let d = c.args.side in
    let h = heap_in s in
    map-set slot_in (set s x c.set_side.new.self) d _ ∙ (ap (λ g. set g d (side_of x c.args.words.now)) (heap_in-changed (sided (Some d)) s x c.index-slots-slot.result _ c.requires.slot_within c.set_side.ensures) ∙ ap (λ f. installed h x d c.args.words.now f) (sym c.in-None.is))
