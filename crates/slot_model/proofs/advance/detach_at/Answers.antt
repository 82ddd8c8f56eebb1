use Rattle.std.proofs.Common.{ap, ◌∙◌}
use Rattle.slot_model.specs.History.{detached, cleared}
use Rattle.slot_model.proofs.Kept.{heap_in-changed}
use Rattle.slot_model.proofs.advance.detach_at.Goals as goal

pub returns : goal.returns
returns c =
    c.clear.ensures ∙ ap (λ h. cleared c.args.found h) (heap_in-changed detached c.args.slots.now c.args.slot c.index-slots-slot.result _ c.requires c.detach.ensures)
