-- The slot that the event names changes as the heap's does.
use Rattle.std.proofs.Common.{sym, ap, ◌∙◌, rules}
use Rattle.slot_model.specs.History.{retained, released, written, next}
use Rattle.slot_model.specs.Checking.{heap_in}
use Rattle.slot_model.proofs.Kept.{heap_in-changed}
use Rattle.slot_model.proofs.advance.advance.Goals as goal

pub returns-in-Retain : goal.returns-in-Retain
returns-in-Retain g c =
    heap_in-changed retained c.args.slots.now c.in-Retain.slot c.index-slots-slot.result _ (search rules) c.retain.ensures ∙ ap (next (heap_in c.args.slots.now)) (sym c.in-Retain.is)

pub returns-in-Release : goal.returns-in-Release
returns-in-Release g c =
    heap_in-changed released c.args.slots.now c.in-Release.slot c.index-slots-slot-in-Release.result _ (search rules) c.release.ensures ∙ ap (next (heap_in c.args.slots.now)) (sym c.in-Release.is)

pub returns-in_ok-write-in-Write : goal.returns-in_ok-write-in-Write
returns-in_ok-write-in-Write g c =
    heap_in-changed (written c.in-Write.k c.in-Write.word) c.args.slots.now c.in-Write.slot c.index-slots-slot-in-Write.result _ (search rules) (search rules) ∙ ap (next (heap_in c.args.slots.now)) (sym c.in-Write.is)
