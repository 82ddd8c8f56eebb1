-- The events so far are legal, and the slots are the heap after them.
use Rattle.std.proofs.Common.{◌≡◌, take}
use Rattle.slot_model.specs.History.{Legal, heap_after}
use Rattle.slot_model.specs.Checking.{heap_in}
use Rattle.slot_model.proofs.check.check_history.Given as goal

abbrev pub invariant-loop-at : goal.invariant-loop-at
invariant-loop-at g l = (heap_in l.slots.items ≡ heap_after l.layout (take l.at l.events)) × Legal g.A.Attach.fits l.layout (take l.at l.events)
