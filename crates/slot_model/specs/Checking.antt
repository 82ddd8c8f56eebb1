-- What the checker keeps, read as a heap; and which event of a list is the first that doesn't apply.
use Rattle.std.specs.Prelude.{List, map}
use Rattle.std.specs.Cow.{cow_slice_items}
use Rattle.slot_model.specs.declared.state.SlotState.{SlotState}
use Rattle.slot_model.specs.declared.state.SlotState.TheVariants.{Idle, Held, Closing, SideOf}
use Rattle.slot_model.specs.History.{Slot, Heap, idle, held, closing, side_of}

abbrev pub slot_in : SlotState → Slot
slot_in Idle = idle
slot_in (Held n ws d) = held n (cow_slice_items ws) d
slot_in (Closing d) = closing d
slot_in (SideOf x ws) = side_of x ws.now

abbrev pub heap_in : List SlotState → Heap
heap_in cs = map slot_in cs
