-- A text in a slot, as tests hold it.
use Rattle.std.specs.Prelude.{◌≡◌, ℕ, ◌≤◌, Bool, [], length}
use Rattle.slot_table.specs.Owners.{HeapId, RefSeen}
use Rattle.slot_edits.specs.Texts.{IsText}

-- the reference is of a heap's slot whose words hold a text of so many bytes, and has no places
pub record IsHeld (heap : HeapId) (r : RefSeen) (count : ℕ) (ascii : Bool) : Type 0 where
  pub same_heap : r.heap ≡ heap
  pub clean : r.places ≡ []
  pub text : IsText r.known count ascii
  pub most : length r.known ≤ heap.layout.capacity_words
