-- A value stays of the heap of its pass, whatever calls the pass has made.
use Rattle.std.proofs.Common.{◌≡◌, ◌∙◌, sym}
use Rattle.slot_table.specs.Owners.{PassSeen}
use Rattle.str_value.specs.Meaning.{Place, OfHeap, own, shared, fixed}

pub of_heap_moves : (p q : PassSeen) (o : Place) → q.heap ≡ p.heap → OfHeap p o → OfHeap q o
of_heap_moves p q own same of = tt
of_heap_moves p q (shared r) same of = of ∙ sym same
of_heap_moves p q (fixed l) same of = of ∙ sym same
