use Rattle.std.proofs.Common.{sym, subst, Some, ◌≡◌, ◌⊎◌}
use Rattle.slot_model.specs.History.{Heap, heap_after, at, side_in}
use Rattle.slot_model.specs.Laws.{slot_of}
use Rattle.slot_model.proofs.Runs.{heap_after-snoc, length-heap_after}
use Rattle.slot_model.proofs.Firsts.{legal-last}
use Rattle.slot_model.proofs.Changes.{other_after}
use Rattle.slot_model.proofs.laws.other_is_its_side.Goals as goal

pub returns : goal.returns
returns g c = let f = g.A.Attach.fits in
    λ k es e d l is. subst (λ (h : Heap). (side_in (at (heap_after k es) (slot_of e)) ≡ Some d) ⊎ (side_in (at h (slot_of e)) ≡ Some d)) (sym (heap_after-snoc k es e)) (other_after f k (heap_after k es) e d (length-heap_after k es) (legal-last f k es e l).1 is)
