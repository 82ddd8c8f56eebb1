-- The heap that the checker's slots show, at a slot and after one of them was changed.
use Rattle.std.proofs.Common.{◌≡◌, ℕ, zero, suc, ◌<◌, ◌+◌, List, [], ◌∷◌, ◌++◌, length, get_or, set, take, Some, refl, sym, ap, ◌∙◌, subst, add-one, arith}
use Rattle.std.specs.Prelude.{slice_get}
use Rattle.std.proofs.lemmas.List.{map-set}
use Rattle.std.proofs.Math.Seq.{take-append_seam}
use Rattle.slot_model.specs.declared.state.SlotState.{SlotState}
use Rattle.slot_model.specs.declared.event.Event.{Event}
use Rattle.slot_model.specs.declared.layout.Layout.{Layout}
use Rattle.slot_model.specs.History.{Slot, Heap, at, next, Applies, Legal, heap_after}
use Rattle.slot_model.proofs.Runs.{length-heap_after}
use Rattle.slot_model.proofs.Firsts.{heap_after-next, legal-next}
use Rattle.slot_model.specs.Checking.{slot_in, heap_in}

pub at-heap_in : (cs : List SlotState) (x : ℕ) (b : SlotState) → x < length cs → at (heap_in cs) x ≡ slot_in (get_or cs x b)
at-heap_in [] x b below = absurd (omega arith)
at-heap_in (a ∷ rest) zero b below = refl
at-heap_in (a ∷ rest) (suc x) b below = at-heap_in rest x b (omega arith)

-- the slot in the heap changes as the checker's does
pub heap_in-changed : (f : Slot → Slot) (cs : List SlotState) (x : ℕ) (b c : SlotState) → x < length cs → slot_in c ≡ f (slot_in (get_or cs x b)) → heap_in (set cs x c) ≡ set (heap_in cs) x (f (at (heap_in cs) x))
heap_in-changed f cs x b c below becomes = map-set slot_in cs x c ∙ ap (λ s. set (heap_in cs) x s) (becomes ∙ ap f (sym (at-heap_in cs x b below)))

length-heap_in : (cs : List SlotState) → length (heap_in cs) ≡ length cs
length-heap_in [] = refl
length-heap_in (c ∷ cs) = ap (λ n. suc n) (length-heap_in cs)

-- what is read back of a list that was changed in place is the new list
pub take-front : (n : ℕ) (xs ys : List SlotState) → length xs ≡ n → take n (xs ++ ys) ≡ xs
take-front n xs ys long = subst (λ (m : ℕ). take m (xs ++ ys) ≡ xs) long (take-append_seam xs ys)

-- the checker has as many slots as the heap
pub length-slots : (k : Layout) (es : List Event) (cs : List SlotState) → heap_in cs ≡ heap_after k es → length cs ≡ k.slots
length-slots k es cs is = sym (length-heap_in cs) ∙ (ap length is ∙ length-heap_after k es)

-- one turn: the event applied, and the slots are the heap after it
pub turn : (fits : List ℕ → List ℕ → Type 0) (k : Layout) (es : List Event) (n : ℕ) (e : Event) (cs ds : List SlotState) → slice_get es n ≡ Some e → heap_in cs ≡ heap_after k (take n es) → Legal fits k (take n es) → Applies fits k (heap_in cs) e → heap_in ds ≡ next (heap_in cs) e → (heap_in ds ≡ heap_after k (take (n + 1) es)) × Legal fits k (take (n + 1) es)
turn fits k es n e cs ds there is l a becomes = rw add-one (becomes ∙ (ap (λ h. next h e) is ∙ sym (heap_after-next k es n e there)), legal-next fits k es n e there l (subst (λ (h : Heap). Applies fits k h e) is a))
