-- Legal histories grow by one event at a time.
use Rattle.std.proofs.Common.{◌≡◌, ◌≢◌, ℕ, ◌<◌, List, [], ◌∷◌, ◌++◌, length, set, replicate, Option, Some, None, refl, ◌∙◌, length-set, get_or-set_same, get_or-set_other}
use Rattle.slot_model.specs.declared.event.Event.{Event}
use Rattle.slot_model.specs.declared.event.Event.TheVariants.{Publish, Retain, Release, Sole, Write, Look, Install, Detach}
use Rattle.slot_model.specs.declared.layout.Layout.{Layout}
use Rattle.slot_model.specs.History.{Slot, Heap, idle, at, next, cleared, installed, sided, side_of, Applies, LegalFrom, Legal, heap_from, heap_after}
use Rattle.std.proofs.lemmas.List.{length-replicate}

pub heap_from-snoc : (h : Heap) (es : List Event) (e : Event) → heap_from h (es ++ e ∷ []) ≡ next (heap_from h es) e
heap_from-snoc h [] e = refl
heap_from-snoc h (x ∷ es) e = heap_from-snoc (next h x) es e

pub heap_after-snoc : (k : Layout) (es : List Event) (e : Event) → heap_after k (es ++ e ∷ []) ≡ next (heap_after k es) e
heap_after-snoc k es e = heap_from-snoc (replicate k.slots idle) es e

pub legal_from-snoc : (fits : List ℕ → List ℕ → Type 0) (k : Layout) (h : Heap) (es : List Event) (e : Event) → LegalFrom fits k h es → Applies fits k (heap_from h es) e → LegalFrom fits k h (es ++ e ∷ [])
legal_from-snoc fits k h [] e l a = (a, tt)
legal_from-snoc fits k h (x ∷ es) e l a = (l.0, legal_from-snoc fits k (next h x) es e l.1 a)

pub legal-snoc : (fits : List ℕ → List ℕ → Type 0) (k : Layout) (es : List Event) (e : Event) → Legal fits k es → Applies fits k (heap_after k es) e → Legal fits k (es ++ e ∷ [])
legal-snoc fits k es e l a = legal_from-snoc fits k (replicate k.slots idle) es e l a

length-cleared : (d : Option ℕ) (h : Heap) → length (cleared d h) ≡ length h
length-cleared None h = refl
length-cleared (Some d) h = length-set h d idle

length-installed : (h : Heap) (x d : ℕ) (ws : List ℕ) (f : Option ℕ) → length (installed h x d ws f) ≡ length h
length-installed h x d ws None = length-set (set h x (sided (Some d) (at h x))) d (side_of x ws) ∙ length-set h x (sided (Some d) (at h x))
length-installed h x d ws (Some e) = refl

pub length-next : (h : Heap) (e : Event) → length (next h e) ≡ length h
length-next h (Publish x ws) = length-set h x _
length-next h (Retain x) = length-set h x _
length-next h (Release x last) = length-set h x _
length-next h (Sole x answer) = refl
length-next h (Write x k w) = length-set h x _
length-next h (Look x found) = refl
length-next h (Install x d ws found) = length-installed h x d ws found
length-next h (Detach x found) = length-cleared found _ ∙ length-set h x _

length-heap_from : (h : Heap) (es : List Event) → length (heap_from h es) ≡ length h
length-heap_from h [] = refl
length-heap_from h (e ∷ es) = length-heap_from (next h e) es ∙ length-next h e

pub length-heap_after : (k : Layout) (es : List Event) → length (heap_after k es) ≡ k.slots
length-heap_after k es = length-heap_from (replicate k.slots idle) es ∙ length-replicate k.slots idle

pub at-set : (h : Heap) (x : ℕ) (c : Slot) → x < length h → at (set h x c) x ≡ c
at-set h x c below = get_or-set_same h x c idle below

pub at-set_else : (h : Heap) (x y : ℕ) (c : Slot) → y ≢ x → at (set h x c) y ≡ at h y
at-set_else h x y c apart = get_or-set_other h x y c idle apart
