-- The heap of one thread, and what each event does to it.
use Rattle.std.specs.Prelude.{◌≡◌, ℕ, suc, ◌-◌, ◌<◌, ◌≤◌, ◌⊎◌, eqb, cond, List, [], ◌∷◌, ◌++◌, length, get_or, set, replicate, take, slice_get, Option, Some, None}
use Rattle.slot_model.specs.declared.event.Event.{Event}
use Rattle.slot_model.specs.declared.event.Event.TheVariants.{Publish, Retain, Release, Sole, Write, Look, Install, Detach}
use Rattle.slot_model.specs.declared.layout.Layout.{Layout}

-- A slot: idle; held with a count, words and perhaps a side; closing, perhaps with a side; or the side of a slot, with words
pub data Slot : Type 0 where
  idle : Slot
  held : ℕ → List ℕ → Option ℕ → Slot
  closing : Option ℕ → Slot
  side_of : ℕ → List ℕ → Slot

abbrev pub Heap : Type 0
Heap = List Slot

abbrev pub at : Heap → ℕ → Slot
at h x = get_or h x idle

-- the number of references, the words, the side as the crumb word has it, and whether the slot is idle or closing, as 1 or 0
abbrev pub count_of : Slot → ℕ
count_of idle = 0
count_of (held n ws d) = n
count_of (closing d) = 0
count_of (side_of x ws) = 0

abbrev pub words_of : Slot → List ℕ
words_of idle = []
words_of (held n ws d) = ws
words_of (closing d) = []
words_of (side_of x ws) = ws

abbrev pub side_in : Slot → Option ℕ
side_in idle = None
side_in (held n ws d) = d
side_in (closing d) = d
side_in (side_of x ws) = None

abbrev pub idle_in : Slot → ℕ
idle_in idle = 1
idle_in (held n ws d) = 0
idle_in (closing d) = 0
idle_in (side_of x ws) = 0

abbrev pub closing_in : Slot → ℕ
closing_in idle = 0
closing_in (held n ws d) = 0
closing_in (closing d) = 1
closing_in (side_of x ws) = 0

-- what each event makes of the slot that it names
abbrev pub retained : Slot → Slot
retained (held n ws d) = held (suc n) ws d
retained idle = idle
retained (closing d) = closing d
retained (side_of x ws) = side_of x ws

abbrev pub released : Slot → Slot
released (held n ws d) = cond (eqb n 1) (closing d) (held (n - 1) ws d)
released idle = idle
released (closing d) = closing d
released (side_of x ws) = side_of x ws

-- word k becomes w, and the list grows where k is its length
abbrev pub put : List ℕ → ℕ → ℕ → List ℕ
put ws k w = cond (eqb k (length ws)) (ws ++ w ∷ []) (set ws k w)

abbrev pub written : ℕ → ℕ → Slot → Slot
written k w (held n ws d) = held n (put ws k w) d
written k w idle = idle
written k w (closing d) = closing d
written k w (side_of x ws) = side_of x ws

abbrev pub sided : Option ℕ → Slot → Slot
sided e (held n ws d) = held n ws e
sided e idle = idle
sided e (closing d) = closing d
sided e (side_of x ws) = side_of x ws

abbrev pub detached : Slot → Slot
detached (held n ws d) = held n ws None
detached idle = idle
detached (closing d) = idle
detached (side_of x ws) = side_of x ws

abbrev pub cleared : Option ℕ → Heap → Heap
cleared None h = h
cleared (Some d) h = set h d idle

abbrev pub installed : Heap → ℕ → ℕ → List ℕ → Option ℕ → Heap
installed h x d ws None = set (set h x (sided (Some d) (at h x))) d (side_of x ws)
installed h x d ws (Some e) = h

-- the heap after the event
abbrev pub next : Heap → Event → Heap
next h (Publish x ws) = set h x (held 1 ws None)
next h (Retain x) = set h x (retained (at h x))
next h (Release x last) = set h x (released (at h x))
next h (Sole x answer) = h
next h (Write x k w) = set h x (written k w (at h x))
next h (Look x found) = h
next h (Install x d ws found) = installed h x d ws found
next h (Detach x found) = cleared found (set h x (detached (at h x)))

abbrev pub IsHeld : Slot → Type 0
IsHeld c = (n : ℕ) × (ws : List ℕ) × (d : Option ℕ) × (c ≡ held n ws d)

-- closing, or held with count 1
abbrev pub MayDetach : Slot → Type 0
MayDetach c = (closing_in c ≡ 1) ⊎ (count_of c ≡ 1)

module _ (fits : List ℕ → List ℕ → Type 0) (k : Layout) where
  -- the event applies
  abbrev pub Applies : Heap → Event → Type 0
  Applies h (Publish x ws) = (x < k.slots) × (at h x ≡ idle) × (0 < length ws) × (length ws ≤ k.capacity_words)
  Applies h (Retain x) = (x < k.slots) × (0 < count_of (at h x))
  Applies h (Release x last) = (x < k.slots) × (0 < count_of (at h x)) × (last ≡ eqb (count_of (at h x)) 1)
  Applies h (Sole x answer) = (x < k.slots) × (0 < count_of (at h x)) × (answer ≡ eqb (count_of (at h x)) 1)
  Applies h (Write x j w) = (x < k.slots) × (count_of (at h x) ≡ 1) × (side_in (at h x) ≡ None) × (j ≤ length (words_of (at h x))) × (j < k.capacity_words)
  Applies h (Look x found) = (x < k.slots) × (0 < count_of (at h x)) × (found ≡ side_in (at h x))
  Applies h (Install x d ws found) = (x < k.slots) × (d < k.slots) × (0 < count_of (at h x)) × (at h d ≡ idle) × fits (words_of (at h x)) ws × (found ≡ side_in (at h x))
  Applies h (Detach x found) = (x < k.slots) × MayDetach (at h x) × (found ≡ side_in (at h x))

  abbrev pub LegalFrom : Heap → List Event → Type 0
  LegalFrom h [] = Unit {0}
  LegalFrom h (e ∷ es) = Applies h e × LegalFrom (next h e) es

  -- each event applies, in order, from the opening heap
  abbrev pub Legal : List Event → Type 0
  Legal es = LegalFrom (replicate k.slots idle) es

abbrev pub heap_from : Heap → List Event → Heap
heap_from h [] = h
heap_from h (e ∷ es) = heap_from (next h e) es

-- the heap after a legal list
abbrev pub heap_after : Layout → List Event → Heap
heap_after k es = heap_from (replicate k.slots idle) es

-- event n, counted from 0, is the first of the list that doesn't apply to the heap after those before it
pub record IsFirstWrong (fits : List ℕ → List ℕ → Type 0) (k : Layout) (es : List Event) (n : ℕ) : Type 0 where
  pub event : Event
  pub there : slice_get es n ≡ Some event
  pub before : Legal fits k (take n es)
  pub refused : ¬ Applies fits k (heap_after k (take n es)) event

-- each side is that of the slot that has it, and the other way round; and a held slot has a reference
pub record Paired (h : Heap) : Type 0 where
  pub has : (x d : ℕ) → side_in (at h x) ≡ Some d → (ws : List ℕ) × (at h d ≡ side_of x ws)
  pub belongs : (x d : ℕ) (ws : List ℕ) → at h d ≡ side_of x ws → side_in (at h x) ≡ Some d
