-- What a call did on the heap: its own events, in order, and what became of free slots and credits. p and q are what contracts see of a
-- pass before and after. Read by callers.
use Rattle.std.specs.Prelude.{◌≡◌, ℕ, suc, ◌+◌, ◌<◌, ◌≤◌, cond, Bool, true, false, List, [], ◌∷◌, ◌++◌, length, Option, Some, None}
use mathlib.Core.List.{IsPrefix}
use Rattle.slot_model.specs.declared.event.Event.{Event}
use Rattle.slot_model.specs.declared.event.Event.TheVariants.{Publish, Retain, Release, Sole, Write, Look, Install, Detach}
use Rattle.slot_table.specs.Owners.{HeapId, PassSeen, DraftSeen, RefSeen, Drafted}

-- the pass shows a free slot, and a credit beside its stake
pub record Shows (p : PassSeen) : Type 0 where
  pub a_slot : 0 < length p.free
  pub a_credit : 1 < p.credits

-- event m of the front is e
abbrev pub IsAt : List Event → ℕ → Event → Type 0
IsAt front m e = (before : List Event) × (length before ≡ m) × IsPrefix (before ++ e ∷ []) front

-- the events stand in the front at these places, in this order, and none before n
abbrev pub Stand : List Event → ℕ → List ℕ → List Event → Type 0
Stand front n [] [] = n ≤ length front
Stand front n [] (e ∷ es) = ⊥
Stand front n (m ∷ ms) [] = ⊥
Stand front n (m ∷ ms) (e ∷ es) = (n ≤ m) × IsAt front m e × Stand front (suc m) ms es

-- the same in any order
abbrev pub Scattered : List Event → ℕ → List ℕ → List Event → Type 0
Scattered front n [] [] = Unit {0}
Scattered front n [] (e ∷ es) = ⊥
Scattered front n (m ∷ ms) [] = ⊥
Scattered front n (m ∷ ms) (e ∷ es) = (n ≤ m) × IsAt front m e × Scattered front n ms es

abbrev pub none_found : Option ℕ → ℕ
none_found None = 1
none_found (Some d) = 0

abbrev pub one_found : Option ℕ → ℕ
one_found None = 0
one_found (Some d) = 1

-- the free slots that an event takes: one for what is published, one for a side that is installed
abbrev pub takes : Event → ℕ
takes (Publish x ws) = 1
takes (Retain x) = 0
takes (Release x last) = 0
takes (Sole x answer) = 0
takes (Write x k w) = 0
takes (Look x found) = 0
takes (Install x d ws found) = none_found found
takes (Detach x found) = 0

-- The slots that an event makes idle. After a last Release the slot is closing, and the Detach of the same call makes it idle: it is
-- counted at the Release, and its side at the Detach
abbrev pub gives : Event → ℕ
gives (Publish x ws) = 0
gives (Retain x) = 0
gives (Release x last) = cond last 1 0
gives (Sole x answer) = 0
gives (Write x k w) = 0
gives (Look x found) = 0
gives (Install x d ws found) = 0
gives (Detach x found) = one_found found

-- a sum over a list
abbrev pub sum_of : {X : Type 0} → (X → ℕ) → List X → ℕ
sum_of f [] = 0
sum_of f (x ∷ xs) = f x + sum_of f xs

-- From the pass p the call's own events, in this order, led to the pass q. They came after all that p had seen, their places are with q,
-- and the free slots are fewer by those that they took and more by those that they gave back
pub record Did (es : List Event) (p q : PassSeen) : Type 0 where
  pub one_heap : q.heap ≡ p.heap
  pub grown : IsPrefix p.front q.front
  pub new_places : List ℕ
  pub places_are : q.places ≡ p.places ++ new_places
  pub stand : Stand q.front (length p.front) new_places es
  pub slots_are : length q.free + sum_of takes es ≡ length p.free + sum_of gives es

-- the same, where threads of the call made the events beside each other, so that their order is open
pub record Made (es : List Event) (p q : PassSeen) : Type 0 where
  pub one_heap : q.heap ≡ p.heap
  pub grown : IsPrefix p.front q.front
  pub new_places : List ℕ
  pub places_are : q.places ≡ p.places ++ new_places
  pub stand : Scattered q.front (length p.front) new_places es
  pub slots_are : length q.free + sum_of takes es ≡ length p.free + sum_of gives es

-- the reference s made these events of its own, in this order, and is t since: it may make them between two meetings with a pass
pub record Strung (es : List Event) (s t : RefSeen) : Type 0 where
  pub grown : IsPrefix s.front t.front
  pub new_places : List ℕ
  pub places_are : t.places ≡ s.places ++ new_places
  pub stand : Stand t.front (length s.front) new_places es

-- the credits that the pass shows, and the c and d that the call's values hold before and after, keep their sum
abbrev pub Keeps : PassSeen → ℕ → PassSeen → ℕ → Type 0
Keeps p c q d = q.credits + d ≡ p.credits + c

-- the draft d was cut from the pass p, which is q since, and has had words written into it
pub record IsDrawn (p q : PassSeen) (d : DraftSeen) : Type 0 where
  pub cut : DraftSeen
  pub drafted : Drafted p q cut
  pub filled : d ≡ record cut { written = d.written }

-- the reference of a slot that was just published with these words
abbrev pub new_reference : HeapId → List Event → ℕ → List ℕ → RefSeen
new_reference z front slot words = record {
  heap = z;
  front = front;
  places = [];
  slot = slot;
  known = words;
  sole = true;
  bare = true;
  side = None;
  side_words = [];
}

-- what gives a reference up: a Release, and after the last one a Detach of whatever side is found
abbrev pub giving_up : ℕ → Bool → Option ℕ → List Event
giving_up x false found = Release x false ∷ []
giving_up x true found = Release x true ∷ Detach x found ∷ []
