-- What contracts see of a heap and of its owners, and what its calls do to them. Read by callers: no seat, view or word of the table
-- is named.
use Rattle.std.specs.Prelude.{◌≡◌, ℕ, ◌+◌, ◌<◌, ◌⊎◌, MatchBool, List, [], ◌∷◌, ◌++◌, length, Bool, true, false, Option, Some, None}
use mathlib.Core.List.{IsPrefix}
use Rattle.atomic_table.specs.Seated.{TableId}
use Rattle.slot_model.specs.declared.event.Event.{Event}
use Rattle.slot_model.specs.declared.event.Event.TheVariants.{Retain, Release, Install, Detach}
use Rattle.slot_model.specs.declared.layout.Layout.{Layout}
use Rattle.slot_model.specs.History.{Heap, idle, at, words_of, Legal, heap_after}
use Rattle.slot_table.specs.Numbers.{AllOnce}

-- which heap it is, with its layout and the UTF-8 bytes of its literals
pub record HeapId : Type 0 where
  pub table : TableId
  pub layout : Layout
  pub literals : List (List ℕ)

-- A pass: its front and its places, its free slots, and its credits with its stake
pub record PassSeen : Type 0 where
  pub heap : HeapId
  pub front : List Event
  pub places : List ℕ
  pub free : List ℕ
  pub credits : ℕ

-- a draft, with the words written into its slot
pub record DraftSeen : Type 0 where
  pub heap : HeapId
  pub front : List Event
  pub places : List ℕ
  pub slot : ℕ
  pub written : List ℕ

-- a reference, with the words and the side of its slot as it knows them, and its marks
pub record RefSeen : Type 0 where
  pub heap : HeapId
  pub front : List Event
  pub places : List ℕ
  pub slot : ℕ
  pub known : List ℕ
  pub sole : Bool
  pub bare : Bool
  pub side : Option ℕ
  pub side_words : List ℕ

-- the words of the side, if there is one
abbrev pub side_words_in : Heap → Option ℕ → List ℕ
side_words_in h None = []
side_words_in h (Some d) = words_of (at h d)

-- A literal, with the words of its row: a count word, then its UTF-8 bytes eight to a word. It has no places
pub record LiteralSeen : Type 0 where
  pub heap : HeapId
  pub front : List Event
  pub words : List ℕ

-- the whole pass of a heap that was just opened
abbrev pub opened_pass : HeapId → List ℕ → PassSeen
opened_pass z free = record { heap = z; front = []; places = []; free = free; credits = z.layout.credits }

-- The event e came after the whole history of the heap, which began with the front. The history with e is legal, the new front is that,
-- and its place is new
abbrev pub Adds : (List ℕ → List ℕ → Type 0) → Layout → List Event → List ℕ → Event → List Event → List ℕ → Type 0
Adds fits k front places e front' places' = (all : List Event) × IsPrefix front all × (front' ≡ all ++ e ∷ [])
    × (places' ≡ places ++ length all ∷ []) × Legal fits k front'

-- of two fronts this is the longer one, which the other begins
pub record IsLonger (xs ys both : List Event) : Type 0 where
  pub one : (both ≡ xs) ⊎ (both ≡ ys)
  pub first : IsPrefix xs both
  pub second : IsPrefix ys both

-- a slot's number, and that of its side
abbrev pub with_side : ℕ → Option ℕ → List ℕ
with_side x None = x ∷ []
with_side x (Some d) = x ∷ d ∷ []

-- The events of a release: a Release, and where it was the last, a Detach, which frees the slot and its side
abbrev pub GivesUp : (List ℕ → List ℕ → Type 0) → Layout → List Event → List ℕ → ℕ → Bool → List Event → List ℕ → List ℕ → Type 0
GivesUp fits k front places x last front' places' freed = (middle : List Event) × (between : List ℕ)
    × Adds fits k front places (Release x last) middle between
    × MatchBool last ((found : Option ℕ) × Adds fits k middle between (Detach x found) front' places' × (freed ≡ with_side x found))
    ((front' ≡ middle) × (places' ≡ between) × (freed ≡ []))

-- a pass takes in what a reference r leaves: its events, its credit and the slots that it freed
pub record Released (fits : List ℕ → List ℕ → Type 0) (p : PassSeen) (r : RefSeen) (last : Bool) (q : PassSeen) : Type 0 where
  pub front : List Event
  pub places : List ℕ
  pub freed : List ℕ
  pub events : GivesUp fits r.heap.layout r.front r.places r.slot last front places freed
  pub fronts : IsLonger p.front front q.front
  pub pass_is : q ≡ record p { front = q.front; places = p.places ++ places; free = p.free ++ freed; credits = p.credits + 1 }

-- a pass takes in all that another has
pub record Joined (p other q : PassSeen) : Type 0 where
  pub fronts : IsLonger p.front other.front q.front
  pub pass_is : q ≡ record p {
    front = q.front;
    places = p.places ++ other.places;
    free = p.free ++ other.free;
    credits = p.credits + other.credits;
  }

-- a pass is cut in two: the new one, `other`, has so many slots and credits, one of them its stake
pub record Divided (p : PassSeen) (slots credits : ℕ) (q other : PassSeen) : Type 0 where
  pub slots_are : length other.free ≡ slots
  pub free_are : p.free ≡ q.free ++ other.free
  pub credits_are : p.credits ≡ q.credits + other.credits
  pub pass_is : q ≡ record p { free = q.free; credits = q.credits }
  pub other_is : other ≡ record p { places = []; free = other.free; credits = credits + 1 }

-- a free slot is taken out of a pass, with one credit
pub record Drafted (p q : PassSeen) (d : DraftSeen) : Type 0 where
  pub free_are : p.free ≡ q.free ++ d.slot ∷ []
  pub credits_are : p.credits ≡ q.credits + 1
  pub pass_is : q ≡ record p { free = q.free; credits = q.credits }
  pub draft_is : d ≡ record { heap = p.heap; front = p.front; places = []; slot = d.slot; written = [] }

-- a pass and a reference know the longer of their fronts, and the pass has all places
pub record Met (p : PassSeen) (r : RefSeen) (q : PassSeen) (s : RefSeen) : Type 0 where
  pub fronts : IsLonger p.front r.front q.front
  pub pass_is : q ≡ record p { front = q.front; places = p.places ++ r.places }
  pub reference_is : s ≡ record r { front = q.front; places = [] }

-- A pass with every credit of its heap: the history is legal and known whole, every slot is idle and free, and each event is the pass's
pub record IsEntire (fits : List ℕ → List ℕ → Type 0) (p : PassSeen) : Type 0 where
  pub credits_all : p.credits ≡ p.heap.layout.credits
  pub legal : Legal fits p.heap.layout p.front
  pub idle_all : (x : ℕ) → x < p.heap.layout.slots → at (heap_after p.heap.layout p.front) x ≡ idle
  pub free_all : AllOnce p.heap.layout.slots p.free
  pub placed_all : AllOnce (length p.front) p.places

-- a heap that is no more
pub record Ended : Type 0 where
  pub slots : ℕ
  pub idle : ℕ
  pub layout : Layout
  pub history : List Event
  pub places : List ℕ

-- the history is legal, every slot is idle at its end, and each event's number stands once among the places
pub record Ends (fits : List ℕ → List ℕ → Type 0) (e : Ended) : Type 0 where
  pub all_slots : e.slots ≡ e.layout.slots
  pub all_idle : e.idle ≡ e.slots
  pub legal : Legal fits e.layout e.history
  pub idle_at_end : (x : ℕ) → x < e.slots → at (heap_after e.layout e.history) x ≡ idle
  pub each_once : AllOnce (length e.history) e.places

-- A second reference s is given beside r, which is r' then, and a credit of the pass goes to it. The event comes after all that the
-- reference and the pass had seen
pub record Retained (fits : List ℕ → List ℕ → Type 0) (r : RefSeen) (p : PassSeen) (r' : RefSeen) (q : PassSeen) (s : RefSeen)
    : Type 0 where
  pub seen : List Event
  pub fronts : IsLonger r.front p.front seen
  pub event : Adds fits r.heap.layout seen r.places (Retain r.slot) r'.front r'.places
  pub reference_is : r' ≡ record r { front = r'.front; places = r'.places; sole = false; bare = false }
  pub new_is : s ≡ record r' { places = [] }
  pub credits_are : p.credits ≡ q.credits + 1
  pub pass_is : q ≡ record p { credits = q.credits }

-- the slot that is the side after an install of slot d, its words by the heap h, and the slots that come back
abbrev pub offered_side : ℕ → Option ℕ → ℕ
offered_side d None = d
offered_side d (Some e) = e

abbrev pub offered_words : Heap → List ℕ → Option ℕ → List ℕ
offered_words h ws None = ws
offered_words h ws (Some e) = words_of (at h e)

abbrev pub offered_back : ℕ → Option ℕ → List ℕ
offered_back d None = []
offered_back d (Some e) = d ∷ []

-- A draft d is offered as the side of r's slot, where `found` was before. The event comes after all that the reference and the draft
-- had seen, and the pass sees it
pub record Offered (fits : List ℕ → List ℕ → Type 0) (r : RefSeen) (d : DraftSeen) (p : PassSeen) (found : Option ℕ) (r' : RefSeen)
    (q : PassSeen) : Type 0 where
  pub seen : List Event
  pub fronts : IsLonger r.front d.front seen
  pub event : Adds fits r.heap.layout seen (r.places ++ d.places) (Install r.slot d.slot d.written found) r'.front r'.places
  pub reference_is : r' ≡ record r {
    front = r'.front;
    places = r'.places;
    bare = false;
    side = Some (offered_side d.slot found);
    side_words = offered_words (heap_after r.heap.layout r'.front) d.written found;
  }
  pub passes : IsLonger p.front r'.front q.front
  pub pass_is : q ≡ record p { front = q.front; free = p.free ++ offered_back d.slot found; credits = p.credits + 1 }

-- the slots that come with a side
abbrev pub side_slots : Option ℕ → List ℕ
side_slots None = []
side_slots (Some d) = d ∷ []

-- A sole reference's slot loses its side, which `found` was. The event comes after all that the pass and the reference had seen, and its
-- place is with the pass, as the reference's are
pub record TakenAway (fits : List ℕ → List ℕ → Type 0) (r : RefSeen) (p : PassSeen) (found : Option ℕ) (r' : RefSeen) (q : PassSeen)
    : Type 0 where
  pub seen : List Event
  pub fronts : IsLonger p.front r.front seen
  pub event : Adds fits r.heap.layout seen (p.places ++ r.places) (Detach r.slot found) q.front q.places
  pub reference_is : r' ≡ record r { front = q.front; places = []; bare = true; side = None; side_words = [] }
  pub pass_is : q ≡ record p { front = q.front; places = q.places; free = p.free ++ side_slots found }

-- what a draft leaves: its events, its slot and its credit
abbrev pub dropped_draft : DraftSeen → PassSeen
dropped_draft d = record { heap = d.heap; front = d.front; places = d.places; free = d.slot ∷ []; credits = 1 }
