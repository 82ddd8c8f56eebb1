-- Inner: the rule over the table's words and the views of all seats. There is one legal history, which the words show and of which
-- every seat has seen a beginning.
use Rattle.std.specs.Prelude.{◌≡◌, ℕ, ◌+◌, ◌<◌, ◌≤◌, ltb, cond, Bool, true, false, List, [], length, get_or, Option, Some, None}
use mathlib.Core.Option.{some}
use mathlib.Core.List.{IsPrefix}
use lib.ListN.{get_elem?}
use Rattle.atomic_table.specs.Table.{State}
use Rattle.slot_model.specs.declared.event.Event.{Event}
use Rattle.slot_model.specs.declared.layout.Layout.{Layout}
use Rattle.slot_model.specs.History.{Slot, Heap, idle, held, closing, side_of, at}
use Rattle.slot_model.specs.History.{count_of, words_of, side_in, idle_in, closing_in, Legal, heap_after}
use Rattle.slot_table.specs.declared.view.SeatView.{SeatView}
use Rattle.slot_table.specs.declared.view.Role.{Role}
use Rattle.slot_table.specs.declared.view.Role.TheVariants.{Share, Draft, Reference, Closing, Literal, Spent}
use Rattle.slot_table.specs.Addresses.{count_place, side_place, data_place, side_word, table_size}
use Rattle.literal_rows.specs.Rows.{rows_of}
use Rattle.slot_table.specs.Numbers.{total, times, Below}
use Rattle.slot_table.specs.Seats.{drafts, weight_on, closing_on, free_on, place_on, credits_in}

-- a seat of such a role may be the one that knows the whole history
abbrev pub IsActive : Role → Type 0
IsActive Share = Unit {0}
IsActive Draft = Unit {0}
IsActive Reference = Unit {0}
IsActive Closing = Unit {0}
IsActive Literal = ⊥
IsActive Spent = ⊥

-- a held slot has a reference
abbrev pub Alive : Slot → Type 0
Alive idle = Unit {0}
Alive (held n ws d) = 1 ≤ n
Alive (closing d) = Unit {0}
Alive (side_of x ws) = Unit {0}

-- slot x is c: its words show it, and the sums over the views agree with it
pub record SlotOk (k : Layout) (words : List ℕ) (views : List SeatView) (x : ℕ) (c : Slot) : Type 0 where
  pub count : get_or words (count_place k x) 0 ≡ count_of c
  pub side_shown : get_or words (side_place k x) 0 ≡ side_word (side_in c)
  pub content : (i : ℕ) → i < length (words_of c) → get_or words (data_place k x i) 0 ≡ get_or (words_of c) i 0
  pub room : length (words_of c) ≤ k.capacity_words
  pub alive : Alive c
  pub weights : total (weight_on x) views ≡ count_of c
  pub closings : total (closing_on x) views ≡ closing_in c
  pub frees : total (free_on x) views ≡ idle_in c

-- no weight, no mark and no known side
pub record IsPlain (weight : ℕ) (sole bare : Bool) (side : Option ℕ) : Type 0 where
  pub light : weight ≡ 0
  pub shared : sole ≡ false
  pub not_bare : bare ≡ false
  pub no_side : side ≡ None

abbrev pub Plain : SeatView → Type 0
Plain v = IsPlain v.weight v.sole v.bare v.side

-- the words written into a draft stand in its slot
abbrev pub DraftOk : Layout → List ℕ → SeatView → Option ℕ → Type 0
DraftOk k words v None = Unit {0}
DraftOk k words v (Some d) = (d < k.slots) × (length v.written ≤ k.capacity_words)
    × ((i : ℕ) → i < length v.written → get_or words (data_place k d i) 0 ≡ get_or v.written i 0)

-- a known side is the slot's, with its words
abbrev pub SideOk : Layout → Heap → SeatView → Option ℕ → Type 0
SideOk k h v None = Unit {0}
SideOk k h v (Some d) = (d < k.slots) × (side_in (at h v.slot) ≡ Some d) × (v.side_words ≡ words_of (at h d))

-- what a reference knows is so
pub record ReferenceOk (k : Layout) (h : Heap) (v : SeatView) : Type 0 where
  pub layout_is : v.layout ≡ k
  pub below : v.slot < k.slots
  pub weighs : (1 ≤ v.weight) × (v.weight ≤ 2)
  pub pays : v.weight + drafts v.draft ≤ v.credits
  pub knows : v.known ≡ words_of (at h v.slot)
  pub sole_is : v.sole ≡ true → (v.weight ≡ 1) × (count_of (at h v.slot) ≡ 1)
  pub bare_is : v.bare ≡ true → (v.sole ≡ true) × (side_in (at h v.slot) ≡ None)
  pub side_is : SideOk k h v v.side

-- what a seat of each role may hold
abbrev pub RoleOk : Layout → Heap → SeatView → Role → Type 0
RoleOk k h v Share = (v.layout ≡ k) × Plain v × (1 ≤ v.credits) × (v.draft ≡ None)
RoleOk k h v Draft = (v.layout ≡ k) × Plain v × (1 ≤ v.credits) × (v.free ≡ [])
RoleOk k h v Reference = ReferenceOk k h v
RoleOk k h v Closing = (v.layout ≡ k) × Plain v × (1 ≤ v.credits) × (v.draft ≡ None) × (v.slot < k.slots)
RoleOk k h v Literal = (v.layout ≡ k) × Plain v × (v.credits ≡ 0) × (v.draft ≡ None) × (v.free ≡ []) × (v.places ≡ [])
RoleOk k h v Spent = Plain v × (v.credits ≡ 0) × (v.draft ≡ None) × (v.free ≡ []) × (v.places ≡ [])

-- every seat but a spent one knows the literals
abbrev pub LiteralsOk : List (List ℕ) → SeatView → Role → Type 0
LiteralsOk ls v Share = v.literals ≡ ls
LiteralsOk ls v Draft = v.literals ≡ ls
LiteralsOk ls v Reference = v.literals ≡ ls
LiteralsOk ls v Closing = v.literals ≡ ls
LiteralsOk ls v Literal = v.literals ≡ ls
LiteralsOk ls v Spent = Unit {0}

-- what one seat knows is so
pub record SeatOk (k : Layout) (ls : List (List ℕ)) (words : List ℕ) (all : List Event) (v : SeatView) : Type 0 where
  pub front_is : IsPrefix v.front all
  pub told_is : IsPrefix v.told v.front
  pub places_below : Below v.front v.places
  pub literals_are : LiteralsOk ls v v.role
  pub draft_is : DraftOk k words v v.draft
  pub role_is : RoleOk k (heap_after k all) v v.role

-- some seat knows the whole history
abbrev pub Owned : List Event → List SeatView → Type 0
Owned all views = (j : ℕ) × (v : SeatView) × (get_elem? views j ≡ some v) × IsActive v.role × (v.front ≡ all)

module _ (fits : List ℕ → List ℕ → Type 0) where
  -- `all` is the history
  pub record Holds (k : Layout) (ls : List (List ℕ)) (s : State ℕ SeatView) : Type 0 where
    pub all : List Event
    pub legal : Legal fits k all
    pub wide : length s.words ≡ table_size k + length (rows_of ls)
    pub zero_is : get_or s.words 0 0 ≡ 0
    pub rows : (i : ℕ) → i < length (rows_of ls) → get_or s.words (table_size k + i) 0 ≡ get_or (rows_of ls) i 0
    pub owner : Owned all s.views
    pub slots : (x : ℕ) → x < k.slots → SlotOk k s.words s.views x (at (heap_after k all) x)
    pub frees_below : (x : ℕ) → k.slots ≤ x → total (free_on x) s.views ≡ 0
    pub credits : total credits_in s.views ≡ k.credits
    pub places : (n : ℕ) → total (place_on n) s.views ≡ cond (ltb n (length all)) 1 0
    pub seats : (j : ℕ) (v : SeatView) → get_elem? s.views j ≡ some v → SeatOk k ls s.words all v
