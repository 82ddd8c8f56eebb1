-- Inner: how an owner's value goes with its seat. These are the invariants of heaps, passes, drafts, references and literals.
use Rattle.std.specs.Prelude.{◌≡◌, ℕ, ◌+◌, ◌*◌, ◌<◌, ◌≤◌, ◌⊎◌, Bool, true, List, [], length, Option, Some, None, IfSome}
use Rattle.atomic_table.specs.Seated.{TableId}
use Rattle.atomic_table.specs.declared.shared.Seat.{Seat}
use Rattle.slot_model.specs.declared.layout.Layout.{Layout}
use Rattle.slot_table.specs.declared.view.SeatView.{SeatView}
use Rattle.slot_table.specs.declared.view.Role.TheVariants.{Share, Draft, Reference}
use Rattle.slot_table.specs.Opening.{LayoutOk, most_bytes}
use Rattle.text_spec.specs.Texts.{AreTexts}
use Rattle.slot_table.specs.declared.limits.TheConstants.{MOST_LITERALS, MOST_CAPACITY_WORDS}
use Rattle.slot_table.specs.Addresses.{table_size}
use Rattle.literal_rows.specs.Rows.{rows_of, row_start, row_starts, row_words, AllFit}
use Rattle.slot_table.specs.Numbers.{Once, Below}
use Rattle.slot_table.specs.Views.{frees_of}
use Rattle.slot_table.specs.PassSteps.{IsAll}
use Rattle.slot_table.specs.SideSteps.{IsSideKnown}
use Rattle.slot_table.specs.Owners.{HeapId, PassSeen, DraftSeen, RefSeen, LiteralSeen, Ended}

-- the heap's table has the words of its layout and literals, and no slot; the literals are texts that fit a slot
pub record IsHeap (z : HeapId) (key_layout : Layout) (key_literals : List (List ℕ)) (count : ℕ) (starts : List ℕ) : Type 0 where
  pub layout_is : key_layout ≡ z.layout
  pub literals_are : key_literals ≡ z.literals
  pub words_are : z.table.words ≡ table_size z.layout + length (rows_of z.literals)
  pub no_slots : z.table.slots ≡ 0
  pub laid : LayoutOk z.layout
  pub counted : count ≡ length z.literals
  pub few : length z.literals ≤ MOST_LITERALS
  pub few_words : length (rows_of z.literals) ≤ MOST_LITERALS * MOST_CAPACITY_WORDS
  pub starts_are : starts ≡ row_starts (table_size z.layout) z.literals
  pub texts : AreTexts z.literals
  pub fit : AllFit (most_bytes z.layout) z.literals

-- the seat is one of the heap's table, and holds no slot of the table
pub record IsTied (z : HeapId) (s : Seat ℕ SeatView) : Type 0 where
  pub same : s.table_id ≡ z.table
  pub empty : s.me.1 ≡ []
  pub layout_is : s.me.0.layout ≡ z.layout
  pub literals_are : s.me.0.literals ≡ z.literals
  pub laid : LayoutOk z.layout

pub record IsPass (v : SeatView) (free : List ℕ) (room credits : ℕ) : Type 0 where
  pub role : v.role ≡ Share
  pub no_draft : v.draft ≡ None
  pub stake : 1 ≤ credits
  pub most : credits ≤ v.layout.credits
  pub credits_are : v.credits ≡ credits
  pub free_is : v.free ≡ free
  pub once : Once v.layout.slots free
  pub roomy : v.layout.slots ≤ room
  pub below_front : Below v.front v.places

-- the seat has every credit and every slot of its heap
pub record IsWhole (fits : List ℕ → List ℕ → Type 0) (v : SeatView) (free : List ℕ) (room : ℕ) : Type 0 where
  pub role : v.role ≡ Share
  pub no_draft : v.draft ≡ None
  pub every : v.credits ≡ v.layout.credits
  pub free_is : v.free ≡ free
  pub roomy : v.layout.slots ≤ room
  pub ends : IsAll fits v

pub record IsDraft (v : SeatView) (slot count : ℕ) : Type 0 where
  pub role : v.role ≡ Draft
  pub draft_is : v.draft ≡ Some slot
  pub below : slot < v.layout.slots
  pub count_is : count ≡ length v.written
  pub room : count ≤ v.layout.capacity_words
  pub one_credit : v.credits ≡ 1
  pub no_slots : v.free ≡ []
  pub below_front : Below v.front v.places

pub record IsRef (fits : List ℕ → List ℕ → Type 0) (v : SeatView) (slot : ℕ) (sole bare : Bool) (side : Option ℕ) : Type 0 where
  pub role : v.role ≡ Reference
  pub slot_is : v.slot ≡ slot
  pub below : slot < v.layout.slots
  pub room : length v.known ≤ v.layout.capacity_words
  pub one_credit : v.credits ≡ 1
  pub no_slots : v.free ≡ []
  pub no_draft : v.draft ≡ None
  pub light : v.weight ≡ 1
  pub sole_is : v.sole ≡ sole
  pub bare_is : v.bare ≡ bare
  pub side_is : v.side ≡ side
  pub bare_sole : bare ≡ true → sole ≡ true
  pub bare_alone : bare ≡ true → side ≡ None
  pub side_known : IfSome side (IsSideKnown fits v)
  pub below_front : Below v.front v.places

-- the seat is of any role; the literal is one of the heap's, and its row begins at this word
pub record IsLiteral (z : HeapId) (number start : ℕ) : Type 0 where
  pub there : number < length z.literals
  pub start_is : start ≡ table_size z.layout + row_start z.literals number

-- the seat is a share or a draft, which leaves these slots and credits
pub record IsLoose (v : SeatView) (free : List ℕ) (credits : ℕ) : Type 0 where
  pub left : ((v.role ≡ Share) × (v.draft ≡ None)) ⊎ ((d : ℕ) × (v.role ≡ Draft) × (v.draft ≡ Some d))
  pub credits_are : v.credits ≡ credits
  pub free_is : frees_of v.draft v.free ≡ free
  pub below_front : Below v.front v.places

-- what contracts see of an owner, by what its seat knows
abbrev pub pass_seen : HeapId → SeatView → PassSeen
pass_seen z v = record { heap = z; front = v.front; places = v.places; free = v.free; credits = v.credits }

abbrev pub heap_seen : TableId → SeatView → HeapId
heap_seen t v = record { table = t; layout = v.layout; literals = v.literals }

abbrev pub draft_seen : HeapId → SeatView → ℕ → DraftSeen
draft_seen z v slot = record { heap = z; front = v.front; places = v.places; slot = slot; written = v.written }

abbrev pub ref_seen : HeapId → SeatView → RefSeen
ref_seen z v = record {
  heap = z;
  front = v.front;
  places = v.places;
  slot = v.slot;
  known = v.known;
  sole = v.sole;
  bare = v.bare;
  side = v.side;
  side_words = v.side_words;
}

abbrev pub literal_seen : HeapId → SeatView → ℕ → LiteralSeen
literal_seen z v number = record { heap = z; front = v.front; words = row_words z.literals number }

abbrev pub ended_seen : SeatView → ℕ → ℕ → Ended
ended_seen v slots idle = record { slots = slots; idle = idle; layout = v.layout; history = v.front; places = v.places }

-- what a share or a draft leaves
abbrev pub loose_seen : HeapId → SeatView → List ℕ → PassSeen
loose_seen z v free = record { heap = z; front = v.front; places = v.places; free = free; credits = v.credits }
