-- Inner: what the steps of passes tell their seats, and how their views are cut and joined.
use Rattle.std.specs.Prelude.{◌≡◌, ℕ, ◌+◌, ◌-◌, ◌<◌, ◌≤◌, List, [], ◌∷◌, ◌++◌, length, take, drop, Some}
use mathlib.Core.List.{IsPrefix}
use Rattle.atomic_table.specs.Table.{Step}
use Rattle.slot_model.specs.declared.layout.Layout.{Layout}
use Rattle.slot_model.specs.History.{idle, at, Legal, heap_after}
use Rattle.slot_table.specs.declared.view.SeatView.{SeatView}
use Rattle.slot_table.specs.declared.view.Role.TheVariants.{Share, Draft, Reference}
use Rattle.slot_table.specs.Numbers.{Once, AllOnce, down_from}
use Rattle.slot_table.specs.Views.{Sat, blank, longer, shorter_of, frees_of}

-- the first seat has every slot and every credit
abbrev pub first_view : Layout → List (List ℕ) → SeatView
first_view k ls = record (blank k ls Share) { free = down_from k.slots; credits = k.credits }

abbrev pub last_of : List ℕ → ℕ
last_of [] = 0
last_of (x ∷ []) = x
last_of (x ∷ y ∷ ys) = last_of (y ∷ ys)

abbrev pub but_last : List ℕ → List ℕ
but_last [] = []
but_last (x ∷ []) = []
but_last (x ∷ y ∷ ys) = x ∷ but_last (y ∷ ys)

-- a draft of the last free slot is cut off, with one credit
abbrev pub without_draft : SeatView → SeatView
without_draft v = record v { free = but_last v.free; credits = v.credits - 1 }

abbrev pub drafted : SeatView → SeatView
drafted v = record (blank v.layout v.literals Draft) { front = v.front; credits = 1; draft = Some (last_of v.free) }

-- a share takes in another, or a draft
abbrev pub joined : SeatView → SeatView → SeatView
joined v w = record v {
  front = longer v.front w.front;
  told = shorter_of v.front w.front;
  places = v.places ++ w.places;
  free = v.free ++ frees_of w.draft w.free;
  credits = v.credits + w.credits;
}

-- what was joined before were two fronts of one history, and what the seat holds is within the heap
abbrev pub Tells : Step ℕ → Sat → ℕ → Sat → Type 0
Tells st m n m' = (m' ≡ m) × IsPrefix m.0.told m.0.front × Once m.0.layout.slots m.0.free × (m.0.credits ≤ m.0.layout.credits)

-- the next cut is to take so many slots and credits, by the two operands of a compare and exchange that doesn't succeed
abbrev pub planned : ℕ → ℕ → SeatView → SeatView
planned slots credits v = record v { planned_slots = slots; planned_credits = credits }

abbrev pub Plans : Step ℕ → Sat → ℕ → Sat → Type 0
Plans st m n m' = (m'.0 ≡ planned st.second st.first m.0) × (m'.1 ≡ m.1)

-- the plan's slots, from the end of the list, and its credits go
abbrev pub without_share : SeatView → SeatView
without_share v = record v {
  free = take (length v.free - v.planned_slots) v.free;
  credits = v.credits - v.planned_credits;
  planned_slots = 0;
  planned_credits = 0;
}

abbrev pub share : SeatView → SeatView
share v = record (blank v.layout v.literals Share) {
  front = v.front;
  free = drop (length v.free - v.planned_slots) v.free;
  credits = v.planned_credits;
}

-- a credit is cut off
abbrev pub without_credit : SeatView → SeatView
without_credit v = record v { credits = v.credits - 1 }

abbrev pub credit : SeatView → SeatView
credit v = record (blank v.layout v.literals Share) { front = v.front; credits = 1 }

-- a reference beside what a share has
abbrev pub beside : SeatView → SeatView → SeatView
beside v w = record v {
  role = Reference;
  front = longer v.front w.front;
  told = shorter_of v.front w.front;
  places = v.places ++ w.places;
  credits = v.credits + w.credits;
  slot = w.slot;
  weight = w.weight;
  known = w.known;
  written = w.written;
  sole = w.sole;
  bare = w.bare;
  side = w.side;
  side_words = w.side_words;
}

-- the two are parted again. All places are with the share
abbrev pub met_share : SeatView → SeatView
met_share v = record (blank v.layout v.literals Share) {
  front = v.front;
  told = v.told;
  places = v.places;
  free = v.free;
  credits = v.credits - 1;
}

abbrev pub met_reference : SeatView → SeatView
met_reference v = record v { places = []; free = []; credits = 1 }

-- the seat has all credits, so that nothing is out
pub record IsAll (fits : List ℕ → List ℕ → Type 0) (v : SeatView) : Type 0 where
  pub legal : Legal fits v.layout v.front
  pub idle_all : (x : ℕ) → x < v.layout.slots → at (heap_after v.layout v.front) x ≡ idle
  pub free_all : AllOnce v.layout.slots v.free
  pub placed_all : AllOnce (length v.front) v.places

abbrev pub Concludes : (List ℕ → List ℕ → Type 0) → Step ℕ → Sat → ℕ → Sat → Type 0
Concludes fits st m n m' = (m' ≡ m) × (m.0.credits ≡ m.0.layout.credits → IsAll fits m.0)
