-- Inner: what the steps on a slot's side tell their seats, and how their views are cut and joined.
use Rattle.std.specs.Prelude.{◌≡◌, ℕ, zero, suc, ◌+◌, ◌-◌, ◌<◌, ◌≤◌, true, false, List, [], ◌∷◌, ◌++◌, length, get_or, Some, None, IfSome}
use mathlib.Core.List.{IsPrefix}
use Rattle.atomic_table.specs.Table.{Step}
use Rattle.slot_model.specs.declared.event.Event.{Event}
use Rattle.slot_model.specs.declared.event.Event.TheVariants.{Look, Install}
use Rattle.slot_model.specs.History.{heap_after}
use Rattle.slot_table.specs.declared.view.SeatView.{SeatView}
use Rattle.slot_table.specs.declared.view.Role.TheVariants.{Share}
use Rattle.slot_table.specs.Addresses.{data_place, found_in}
use Rattle.slot_table.specs.Numbers.{Once}
use Rattle.slot_table.specs.Owners.{side_words_in}
use Rattle.slot_table.specs.Views.{Sat, Records, blank, longer, shorter_of, number_in, frees_of}
use Rattle.slot_table.specs.ReferenceSteps.{opening}

-- a side that is known is one of the heap's slots, and fits the words of the slot that it stands beside
pub record IsSideKnown (fits : List ℕ → List ℕ → Type 0) (v : SeatView) (d : ℕ) : Type 0 where
  pub below : d < v.layout.slots
  pub room : length v.side_words ≤ v.layout.capacity_words
  pub fit : fits v.known v.side_words

-- a side that was known is the one that is found, with the same words
abbrev pub Agrees : SeatView → ℕ → SeatView → Type 0
Agrees v n w = (d : ℕ) → v.side ≡ Some d → (found_in n ≡ Some d) × (w.side_words ≡ v.side_words)

-- a reference finds the side, of which there is none where it was marked bare
abbrev pub looking : ℕ → SeatView → Event
looking n v = Look v.slot (found_in n)

abbrev pub looked : ℕ → SeatView → SeatView
looked n v = record v { side = found_in n; side_words = side_words_in (heap_after v.layout v.front) (found_in n) }

abbrev pub Looks : (List ℕ → List ℕ → Type 0) → Step ℕ → Sat → ℕ → Sat → Type 0
Looks fits st m n m' = (m.0.bare ≡ true → n ≡ 0) × (n ≤ m.0.layout.slots) × IfSome (found_in n) (IsSideKnown fits m'.0)
    × Agrees m.0 n m'.0 × Records fits m m' (looking n) (looked n)

-- word j of the known side's words is found
abbrev pub SideReads : Step ℕ → Sat → ℕ → Sat → Type 0
SideReads st m n m' = (m' ≡ m) × ((d j : ℕ) → m.0.side ≡ Some d → st.word ≡ data_place m.0.layout d j
    → j < length m.0.side_words → n ≡ get_or m.0.side_words j 0)

-- a reference takes in a draft, and what it has seen
abbrev pub armed : SeatView → SeatView → SeatView
armed v w = record v {
  front = longer v.front w.front;
  told = shorter_of v.front w.front;
  places = v.places ++ w.places;
  credits = v.credits + w.credits;
  draft = w.draft;
  written = w.written;
}

-- the draft becomes the side where there was none, and else the reference learns the side that was there
abbrev pub installing : ℕ → SeatView → Event
installing n v = Install v.slot (number_in v.draft) v.written (found_in n)

abbrev pub placed : ℕ → SeatView → SeatView
placed zero v = record v { bare = false; side = v.draft; side_words = v.written; draft = None; written = [] }
placed (suc d) v = record v { bare = false; side = Some d; side_words = side_words_in (heap_after v.layout v.front) (Some d) }

abbrev pub Installs : (List ℕ → List ℕ → Type 0) → Step ℕ → Sat → ℕ → Sat → Type 0
Installs fits st m n m' = IsPrefix m.0.told m.0.front × (m.0.bare ≡ true → n ≡ 0) × (n ≤ m.0.layout.slots)
    × IfSome m'.0.side (IsSideKnown fits m'.0) × Agrees m.0 n m'.0 × Records fits m m' (installing n) (placed n)

-- all but the reference and its credit is cut off, with the slot of a draft that was not installed
abbrev pub unarmed : SeatView → SeatView
unarmed v = record v { free = []; credits = 1; draft = None; written = [] }

abbrev pub change : SeatView → SeatView
change v = record (blank v.layout v.literals Share) {
  front = v.front;
  free = frees_of v.draft v.free;
  credits = v.credits - 1;
}

-- a sole reference takes its slot's side away, whose slot comes behind the free ones
abbrev pub sideless : ℕ → SeatView → SeatView
sideless zero v = record v { bare = true; side = None; side_words = [] }
sideless (suc d) v = record v { bare = true; side = None; side_words = []; free = v.free ++ d ∷ [] }

-- a side that was known is the one that is found, and where the slot was marked bare none is
abbrev pub FindsKnown : SeatView → ℕ → Type 0
FindsKnown v n = (v.bare ≡ true → n ≡ 0) × ((d : ℕ) → v.side ≡ Some d → found_in n ≡ Some d)

abbrev pub Detaches : (List ℕ → List ℕ → Type 0) → Step ℕ → Sat → ℕ → Sat → Type 0
Detaches fits st m n m' = IsPrefix m.0.told m.0.front × ((n ≤ m.0.layout.slots) × FindsKnown m.0 n)
    × Once m.0.layout.slots m'.0.free × Records fits m m' (opening n) (sideless n)
