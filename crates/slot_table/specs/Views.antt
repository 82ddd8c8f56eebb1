-- Inner: views of seats, and how an event is recorded in them.
use Rattle.std.specs.Prelude.{◌≡◌, ℕ, leb, cond, false, List, [], ◌∷◌, ◌++◌, length, Option, Some, None}
use mathlib.Core.List.{IsPrefix}
use Rattle.atomic_table.specs.Table.{Me}
use Rattle.slot_model.specs.declared.event.Event.{Event}
use Rattle.slot_model.specs.declared.layout.Layout.{Layout}
use Rattle.slot_model.specs.History.{Legal}
use Rattle.slot_table.specs.declared.view.SeatView.{SeatView}
use Rattle.slot_table.specs.declared.view.Role.{Role}
use Rattle.slot_table.specs.declared.view.Role.TheVariants.{Spent}

-- a view with nothing but a layout and literals
abbrev pub blank : Layout → List (List ℕ) → Role → SeatView
blank k ls role = record {
  role = role;
  layout = k;
  literals = ls;
  front = [];
  told = [];
  places = [];
  free = [];
  credits = 0;
  slot = 0;
  weight = 0;
  known = [];
  draft = None;
  written = [];
  sole = false;
  bare = false;
  side = None;
  side_words = [];
  planned_slots = 0;
  planned_credits = 0;
}

abbrev pub spent : SeatView
spent = blank (record { capacity_words = 0; slots = 0; credits = 0 }) [] Spent

abbrev pub Sat : Type 0
Sat = Me ℕ SeatView

abbrev pub number_in : Option ℕ → ℕ
number_in None = 0
number_in (Some d) = d

-- the free slots that a share or a draft leaves
abbrev pub frees_of : Option ℕ → List ℕ → List ℕ
frees_of None fs = fs
frees_of (Some d) fs = d ∷ fs

-- the longer of two fronts, and the other one
abbrev pub longer : List Event → List Event → List Event
longer xs ys = cond (leb (length xs) (length ys)) ys xs

abbrev pub shorter_of : List Event → List Event → List Event
shorter_of xs ys = cond (leb (length xs) (length ys)) xs ys

-- the history was `all`, which begins with what the seat knew, and the event came next
abbrev pub recorded : SeatView → List Event → Event → SeatView
recorded v all e = record v { front = all ++ e ∷ []; places = v.places ++ length all ∷ [] }

-- the step's event e, and the view that it makes of the seat's, both by the history so far, which stays legal
abbrev pub Records : (List ℕ → List ℕ → Type 0) → Sat → Sat → (SeatView → Event) → (SeatView → SeatView) → Type 0
Records fits m m' e becomes = (all : List Event) × IsPrefix m.0.front all × Legal fits m.0.layout (all ++ e m.0 ∷ [])
    × (m'.0 ≡ becomes (recorded m.0 all (e m.0))) × (m'.1 ≡ m.1)
