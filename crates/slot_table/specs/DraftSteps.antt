-- Inner: what the steps of drafts tell their seats.
use Rattle.std.specs.Prelude.{◌≡◌, ℕ, true, List, [], ◌∷◌, ◌++◌, None}
use Rattle.atomic_table.specs.Table.{Step}
use Rattle.slot_model.specs.declared.event.Event.{Event}
use Rattle.slot_model.specs.declared.event.Event.TheVariants.{Publish}
use Rattle.slot_table.specs.declared.view.SeatView.{SeatView}
use Rattle.slot_table.specs.declared.view.Role.TheVariants.{Reference}
use Rattle.slot_table.specs.Views.{Sat, Records, number_in}

-- a word is appended to a draft
abbrev pub Drafts : Step ℕ → Sat → ℕ → Sat → Type 0
Drafts st m n m' = (m'.0 ≡ record m.0 { written = m.0.written ++ n ∷ [] }) × (m'.1 ≡ m.1)

-- a draft is published
abbrev pub published : SeatView → SeatView
published v = record v {
  role = Reference;
  slot = number_in v.draft;
  weight = 1;
  known = v.written;
  draft = None;
  written = [];
  sole = true;
  bare = true;
  side = None;
  side_words = [];
}

abbrev pub publishing : SeatView → Event
publishing v = Publish (number_in v.draft) v.written

abbrev pub Publishes : (List ℕ → List ℕ → Type 0) → Step ℕ → Sat → ℕ → Sat → Type 0
Publishes fits st m n m' = Records fits m m' publishing published
