-- What an edit of a slot's text does, with the events that it makes, from a pass p and a reference r to a pass q and a reference s.
-- Read by callers.
use Rattle.std.specs.Prelude.{◌≡◌, ℕ, ◌+◌, ◌-◌, ◌/◌, ◌<◌, ◌≤◌, Bool, true, false, List, [], ◌∷◌, ◌++◌, length, Option, None}
use Rattle.slot_model.specs.declared.event.Event.{Event}
use Rattle.slot_model.specs.declared.event.Event.TheVariants.{Publish, Sole, Detach}
use Rattle.slot_table.specs.Owners.{PassSeen, RefSeen}
use Rattle.slot_accounts.specs.Account.{Shows, Did, new_reference, giving_up}
use Rattle.slot_edits.specs.declared.part.Part.{Part}
use Rattle.slot_edits.specs.Parts.{spliced}
use Rattle.slot_edits.specs.Texts.{Edited, native_words}
use Rattle.slot_edits.specs.Writes.{AllWrites}

-- the events of asking whether a reference is its slot's only one: none where that is known, and else the one question
abbrev pub asking : ℕ → Bool → Bool → List Event
asking x true answer = []
asking x false answer = Sole x answer ∷ []

-- the events of taking a side away: none where there is known to be none, and else the one Detach
abbrev pub detaching : ℕ → Bool → Option ℕ → List Event
detaching x true found = []
detaching x false found = Detach x found ∷ []

-- the reference with other words, where it is its slot's only one and there is no side
abbrev pub readied : RefSeen → RefSeen → List ℕ → RefSeen
readied r s words = record r {
  front = s.front;
  places = [];
  known = words;
  sole = true;
  bare = true;
  side = None;
  side_words = s.side_words;
}

-- Nothing was written: r was found alone, unless that was known, and its side was taken away, unless there was known to be none
pub record IsReadied (p : PassSeen) (r : RefSeen) (q : PassSeen) (s : RefSeen) : Type 0 where
  pub found : Option ℕ
  pub did : Did (asking r.slot r.sole true ++ detaching r.slot r.bare found) p q
  pub reference : s ≡ readied r s r.known

-- The new text was written in place: r was readied, and then words of its slot were written, no more than the new text has from the
-- part's first word on, and the count word
pub record WritesInPlace (p : PassSeen) (r : RefSeen) (part : Part) (with : List ℕ) (q : PassSeen) (s : RefSeen) : Type 0 where
  pub found : Option ℕ
  pub writes : List Event
  pub are_writes : AllWrites r.slot writes
  pub some : 0 < length writes
  pub few : length writes ≤ (length (spliced r.known part with) + 7) / 8 - part.low / 8 + 1
  pub did : Did (asking r.slot r.sole true ++ (detaching r.slot r.bare found ++ writes)) p q
  pub edited : Edited r.known part with s.known
  pub most : length s.known ≤ r.heap.layout.capacity_words
  pub reference : s ≡ readied r s s.known

-- another reference was there, and nothing else changed
pub record IsShared (p : PassSeen) (r : RefSeen) (q : PassSeen) (s : RefSeen) : Type 0 where
  pub unknown : r.sole ≡ false
  pub did : Did (Sole r.slot false ∷ []) p q
  pub kept : s ≡ record r { front = s.front }

-- behind the events `before`, the new text was published in a new slot, and then r was given up
pub record WritesCopy (before : List Event) (p : PassSeen) (r : RefSeen) (part : Part) (with : List ℕ) (q : PassSeen) (s : RefSeen)
    : Type 0 where
  pub last : Bool
  pub found : Option ℕ
  pub shows : Shows p
  pub did : Did (before ++ (Publish s.slot (native_words (spliced r.known part with)) ∷ giving_up r.slot last found)) p q
  pub known_last : r.sole ≡ true → last ≡ true
  pub edited : Edited r.known part with s.known
  pub most : length s.known ≤ r.heap.layout.capacity_words
  pub reference : s ≡ new_reference r.heap s.front s.slot (native_words (spliced r.known part with))
