-- Events Write of one slot, as an edit in place makes them. Read by callers.
use Rattle.std.specs.Prelude.{◌≡◌, ℕ, List, [], ◌∷◌, length}
use Rattle.slot_model.specs.declared.event.Event.{Event}
use Rattle.slot_model.specs.declared.event.Event.TheVariants.{Publish, Retain, Release, Sole, Write, Look, Install, Detach}
use Rattle.slot_table.specs.Owners.{RefSeen}
use Rattle.slot_accounts.specs.Account.{Strung}

-- the event is a Write of slot x
abbrev pub IsWriteOf : ℕ → Event → Type 0
IsWriteOf x (Publish y ws) = ⊥
IsWriteOf x (Retain y) = ⊥
IsWriteOf x (Release y last) = ⊥
IsWriteOf x (Sole y answer) = ⊥
IsWriteOf x (Write y k w) = y ≡ x
IsWriteOf x (Look y found) = ⊥
IsWriteOf x (Install y d ws found) = ⊥
IsWriteOf x (Detach y found) = ⊥

-- each event is
abbrev pub AllWrites : ℕ → List Event → Type 0
AllWrites x [] = Unit {0}
AllWrites x (e ∷ es) = IsWriteOf x e × AllWrites x es

-- so many Writes of its slot led from the reference r to s, whose words alone differ besides
pub record Wrote (count : ℕ) (r s : RefSeen) : Type 0 where
  pub events : List Event
  pub writes : AllWrites r.slot events
  pub number : length events ≡ count
  pub strung : Strung events r s
  pub rest : s ≡ record r { front = s.front; places = s.places; known = s.known }
