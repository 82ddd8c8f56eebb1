-- What accounts say together: how two calls compose, and what the own events say of the whole history. Read by callers.
use Rattle.std.specs.Prelude.{◌≡◌, ℕ, ◌+◌, ◌*◌, ◌≤◌, List, [], ◌∷◌, ◌++◌, length, drop}
use Rattle.slot_model.specs.declared.event.Event.{Event}
use Rattle.slot_model.specs.declared.layout.Layout.{Layout}
use Rattle.slot_model.specs.History.{Legal}
use Rattle.slot_table.specs.Numbers.{times, Below}
use Rattle.slot_table.specs.Owners.{PassSeen, RefSeen, Adds, Divided, Joined, Met}
use Rattle.slot_accounts.specs.Account.{Did, Made, Strung, takes, gives, sum_of}
use Rattle.slot_accounts.specs.Counts.{IsComplete, Follows, published, publishes}

-- what one call did and then another did is what both did
abbrev pub DidThen : Type 0
DidThen = (es ds : List Event) (p q r : PassSeen) → Did es p q → Did ds q r → Did (es ++ ds) p r

abbrev pub MadeThen : Type 0
MadeThen = (es ds : List Event) (p q r : PassSeen) → Made es p q → Made ds q r → Made (es ++ ds) p r

-- what was done in order was made
abbrev pub DidIsMade : Type 0
DidIsMade = (es : List Event) (p q : PassSeen) → Did es p q → Made es p q

-- a reference that makes some events of its own and then others made both
abbrev pub StrungThen : Type 0
StrungThen = (es ds : List Event) (r s t : RefSeen) → Strung es r s → Strung ds s t → Strung (es ++ ds) r t

-- A reference without places meets a pass, makes events of its own, and meets the pass again. Where they take no slot and give none,
-- they are what the pass did
abbrev pub EventsBetween : Type 0
EventsBetween = (es : List Event) (p : PassSeen) (r : RefSeen) (q : PassSeen) (s t : RefSeen) (end : PassSeen) (u : RefSeen) → r.places ≡ []
    → Met p r q s → Strung es s t → sum_of takes es ≡ 0 → sum_of gives es ≡ 0 → Met q t end u → Did es p end

-- a share is cut off a pass, both go on beside each other, and they are joined: the events of both were made
abbrev pub MadeBeside : Type 0
MadeBeside = (es ds : List Event) (p m n s t r : PassSeen) (slots credits : ℕ) → Divided p slots credits m s
    → Made es m n → Made ds s t → Joined n t r → Made (es ++ ds) p r

-- the places of the call's events are those that the pass has at its end and had not before
abbrev pub NewPlaces : Type 0
NewPlaces = (es : List Event) (p q : PassSeen) (did : Did es p q) → Below p.front p.places
    → (n : ℕ) → 1 ≤ times n did.new_places → (1 ≤ times n q.places) × (times n p.places ≡ 0)

-- of the places that the pass has at its end and had not before, each is one of an own event
abbrev pub NoOtherPlaces : Type 0
NoOtherPlaces = (es : List Event) (p q : PassSeen) (did : Did es p q)
    → (n : ℕ) → 1 ≤ times n q.places → times n p.places ≡ 0 → 1 ≤ times n did.new_places

-- a pass of a fresh heap that has the place of each event of the history made them all, in the history's order
abbrev pub WholeHistory : Type 0
WholeHistory = (es : List Event) (p q : PassSeen) → Did es p q → p.front ≡ [] → p.places ≡ [] → IsComplete q → es ≡ q.front

-- and where they were made beside each other, whatever is counted over them is counted over the history
abbrev pub Counted : Type 0
Counted = (weight : Event → ℕ) (es : List Event) (p q : PassSeen) → p.places ≡ [] → Made es p q → IsComplete q
    → sum_of weight es ≡ sum_of weight q.front

-- what was published in order is a subsequence of what the history publishes from there on
abbrev pub PublishedInOrder : Type 0
PublishedInOrder = (es : List Event) (p q : PassSeen) → Did es p q → Follows (published es) (published (drop (length p.front) q.front))

-- a pass that has every place at the end had every place of its front at each moment before
abbrev pub CompleteBefore : Type 0
CompleteBefore = (es ds : List Event) (start p q : PassSeen) → start.places ≡ [] → Made es start p → Made ds p q
    → IsComplete q → IsComplete p

module _ (fits : List ℕ → List ℕ → Type 0) where
  -- an event that a reference adds to the history is one of its own
  abbrev pub StrungOne : Type 0
  StrungOne = (k : Layout) (e : Event) (s t : RefSeen) → Adds fits k s.front s.places e t.front t.places → Strung (e ∷ []) s t

  -- in a legal history the slots that are taken are those given back, and at most two for each Publish
  abbrev pub TwoSlotsAPublish : Type 0
  TwoSlotsAPublish = (k : Layout) (es : List Event) → Legal fits k es → sum_of takes es ≤ sum_of gives es + 2 * sum_of publishes es

  -- so a pass that has every place of its front lacks no more than two slots for each Publish of its own
  abbrev pub SlotsLeft : Type 0
  SlotsLeft = (k : Layout) (es : List Event) (start p : PassSeen) → start.places ≡ [] → Made es start p → IsComplete p
      → Legal fits k p.front → length start.free ≤ length p.free + 2 * sum_of publishes es
