-- What readers ask of legal histories. Where a statement has `es` and `e`, the event e is the last of a legal history, es are those before it.
use Rattle.std.specs.Prelude.{◌≡◌, ◌≢◌, ℕ, ◌+◌, ◌<◌, ◌⊎◌, ◌↔◌, Bool, false, ◌==◌, List, [], ◌∷◌, ◌++◌, take, slice_get, count_by, Option, Some, None}
use Rattle.slot_model.specs.declared.event.Event.{Event}
use Rattle.slot_model.specs.declared.event.Event.TheVariants.{Publish, Retain, Release, Sole, Write, Look, Install, Detach}
use Rattle.slot_model.specs.declared.layout.Layout.{Layout}
use Rattle.slot_model.specs.History.{idle, at, count_of, words_of, side_in, IsHeld, Applies, Legal, heap_after, Paired}

-- the slot that an event is made on
abbrev pub slot_of : Event → ℕ
slot_of (Publish x ws) = x
slot_of (Retain x) = x
slot_of (Release x last) = x
slot_of (Sole x answer) = x
slot_of (Write x k w) = x
slot_of (Look x found) = x
slot_of (Install x d ws found) = x
slot_of (Detach x found) = x

-- the slot that becomes a side by an event, or is given back by it
abbrev pub side_slot_of : Event → Option ℕ
side_slot_of (Publish x ws) = None
side_slot_of (Retain x) = None
side_slot_of (Release x last) = None
side_slot_of (Sole x answer) = None
side_slot_of (Write x k w) = None
side_slot_of (Look x found) = None
side_slot_of (Install x d ws None) = Some d
side_slot_of (Install x d ws (Some e)) = None
side_slot_of (Detach x found) = found

-- whether an event gives a reference of slot x, and whether it takes one
abbrev pub gives : ℕ → Event → Bool
gives x (Publish y ws) = x == y
gives x (Retain y) = x == y
gives x (Release y last) = false
gives x (Sole y answer) = false
gives x (Write y k w) = false
gives x (Look y found) = false
gives x (Install y d ws found) = false
gives x (Detach y found) = false

abbrev pub takes : ℕ → Event → Bool
takes x (Publish y ws) = false
takes x (Retain y) = false
takes x (Release y last) = x == y
takes x (Sole y answer) = false
takes x (Write y k w) = false
takes x (Look y found) = false
takes x (Install y d ws found) = false
takes x (Detach y found) = false

-- all that holds of every layout, and of which words fit which
module _ (fits : List ℕ → List ℕ → Type 0) where
  -- a front of a legal history is legal
  abbrev pub FrontIsLegal : Type 0
  FrontIsLegal = (k : Layout) (es fs : List Event) → Legal fits k (es ++ fs) → Legal fits k es

  -- a history is legal exactly where each event applies to the heap after those before it
  abbrev pub EachEventApplies : Type 0
  EachEventApplies = (k : Layout) (es : List Event) → Legal fits k es ↔ ((n : ℕ) (e : Event) → slice_get es n ≡ Some e → Applies fits k (heap_after k (take n es)) e)

  -- on an idle slot nothing is done but a Publish
  abbrev pub IdleIsNeverRead : Type 0
  IdleIsNeverRead = (k : Layout) (es : List Event) (e : Event) → Legal fits k (es ++ e ∷ []) → at (heap_after k es) (slot_of e) ≡ idle → (ws : List ℕ) × (e ≡ Publish (slot_of e) ws)

  -- a slot is idle again by a Detach alone: of itself, or of the slot whose side it was
  abbrev pub IdleAgainByDetach : Type 0
  IdleAgainByDetach = (k : Layout) (es : List Event) (e : Event) (x : ℕ) → Legal fits k (es ++ e ∷ []) → at (heap_after k es) x ≢ idle → at (heap_after k (es ++ e ∷ [])) x ≡ idle → (y : ℕ) × (found : Option ℕ) × (e ≡ Detach y found) × ((x ≡ y) ⊎ (found ≡ Some x))

  -- a slot's count is the number of its references given, less those taken
  abbrev pub CountIsGivenLessTaken : Type 0
  CountIsGivenLessTaken = (k : Layout) (es : List Event) (x : ℕ) → Legal fits k es → count_of (at (heap_after k es) x) + count_by (takes x) es ≡ count_by (gives x) es

  -- a slot is held exactly where it has a reference
  abbrev pub HeldHasReference : Type 0
  HeldHasReference = (k : Layout) (es : List Event) (x : ℕ) → Legal fits k es → IsHeld (at (heap_after k es) x) ↔ (0 < count_of (at (heap_after k es) x))

  -- a Write is made by the one reference, on a slot without a side
  abbrev pub WriteIsSole : Type 0
  WriteIsSole = (k : Layout) (es : List Event) (x j w : ℕ) → Legal fits k (es ++ Write x j w ∷ []) → (count_of (at (heap_after k es) x) ≡ 1) × (side_in (at (heap_after k es) x) ≡ None)

  -- a slot has a side that it hadn't by an Install that found none
  abbrev pub SideByInstall : Type 0
  SideByInstall = (k : Layout) (es : List Event) (e : Event) (x d : ℕ) → Legal fits k (es ++ e ∷ []) → side_in (at (heap_after k es) x) ≢ Some d → side_in (at (heap_after k (es ++ e ∷ [])) x) ≡ Some d → (ws : List ℕ) × (e ≡ Install x d ws None)

  -- the side that an Install gives fits the words of its slot
  abbrev pub InstallFits : Type 0
  InstallFits = (k : Layout) (es : List Event) (x d : ℕ) (ws : List ℕ) (found : Option ℕ) → Legal fits k (es ++ Install x d ws found ∷ []) → fits (words_of (at (heap_after k es) x)) ws

  -- an event changes its own slot, and beside it the slot that becomes a side or is given back, and no other
  abbrev pub OthersStay : Type 0
  OthersStay = (k : Layout) (es : List Event) (e : Event) (x : ℕ) → Legal fits k (es ++ e ∷ []) → x ≢ slot_of e → side_slot_of e ≢ Some x → at (heap_after k (es ++ e ∷ [])) x ≡ at (heap_after k es) x

  -- that other slot is the side of the event's own, after an Install and before a Detach
  abbrev pub OtherIsItsSide : Type 0
  OtherIsItsSide = (k : Layout) (es : List Event) (e : Event) (d : ℕ) → Legal fits k (es ++ e ∷ []) → side_slot_of e ≡ Some d → (side_in (at (heap_after k es) (slot_of e)) ≡ Some d) ⊎ (side_in (at (heap_after k (es ++ e ∷ [])) (slot_of e)) ≡ Some d)

  -- slots and their sides belong together
  abbrev pub SidesArePaired : Type 0
  SidesArePaired = (k : Layout) (es : List Event) → Legal fits k es → Paired (heap_after k es)
