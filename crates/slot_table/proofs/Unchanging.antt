-- A step with an event that changes neither the words nor the heap, but what its seat knows.
use Rattle.std.proofs.Common.{◌≡◌, ℕ, ◌+◌, ◌*◌, ◌<◌, ◌≤◌, List, [], ◌∷◌, ◌++◌, length, get_or, set, sym, ◌∙◌, subst}
use Rattle.std.proofs.lemmas.List.{set-get_or}
use mathlib.Core.Option.{some}
use lib.ListN.{get_elem?}
use Rattle.atomic_table.specs.Table.{State}
use Rattle.slot_model.specs.declared.event.Event.{Event}
use Rattle.slot_model.specs.declared.layout.Layout.{Layout}
use Rattle.slot_model.specs.History.{Heap, idle, at, next, Applies, heap_after}
use Rattle.slot_table.specs.declared.view.SeatView.{SeatView}
use Rattle.slot_table.specs.Seats.{weight_on, closing_on, free_on}
use Rattle.slot_table.specs.Holdings.{IsActive, SlotOk, SeatOk, RoleOk, DraftOk, Holds}
use Rattle.slot_table.proofs.Turns.{turned, Same, total_same, turn_one}

module _ (fits : List ℕ → List ℕ → Type 0) (k : Layout) (ls : List (List ℕ)) (s : State ℕ SeatView) (r : Holds fits k ls s) (id x o : ℕ) (v w : SeatView) (e : Event) where
  abbrev h : Heap
  h = heap_after k r.all

  abbrev i : ℕ
  i = x * (k.capacity_words + 2) + o

  abbrev n : ℕ
  n = get_or s.words i 0

  -- what such a step owes
  pub record Glance : Type 0 where
    pub offset : (0 < o) × (o ≤ k.capacity_words + 2)
    pub below : x < k.slots
    pub applies : Applies fits k h e
    pub stays : next h e ≡ h
    pub front_is : w.front ≡ r.all ++ e ∷ []
    pub active : IsActive w.role
    pub place : w.places ≡ v.places ++ length r.all ∷ []
    pub pays : w.credits ≡ v.credits
    pub sums : (y : ℕ) → Same y v w
    pub mine : SeatOk k ls s.words (r.all ++ e ∷ []) w

  pub glances : get_elem? s.views id ≡ some v → Glance → Holds fits k ls (turned s i n id w)
  glances at_id owes = turn_one fits k ls s r id x o n v w e (at h x) at_id record {
    offset = owes.offset;
    below = owes.below;
    applies = owes.applies;
    changes = owes.stays ∙ sym same_heap;
    front_is = owes.front_is;
    active = owes.active;
    place = owes.place;
    pays = owes.pays;
    elsewhere = λ y ne. owes.sums y;
    here = let was = r.slots x owes.below in subst (λ (ws : List ℕ). SlotOk k ws (set s.views id w) x (at h x)) (sym same_words) record {
      count = was.count;
      side_shown = was.side_shown;
      content = was.content;
      room = was.room;
      alive = was.alive;
      weights = total_same (weight_on x) s.views id v w at_id (owes.sums x).weights ∙ was.weights;
      closings = total_same (closing_on x) s.views id v w at_id (owes.sums x).closings ∙ was.closings;
      frees = total_same (free_on x) s.views id v w at_id (owes.sums x).frees ∙ was.frees;
    };
    mine = subst (λ (ws : List ℕ). SeatOk k ls ws (r.all ++ e ∷ []) w) (sym same_words) owes.mine;
    others = λ j u ne at_j. let other = r.seats j u at_j in (subst (λ (g : Heap). RoleOk k g u u.role) (sym same_heap) other.role_is, subst (λ (ws : List ℕ). DraftOk k ws u u.draft) (sym same_words) other.draft_is);
  }
    where
      same_words : set s.words i n ≡ s.words
      same_words = set-get_or s.words i 0

      same_heap : set h x (at h x) ≡ h
      same_heap = set-get_or h x idle
