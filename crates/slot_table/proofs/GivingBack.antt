-- A closed slot comes back, with the side that its word shows.
use Rattle.std.proofs.Common.{◌≡◌, ℕ, suc, List, [], ◌∷◌, ◌++◌, get_or, Option, Some, None, refl, sym, ap, ◌∙◌, subst, arith, ◌≤◌}
use mathlib.Core.Option.{some, none}
use lib.ListN.{get_elem?}
use Rattle.atomic_table.specs.Table.{State, Allows, Step, keeps, step}
use Rattle.slot_model.specs.declared.event.Event.TheVariants.{Detach}
use Rattle.slot_model.specs.declared.layout.Layout.{Layout}
use Rattle.slot_model.specs.History.{idle, at, side_in, heap_after, Applies, Legal}
use Rattle.slot_table.specs.declared.view.SeatView.{SeatView}
use Rattle.slot_table.specs.declared.view.Role.TheVariants.{Closing}
use Rattle.slot_table.specs.Addresses.{side_place, side_word}
use Rattle.slot_table.specs.Holdings.{SeatOk, Holds}
use Rattle.slot_table.proofs.Turns.{turned, still_legal, turn_one}
use Rattle.slot_table.specs.ReferenceSteps.{GivesBack, opened, opening}
use Rattle.slot_table.specs.Views.{Sat, recorded}
use Rattle.slot_table.proofs.GivingBackBoth.{comes_back, back_owes, back}
use Rattle.slot_table.proofs.GivingBackAlone.{gives_back_owes}
use Rattle.slot_model.proofs.Runs.{length-heap_after}
use Rattle.slot_model.proofs.Sides.{paired_after, side_below}

module _ (fits : List ℕ → List ℕ → Type 0) (k : Layout) (ls : List (List ℕ)) (u : SeatView) where
  abbrev v : SeatView
  v = record u { role = Closing; draft = None }

  abbrev x : ℕ
  x = u.slot

  module _ (s : State ℕ SeatView) (r : Holds fits k ls s) (id : ℕ) (at_id : get_elem? s.views id ≡ some v) (st : Step ℕ) (cs : List (ℕ × ℕ)) where
    abbrev n : ℕ
    n = get_or s.words (side_place k x) 0

    abbrev Done : Type 0
    Done = (w : SeatView) × Holds fits k ls (turned s (side_place k x) 0 id w) × GivesBack fits st (v, cs) n (w, cs)

    seat : SeatOk k ls s.words r.all v
    seat = r.seats id v at_id

    shown : n ≡ side_word (side_in (at (heap_after k r.all) x))
    shown = (r.slots x seat.role_is.4).side_shown

    legal_with : (m : ℕ) → n ≡ m → Applies fits k (heap_after k r.all) (opening m v) → Legal fits v.layout (r.all ++ opening n v ∷ [])
    legal_with m is applies = subst (λ (z : ℕ). Legal fits v.layout (r.all ++ opening z v ∷ [])) (sym is) (still_legal fits k r.all (opening m v) v.layout seat.role_is.0 r.legal applies)

    in_heap : (d : ℕ) → side_in (at (heap_after k r.all) x) ≡ Some d → n ≡ suc d → n ≤ v.layout.slots
    in_heap d is suc_is = subst (λ (l : Layout). n ≤ l.slots) (sym seat.role_is.0) (let t = side_below fits k (heap_after k r.all) x d (length-heap_after k r.all) is (paired_after fits k r.all r.legal) in omega (arith, t, suc_is))

    by_side : (o : Option ℕ) → side_in (at (heap_after k r.all) x) ≡ o → Done
    by_side None is = let zero_is : n ≡ 0 = shown ∙ ap side_word is in let owes = gives_back_owes fits k ls u s r id at_id is in (
      opened 0 (recorded v r.all (opening 0 v)),
      turn_one fits k ls s r id x 2 0 v _ (Detach x None) idle at_id owes,
      (omega (arith, zero_is), (r.all, seat.front_is, legal_with 0 zero_is owes.applies, ap (λ (m : ℕ). opened m (recorded v r.all (opening m v))) (sym zero_is), refl)),
    )
    by_side (Some d) is = let suc_is : n ≡ suc d = shown ∙ ap side_word is in (
      back fits k ls u d r.all,
      comes_back fits k ls u d s r id at_id is,
      (in_heap d is suc_is, (r.all, seat.front_is, legal_with (suc d) suc_is (back_owes fits k ls u d s r id at_id is).applies, ap (λ (m : ℕ). opened m (recorded v r.all (opening m v))) (sym suc_is), refl)),
    )

    pub gives_back_core : Done
    gives_back_core = by_side (side_in (at (heap_after k r.all) x)) refl

pub gives_back_allowed : (fits : List ℕ → List ℕ → Type 0) (k : Layout) (ls : List (List ℕ)) (slots id i : ℕ) (me : Sat) → me.0.role ≡ Closing → me.0.draft ≡ None → i ≡ side_place k me.0.slot
    → Allows (Holds fits k ls) slots id me i (λ _. 0) (GivesBack fits (step slots i 0 0 none) me)
gives_back_allowed fits k ls slots id i me role no_draft at_i = subst (λ (z : Sat × ℕ). Allows (Holds fits k ls) slots id z.0 z.1 (λ _. 0) (GivesBack fits (step slots i 0 0 none) z.0))
    (λ t. ((record me.0 { role = sym role t; draft = sym no_draft t }, me.1), sym at_i t))
    (λ s r flat at_id small. let done = gives_back_core fits k ls me.0 s r id at_id (step slots i 0 0 none) me.1 in (done.0, keeps, tt, done.1, done.2))
