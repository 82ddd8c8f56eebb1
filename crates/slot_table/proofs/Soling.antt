-- A reference loads its count, and learns whether it is the only one.
use Rattle.std.proofs.Common.{◌≡◌, ℕ, ◌≤◌, eqb, true, List, [], get_or, None, refl, sym, ap, ◌∙◌, subst, arith, append-nil, eq-eqb, eqb-true}
use mathlib.Core.Option.{some, none}
use lib.ListN.{get_elem?}
use Rattle.atomic_table.specs.Table.{State, Step, step, keeps, Allows}
use Rattle.slot_model.specs.declared.event.Event.TheVariants.{Sole}
use Rattle.slot_model.specs.declared.layout.Layout.{Layout}
use Rattle.slot_model.specs.History.{Heap, at, count_of, heap_after, Applies}
use Rattle.slot_model.proofs.Runs.{heap_after-snoc}
use Rattle.slot_table.specs.declared.view.SeatView.{SeatView}
use Rattle.slot_table.specs.declared.view.Role.TheVariants.{Reference}
use Rattle.slot_table.specs.Addresses.{count_place}
use Rattle.slot_table.specs.Seats.{weight_on}
use Rattle.slot_table.specs.Holdings.{SlotOk, SeatOk, ReferenceOk, Holds}
use Rattle.slot_table.specs.Views.{Sat, recorded}
use Rattle.slot_table.specs.ReferenceSteps.{asking, asked, Asks}
use Rattle.slot_table.proofs.Sums.{total_at}
use Rattle.slot_table.proofs.Turns.{turned, prefix_more, prefix_trans, still_legal}
use Rattle.slot_table.proofs.Kept.{weigh}
use Rattle.slot_table.proofs.Below.{below-adds}
use Rattle.slot_table.proofs.Unchanging.{Glance, glances}

module _ (fits : List ℕ → List ℕ → Type 0) (k : Layout) (ls : List (List ℕ)) (u : SeatView) where
  abbrev v : SeatView
  v = record u { role = Reference; weight = 1; draft = None }

  abbrev x : ℕ
  x = u.slot

  module _ (s : State ℕ SeatView) (r : Holds fits k ls s) (id : ℕ) (at_id : get_elem? s.views id ≡ some v) where
    abbrev h : Heap
    h = heap_after k r.all

    abbrev n : ℕ
    n = get_or s.words (count_place k x) 0

    abbrev saw : SeatView
    saw = asked n (recorded v r.all (asking n v))

    seat : SeatOk k ls s.words r.all v
    seat = r.seats id v at_id

    mine_ok : ReferenceOk k h v
    mine_ok = seat.role_is

    here : SlotOk k s.words s.views x (at h x)
    here = r.slots x mine_ok.below

    some_count : 1 ≤ count_of (at h x)
    some_count = let t = total_at (weight_on x) s.views id v at_id in let w = weigh x x 1 refl in let a = here.weights in omega (arith, t, w, a)

    applies : Applies fits k h (Sole x (eqb n 1))
    applies = (mine_ok.below, some_count, ap (λ m. eqb m 1) here.count)

    knew : u.sole ≡ true → n ≡ 1
    knew b = here.count ∙ (mine_ok.sole_is b).1

    sole_owes : Glance fits k ls s r id x 1 v saw (Sole x (eqb n 1))
    sole_owes = record {
      offset = (omega arith, omega arith);
      below = mine_ok.below;
      applies = applies;
      stays = refl;
      front_is = refl;
      active = tt;
      place = refl;
      pays = refl;
      sums = λ y. record { weights = refl; closings = refl; frees = refl };
      mine = record {
        front_is = ([], append-nil _);
        told_is = prefix_more u.told r.all _ (prefix_trans u.told u.front r.all seat.told_is seat.front_is);
        places_below = below-adds u.front r.all _ u.places seat.front_is seat.places_below;
        literals_are = seat.literals_are;
        draft_is = tt;
        role_is = subst (λ (g : Heap). ReferenceOk k g saw) (sym (heap_after-snoc k r.all (Sole x (eqb n 1)))) record {
          layout_is = mine_ok.layout_is;
          below = mine_ok.below;
          weighs = mine_ok.weighs;
          pays = mine_ok.pays;
          knows = mine_ok.knows;
          sole_is = λ b. (refl, sym here.count ∙ eqb-true n 1 b);
          bare_is = λ b. (eq-eqb n 1 (knew (mine_ok.bare_is b).0), (mine_ok.bare_is b).1);
          side_is = mine_ok.side_is;
        };
      };
    }

    pub soles_core : (st : Step ℕ) (cs : List (ℕ × ℕ)) → (w : SeatView) × Holds fits k ls (turned s (count_place k x) n id w) × Asks fits st (v, cs) n (w, cs)
    soles_core st cs = (
      saw,
      glances fits k ls s r id x 1 v saw (Sole x (eqb n 1)) at_id sole_owes,
      (knew, (r.all, seat.front_is, still_legal fits k r.all (Sole x (eqb n 1)) v.layout mine_ok.layout_is r.legal applies, refl, refl)),
    )

pub soles_allowed : (fits : List ℕ → List ℕ → Type 0) (k : Layout) (ls : List (List ℕ)) (slots id i : ℕ) (me : Sat) → me.0.role ≡ Reference → me.0.weight ≡ 1 → me.0.draft ≡ None → i ≡ count_place k me.0.slot
    → Allows (Holds fits k ls) slots id me i (λ n. n) (Asks fits (step slots i 0 0 none) me)
soles_allowed fits k ls slots id i me role light no_draft at_i = subst (λ (z : Sat × ℕ). Allows (Holds fits k ls) slots id z.0 z.1 (λ n. n) (Asks fits (step slots i 0 0 none) z.0))
    (λ t. ((record me.0 { role = sym role t; weight = sym light t; draft = sym no_draft t }, me.1), sym at_i t))
    (λ s r flat at_id small. let done = soles_core fits k ls me.0 s r id at_id (step slots i 0 0 none) me.1 in (done.0, keeps, tt, done.1, done.2))
