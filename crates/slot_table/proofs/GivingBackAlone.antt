-- A closed slot without a side comes back.
use Rattle.std.proofs.Common.{◌+◌, ◌≡◌, inl, ℕ, ◌<◌, ◌≤◌, List, [], set, None, refl, sym, ap, ◌∙◌, arith, get_or-set_same, get_or-set_other, append-nil}
use mathlib.Core.Option.{some}
use lib.ListN.{get_elem?}
use Rattle.atomic_table.specs.Table.{State}
use Rattle.slot_model.specs.declared.event.Event.{Event}
use Rattle.slot_model.specs.declared.event.Event.TheVariants.{Detach}
use Rattle.slot_model.specs.declared.layout.Layout.{Layout}
use Rattle.slot_model.specs.History.{Slot, idle, held, closing, side_of, at, detached, count_of, words_of, side_in, idle_in, closing_in, heap_after}
use Rattle.slot_model.proofs.Runs.{at-set_else}
use Rattle.slot_table.specs.declared.view.SeatView.{SeatView}
use Rattle.slot_table.specs.declared.view.Role.TheVariants.{Closing}
use Rattle.slot_table.specs.Addresses.{count_place, side_place}
use Rattle.slot_table.specs.Numbers.{total}
use Rattle.slot_table.specs.Seats.{weight_on, closing_on, free_on}
use Rattle.slot_table.specs.Holdings.{ReferenceOk, Holds}
use Rattle.slot_table.proofs.Sums.{total_set, total_at}
use Rattle.slot_table.proofs.Rows.{within, data_not_side}
use Rattle.slot_table.proofs.Turns.{prefix_more, prefix_trans, total_same, OwesOne}
use Rattle.slot_table.proofs.Kept.{one-same, one-other, weigh, weigh_not, weigh_none, role_kept, untouched, draft_kept, side_is-side}
use Rattle.slot_table.specs.ReferenceSteps.{opened, opening}
use Rattle.slot_table.specs.Views.{recorded}
use Rattle.slot_table.proofs.Below.{below-adds}

pub closing-is : (c : Slot) → 1 ≤ closing_in c → c ≡ closing (side_in c)
closing-is idle h = absurd (omega arith)
closing-is (held n ws d) h = absurd (omega arith)
closing-is (closing d) h = refl
closing-is (side_of x ws) h = absurd (omega arith)

module _ (fits : List ℕ → List ℕ → Type 0) (k : Layout) (ls : List (List ℕ)) (u : SeatView) where
  abbrev v : SeatView
  v = record u { role = Closing; draft = None }

  abbrev x : ℕ
  x = u.slot

  abbrev wide : ℕ
  wide = k.capacity_words + 2

  abbrev after : List Event → SeatView
  after all = opened 0 (recorded v all (opening 0 v))

  pub gives_back_owes : (s : State ℕ SeatView) (r : Holds fits k ls s) (id : ℕ) → get_elem? s.views id ≡ some v → side_in (at (heap_after k r.all) x) ≡ None → OwesOne fits k ls s r id x 2 0 v (after r.all) (Detach x None) idle
  gives_back_owes s r id at_id no_side =
      let seat = r.seats id v at_id in
      let mine_below : x < k.slots = seat.role_is.4 in
      let h = heap_after k r.all in
      let here = r.slots x mine_below in
      let closes_here = weigh x x 1 refl in
      let shut_none = weigh_none x x 0 refl in
      let shut_total = total_at (closing_on x) s.views id v at_id in
      let was : at h x ≡ closing None = closing-is (at h x) (let a = here.closings in omega (arith, a, shut_total, closes_here)) ∙ ap closing no_side in
      let sum_c = total_set (closing_on x) s.views id v (after r.all) at_id in
      let sum_f = total_set (free_on x) s.views id v (after r.all) at_id in
      let same_here = one-same x in
      let was_closings : total (closing_on x) s.views ≡ 1 = here.closings ∙ ap closing_in was in
      let was_frees : total (free_on x) s.views ≡ 0 = here.frees ∙ ap idle_in was in
      let was_weights : total (weight_on x) s.views ≡ 0 = here.weights ∙ ap count_of was in
      record {
        offset = (omega arith, omega arith);
        below = mine_below;
        applies = (mine_below, inl (ap closing_in was), sym no_side);
        changes = ap (λ (c : Slot). set h x (detached c)) was;
        front_is = refl;
        active = tt;
        place = refl;
        pays = refl;
        elsewhere = λ y ne. record {
          weights = refl;
          closings = weigh_none y x 0 refl ∙ sym (weigh_not y x 1 ne);
          frees = let z = one-other y x ne in omega (arith, z);
        };
        here = record {
          count = get_or-set_other s.words (side_place k x) (count_place k x) 0 0 (λ e. let e' : count_place k x ≡ side_place k x = e in omega arith) ∙ (here.count ∙ ap count_of was);
          side_shown = get_or-set_same s.words (side_place k x) 0 0 (omega (arith, r.wide, within wide k.slots x 2 mine_below (omega arith)));
          content = λ j below. absurd (omega arith);
          room = omega arith;
          alive = tt;
          weights = total_same (weight_on x) s.views id v (after r.all) at_id refl ∙ was_weights;
          closings = omega (arith, sum_c, was_closings, closes_here, shut_none);
          frees = omega (arith, sum_f, was_frees, same_here);
        };
        mine = record {
          front_is = ([], append-nil _);
          told_is = prefix_more u.told r.all _ (prefix_trans u.told u.front r.all seat.told_is seat.front_is);
          places_below = below-adds u.front r.all _ u.places seat.front_is seat.places_below;
          literals_are = seat.literals_are;
          draft_is = tt;
          role_is = (seat.role_is.0, seat.role_is.1, seat.role_is.2, refl);
        };
        others = λ j y ne at_j. let other = r.seats j y at_j in let none_here = total_at (weight_on x) s.views j y at_j in (
          role_kept k h (set h x idle) y y.role
              (λ _ (ok : ReferenceOk k h y). untouched k h (set h x idle) y
              (at-set_else h x y.slot _ (λ (same : y.slot ≡ x). let w = weigh x y.slot y.weight (sym same) in let some_weight = ok.weighs.0 in absurd (omega (arith, none_here, was_weights, w, some_weight))))
              (λ e its. let side = side_is-side fits k r.all r.legal y.slot e its in
              ap words_of (at-set_else h x e _ (λ q. let t : closing None ≡ side_of y.slot side.0 = sym was ∙ (ap (at h) (sym q) ∙ side.1) in cc))))
              other.role_is,
          draft_kept k s.words (side_place k x) 0 y y.draft (λ z i e below. data_not_side k z i x below) other.draft_is,
        );
      }
