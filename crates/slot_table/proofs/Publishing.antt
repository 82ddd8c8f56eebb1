-- A draft becomes a reference.
use Rattle.std.proofs.Common.{◌≡◌, ℕ, suc, ◌+◌, ◌<◌, ◌≤◌, List, [], ◌∷◌, ◌++◌, length, set, Some, None, refl, sym, ap, ◌∙◌, subst, arith, get_or-set_same, get_or-set_other, append-nil}
use mathlib.Core.Option.{some, none}
use lib.ListN.{get_elem?}
use Rattle.atomic_table.specs.Table.{State, Step, step, keeps, Allows}
use Rattle.slot_model.specs.declared.event.Event.{Event}
use Rattle.slot_model.specs.declared.event.Event.TheVariants.{Publish}
use Rattle.slot_model.specs.declared.layout.Layout.{Layout}
use Rattle.slot_model.specs.History.{Heap, idle, held, at, count_of, words_of, side_in, idle_in, closing_in, heap_after}
use Rattle.slot_model.proofs.Runs.{length-heap_after, heap_after-snoc, at-set, at-set_else}
use Rattle.slot_table.specs.declared.view.SeatView.{SeatView}
use Rattle.slot_table.specs.declared.view.Role.TheVariants.{Draft, Reference}
use Rattle.slot_table.specs.Addresses.{count_place, side_place, data_place}
use Rattle.slot_table.specs.Numbers.{one, times}
use Rattle.slot_table.specs.Seats.{weight_on, closing_on, free_on}
use Rattle.slot_table.specs.Holdings.{ReferenceOk, Holds}
use Rattle.slot_table.specs.Views.{Sat, recorded}
use Rattle.slot_table.specs.DraftSteps.{publishing, published, Publishes}
use Rattle.slot_table.proofs.Sums.{total_set, total_at}
use Rattle.slot_table.proofs.Rows.{within, data_not_count}
use Rattle.slot_table.proofs.Turns.{turn_one, OwesOne, prefix_more, prefix_trans}
use Rattle.slot_table.proofs.Kept.{one-same, one-other, weigh, weigh_not, weigh_none, idle-is, role_kept, untouched, side_not_idle, draft_kept}
use Rattle.slot_table.proofs.Below.{below-adds}
use Rattle.slot_table.proofs.Turns.{still_legal}

module _ (fits : List ℕ → List ℕ → Type 0) (k : Layout) (ls : List (List ℕ)) (u : SeatView) (d : ℕ) where
  abbrev v : SeatView
  v = record u { role = Draft; draft = Some d }

  abbrev after : List Event → SeatView
  after all = published (recorded v all (publishing v))

  abbrev wide : ℕ
  wide = k.capacity_words + 2

  publish_owes : (s : State ℕ SeatView) (r : Holds fits k ls s) (id : ℕ) → get_elem? s.views id ≡ some v → 0 < length u.written
      → OwesOne fits k ls s r id d 1 1 v (after r.all) (Publish d u.written) (held 1 u.written None)
  publish_owes s r id at_id some_words =
      let seat = r.seats id v at_id in
      let plain = seat.role_is.1 in
      let empty : u.free ≡ [] = seat.role_is.3 in
      let here = r.slots d seat.draft_is.0 in
      let h = heap_after k r.all in
      let free_here : free_on d v ≡ 1 = ap (λ l. times d l + one d d) empty ∙ (let e = one-same d in omega arith) in
      let free_total = total_at (free_on d) s.views id v at_id in
      let is_idle : at h d ≡ idle = idle-is (at h d) (omega (arith, here.frees)) in
      let no_count : count_of (at h d) ≡ 0 = ap count_of is_idle in
      let no_closing : closing_in (at h d) ≡ 0 = ap closing_in is_idle in
      let one_idle : idle_in (at h d) ≡ 1 = ap idle_in is_idle in
      let light : (y : ℕ) → weight_on y v ≡ 0 = λ y. weigh_none y u.slot u.weight plain.light in
      let shut : (y : ℕ) → closing_on y v ≡ 0 = λ y. weigh_none y u.slot 0 refl in
      let shut' : (y : ℕ) → closing_on y (after r.all) ≡ 0 = λ y. weigh_none y d 0 refl in
      let bound : length u.written ≤ k.capacity_words = seat.draft_is.1 in
      let sum_w = total_set (weight_on d) s.views id v (after r.all) at_id in
      let sum_c = total_set (closing_on d) s.views id v (after r.all) at_id in
      let sum_f = total_set (free_on d) s.views id v (after r.all) at_id in
      let weight_here : weight_on d (after r.all) ≡ 1 = weigh d d 1 refl in
      let now : at (heap_after k (r.all ++ Publish d u.written ∷ [])) d ≡ held 1 u.written None = ap (λ (g : Heap). at g d) (heap_after-snoc k r.all (Publish d u.written)) ∙ at-set h d _ (subst (λ (m : ℕ). d < m) (sym (length-heap_after k r.all)) seat.draft_is.0) in
      let free_after : free_on d (after r.all) ≡ 0 = ap (λ l. times d l + 0) empty in
      record {
        offset = (omega arith, omega arith);
        below = seat.draft_is.0;
        applies = (seat.draft_is.0, is_idle, some_words, bound);
        changes = refl;
        front_is = refl;
        active = tt;
        place = refl;
        pays = refl;
        elsewhere = λ y ne. record {
          weights = weigh_not y d 1 ne ∙ sym (light y);
          closings = shut' y ∙ sym (shut y);
          frees = let z = one-other y d ne in omega (arith, z);
        };
        here = record {
          count = get_or-set_same s.words (count_place k d) 1 0 (omega (arith, r.wide, within wide k.slots d 1 seat.draft_is.0 (omega arith)));
          side_shown = get_or-set_other s.words (count_place k d) (side_place k d) 1 0 (λ e. let e' : side_place k d ≡ count_place k d = e in omega arith) ∙ (here.side_shown ∙ ap (λ c. elim (side_in c) as (λ _. ℕ) [ None ↦ 0 | Some z ↦ suc z ]) is_idle);
          content = λ j below. get_or-set_other s.words (count_place k d) (data_place k d j) 1 0 (λ e. let e' : data_place k d j ≡ count_place k d = e in omega arith) ∙ seat.draft_is.2 j below;
          room = bound;
          alive = omega arith;
          weights = omega (arith, sum_w, here.weights, no_count, light d, weight_here);
          closings = omega (arith, sum_c, here.closings, no_closing, shut d, shut' d);
          frees = omega (arith, sum_f, here.frees, one_idle, free_here, free_after);
        };
        mine = record {
          front_is = ([], append-nil _);
          told_is = prefix_more u.told r.all _ (prefix_trans u.told u.front r.all seat.told_is seat.front_is);
          places_below = below-adds u.front r.all _ u.places seat.front_is seat.places_below;
          literals_are = seat.literals_are;
          draft_is = tt;
          role_is = record {
            layout_is = seat.role_is.0;
            below = seat.draft_is.0;
            weighs = (omega arith, omega arith);
            pays = seat.role_is.2;
            knows = ap words_of (sym now);
            sole_is = λ _. (refl, ap count_of now);
            bare_is = λ _. (refl, ap side_in now);
            side_is = tt;
          };
        };
        others = λ j x ne at_j. let other = r.seats j x at_j in let none_here = total_at (weight_on d) s.views j x at_j in (
          role_kept k h (set h d (held 1 u.written None)) x x.role
              (λ (_ : x.role ≡ Reference) (ok : ReferenceOk k h x). untouched k h (set h d (held 1 u.written None)) x
              (at-set_else h d x.slot _ (λ (same : x.slot ≡ d). let w = weigh d x.slot x.weight (sym same) in let some_weight = ok.weighs.0 in absurd (omega (arith, none_here, here.weights, no_count, w, some_weight))))
              (λ e its. ap words_of (at-set_else h d e _ (λ q. side_not_idle fits k r.all r.legal x.slot e its (ap (at h) q ∙ is_idle)))))
              other.role_is,
          draft_kept k s.words (count_place k d) 1 x x.draft (λ y i e below. data_not_count k y i d below) other.draft_is,
        );
      }

  publish_core : (slots id : ℕ) (cs : List (ℕ × ℕ)) (st : Step ℕ) → 0 < length u.written → Allows (Holds fits k ls) slots id (v, cs) (count_place k d) (λ _. 1) (λ _. Publishes fits st (v, cs) 1)
  publish_core slots id cs st some_words s r flat at_id small =
      let seat = r.seats id v at_id in let owes = publish_owes s r id at_id some_words in (
        after r.all,
        keeps,
        tt,
        turn_one fits k ls s r id d 1 1 v (after r.all) (Publish d u.written) (held 1 u.written None) at_id owes,
        (r.all, seat.front_is, still_legal fits k r.all _ v.layout seat.role_is.0 r.legal owes.applies, refl, refl),
      )

pub publish_allowed : (fits : List ℕ → List ℕ → Type 0) (k : Layout) (ls : List (List ℕ)) (slots id i : ℕ) (me : Sat) (d : ℕ) → me.0.role ≡ Draft → me.0.draft ≡ Some d → 0 < length me.0.written → i ≡ count_place k d
    → Allows (Holds fits k ls) slots id me i (λ _. 1) (λ _. Publishes fits (step slots i 1 0 none) me 1)
publish_allowed fits k ls slots id i me d role is some_words at_i = subst (λ (z : Sat × ℕ). Allows (Holds fits k ls) slots id z.0 z.1 (λ _. 1) (λ _. Publishes fits (step slots i 1 0 none) z.0 1))
    (λ t. ((record me.0 { role = sym role t; draft = sym is t }, me.1), sym at_i t)) (publish_core fits k ls me.0 d slots id me.1 (step slots i 1 0 none) some_words)
