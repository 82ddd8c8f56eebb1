-- A reference's count grows, and the reference has weight 2 then.
use Rattle.std.proofs.Common.{◌≡◌, ◌≢◌, ℕ, ◌+◌, ◌%◌, ◌^◌, ◌<◌, ◌≤◌, true≢false, List, [], get_or, set, Option, Some, None, refl, sym, ap, ◌∙◌, subst, arith, get_or-set_same, get_or-set_other, append-nil}
use mathlib.Core.Option.{some, none}
use mathlib.Core.Logic.{dite}
use native.Mathlib.Decide.{ℕ_discrete}
use lib.ListN.{get_elem?}
use Rattle.atomic_table.specs.Table.{State, Step, step, keeps, Allows}
use Rattle.slot_model.specs.declared.event.Event.{Event}
use Rattle.slot_model.specs.declared.event.Event.TheVariants.{Retain}
use Rattle.slot_model.specs.declared.layout.Layout.{Layout}
use Rattle.slot_model.specs.History.{Slot, Heap, held, at, next, retained, count_of, words_of, side_in, idle_in, closing_in, heap_after}
use Rattle.slot_model.proofs.Runs.{length-heap_after, heap_after-snoc, at-set, at-set_else}
use Rattle.slot_table.specs.declared.view.SeatView.{SeatView}
use Rattle.slot_table.specs.declared.view.Role.{Role}
use Rattle.slot_table.specs.declared.view.Role.TheVariants.{Share, Draft, Reference, Closing, Literal, Spent}
use Rattle.slot_table.specs.Addresses.{count_place, side_place, data_place}
use Rattle.slot_table.specs.Numbers.{total}
use Rattle.slot_table.specs.Seats.{weight_on, closing_on, free_on, credits_in}
use Rattle.slot_table.specs.Holdings.{SlotOk, SeatOk, RoleOk, ReferenceOk, SideOk, Holds}
use Rattle.slot_table.specs.Views.{Sat, recorded}
use Rattle.slot_table.specs.ReferenceSteps.{retaining, doubled, Retains}
use Rattle.slot_table.proofs.Sums.{total_set, total_at, total_two, total_le}
use Rattle.slot_table.proofs.Rows.{within, data_not_count}
use Rattle.slot_table.proofs.Turns.{turned, prefix_more, prefix_trans, total_same, OwesOne, still_legal, turn_one}
use Rattle.slot_table.proofs.Kept.{weigh, weigh_not, weigh_none, Like, role_kept, untouched, draft_kept, side_is-side}
use Rattle.slot_table.proofs.Below.{below-adds}
use Rattle.slot_table.proofs.Releasing.{held-is}

-- the weights on a slot are paid for, so that a count stays far below what a word holds
pub count_paid : (fits : List ℕ → List ℕ → Type 0) (k : Layout) (ls : List (List ℕ)) (s : State ℕ SeatView) (r : Holds fits k ls s) (y : ℕ) → total (weight_on y) s.views ≤ k.credits
count_paid fits k ls s r y = let t = total_le (weight_on y) credits_in s.views (λ j w e. paid w w.role (r.seats j w e).role_is) in let c = r.credits in omega (arith, t, c)
  where
    light_one : (w : SeatView) → w.weight ≡ 0 → weight_on y w ≤ w.credits
    light_one w l = let z = weigh_none y w.slot w.weight l in omega (arith, z)

    paid : (w : SeatView) (ρ : Role) → RoleOk k (heap_after k r.all) w ρ → weight_on y w ≤ w.credits
    paid w Share ok = light_one w ok.1.light
    paid w Draft ok = light_one w ok.1.light
    paid w Reference ok = dite (ℕ_discrete y w.slot) (λ (q : y ≡ w.slot). let z = weigh y w.slot w.weight q in let p = ok.pays in omega (arith, z, p)) (λ (n : ¬ (y ≡ w.slot)). let z = weigh_not y w.slot w.weight n in omega (arith, z))
    paid w Closing ok = light_one w ok.1.light
    paid w Literal ok = light_one w ok.1.light
    paid w Spent ok = light_one w ok.0.light

up_one : (n : ℕ) → n ≤ 1048576 → (n + 1) % 2 ^ 64 ≡ n + 1
up_one n few = omega arith

module _ (fits : List ℕ → List ℕ → Type 0) (k : Layout) (ls : List (List ℕ)) (u : SeatView) where
  abbrev v : SeatView
  v = record u { role = Reference; weight = 1; draft = None }

  abbrev x : ℕ
  x = u.slot

  abbrev wide : ℕ
  wide = k.capacity_words + 2

  abbrev after : List Event → SeatView
  after all = doubled (recorded v all (retaining v))

  module _ (s : State ℕ SeatView) (r : Holds fits k ls s) (id : ℕ) (at_id : get_elem? s.views id ≡ some v) where
    abbrev h : Heap
    h = heap_after k r.all

    abbrev n : ℕ
    n = get_or s.words (count_place k x) 0

    seat : SeatOk k ls s.words r.all v
    seat = r.seats id v at_id

    mine_ok : ReferenceOk k h v
    mine_ok = seat.role_is

    here : SlotOk k s.words s.views x (at h x)
    here = r.slots x mine_ok.below

    some_count : 1 ≤ count_of (at h x)
    some_count = let t = total_at (weight_on x) s.views id v at_id in let w = weigh x x 1 refl in let a = here.weights in omega (arith, t, w, a)

    pub few_count : n ≤ k.credits
    few_count = let p = count_paid fits k ls s r x in let a = here.weights in let b = here.count in omega (arith, p, a, b)

    abbrev c : Slot
    c = held (n + 1) (words_of (at h x)) (side_in (at h x))

    was_held : at h x ≡ held n (words_of (at h x)) (side_in (at h x))
    was_held = held-is (at h x) some_count ∙ ap (λ m. held m (words_of (at h x)) (side_in (at h x))) (sym here.count)

    changes : next h (Retain x) ≡ set h x c
    changes = ap (λ (z : Slot). set h x (retained z)) was_held ∙ ap (λ m. set h x (held m (words_of (at h x)) (side_in (at h x)))) (omega arith)

    at_x : at (set h x c) x ≡ c
    at_x = at-set h x c (subst (λ (m : ℕ). x < m) (sym (length-heap_after k r.all)) mine_ok.below)

    abbrev now : List ℕ
    now = set s.words (count_place k x) (n + 1)

    slot_x : SlotOk k now (set s.views id (after r.all)) x c
    slot_x = let set_w = total_set (weight_on x) s.views id v (after r.all) at_id in let one_w = weigh x x 1 refl in let two_w = weigh x x 2 refl in let a = here.weights in let b = here.count in record {
      count = get_or-set_same s.words (count_place k x) (n + 1) 0 (omega (arith, r.wide, within wide k.slots x 1 mine_ok.below (omega arith)));
      side_shown = get_or-set_other s.words (count_place k x) (side_place k x) (n + 1) 0 (λ e. let e' : side_place k x ≡ count_place k x = e in omega arith) ∙ here.side_shown;
      content = λ i below. get_or-set_other s.words (count_place k x) (data_place k x i) (n + 1) 0 (λ e. let e' : data_place k x i ≡ count_place k x = e in omega arith) ∙ here.content i below;
      room = here.room;
      alive = omega arith;
      weights = omega (arith, set_w, one_w, two_w, a, b);
      closings = total_same (closing_on x) s.views id v (after r.all) at_id refl ∙ (here.closings ∙ ap closing_in was_held);
      frees = total_same (free_on x) s.views id v (after r.all) at_id refl ∙ (here.frees ∙ ap idle_in was_held);
    }

    -- no side is slot x
    side_words_kept : (e z : ℕ) → side_in (at h z) ≡ Some e → words_of (at (set h x c) e) ≡ words_of (at h e)
    side_words_kept e z side = let was = side_is-side fits k r.all r.legal z e side in
        ap words_of (at-set_else h x e c (λ q. let a : count_of (at h x) ≡ 0 = ap (λ w. count_of (at h w)) (sym q) ∙ ap count_of was.1 in let b = some_count in omega (arith, a, b)))

    other_like : (j : ℕ) (y : SeatView) → j ≢ id → get_elem? s.views j ≡ some y → ReferenceOk k h y → Like k h (set h x c) y
    other_like j y ne at_j ok = dite (ℕ_discrete y.slot x)
        (λ (q : y.slot ≡ x).
        let two = total_two (weight_on x) s.views id j v y (λ e. ne (sym e)) at_id at_j in let a = weigh x x 1 refl in let b = weigh x y.slot y.weight (sym q) in let d = ok.weighs.0 in
        let more : 2 ≤ count_of (at h x) = (let t = here.weights in omega (arith, two, a, b, d, t)) in
        let c_is : at (set h x c) y.slot ≡ c = ap (at (set h x c)) q ∙ at_x in record {
          same_words = ap words_of c_is ∙ ap (λ z. words_of (at h z)) (sym q);
          still_sole = λ _ one_is. absurd (let o : count_of (at h x) ≡ 1 = ap (λ z. count_of (at h z)) (sym q) ∙ one_is in omega arith);
          still_bare = λ bare_is _. absurd (let sole = (ok.bare_is bare_is).0 in let o : count_of (at h x) ≡ 1 = ap (λ z. count_of (at h z)) (sym q) ∙ (ok.sole_is sole).1 in omega arith);
          same_side = λ e is side_ok. (side_ok.0, ap side_in c_is ∙ (ap (λ z. side_in (at h z)) (sym q) ∙ side_ok.1), side_ok.2 ∙ sym (side_words_kept e y.slot side_ok.1));
        })
        (λ (m : ¬ (y.slot ≡ x)). untouched k h (set h x c) y (at-set_else h x y.slot c m) (λ e side. side_words_kept e y.slot side))

    my_side : (d : Option ℕ) → SideOk k h v d → SideOk k (set h x c) (after r.all) d
    my_side None ok = tt
    my_side (Some e) ok = (ok.0, ap side_in at_x ∙ ok.1, ok.2 ∙ sym (side_words_kept e x ok.1))

    retain_owes : 2 ≤ u.credits → OwesOne fits k ls s r id x 1 (n + 1) v (after r.all) (Retain x) c
    retain_owes rich = record {
      offset = (omega arith, omega arith);
      below = mine_ok.below;
      applies = (mine_ok.below, some_count);
      changes = changes;
      front_is = refl;
      active = tt;
      place = refl;
      pays = refl;
      elsewhere = λ y ne. record { weights = weigh_not y x 2 ne ∙ sym (weigh_not y x 1 ne); closings = refl; frees = refl };
      here = slot_x;
      mine = record {
        front_is = ([], append-nil _);
        told_is = prefix_more u.told r.all _ (prefix_trans u.told u.front r.all seat.told_is seat.front_is);
        places_below = below-adds u.front r.all _ u.places seat.front_is seat.places_below;
        literals_are = seat.literals_are;
        draft_is = tt;
        role_is = subst (λ (g : Heap). ReferenceOk k g (after r.all)) (sym (heap_after-snoc k r.all (Retain x) ∙ changes)) record {
          layout_is = mine_ok.layout_is;
          below = mine_ok.below;
          weighs = (omega arith, omega arith);
          pays = rich;
          knows = mine_ok.knows ∙ sym (ap words_of at_x);
          sole_is = λ b. absurd (true≢false (sym b));
          bare_is = λ b. absurd (true≢false (sym b));
          side_is = my_side u.side mine_ok.side_is;
        };
      };
      others = λ j y ne at_j. let other = r.seats j y at_j in (
        role_kept k h (set h x c) y y.role (λ _ ok. other_like j y ne at_j ok) other.role_is,
        draft_kept k s.words (count_place k x) (n + 1) y y.draft (λ z i e below. data_not_count k z i x below) other.draft_is,
      );
    }

    pub retains_core : 2 ≤ u.credits → (st : Step ℕ) (cs : List (ℕ × ℕ)) → Holds fits k ls (turned s (count_place k x) (n + 1) id (after r.all)) × Retains fits st (v, cs) n (after r.all, cs)
    retains_core rich st cs = (
      turn_one fits k ls s r id x 1 (n + 1) v (after r.all) (Retain x) c at_id (retain_owes rich),
      (seat.told_is, (r.all, seat.front_is, still_legal fits k r.all (Retain x) v.layout mine_ok.layout_is r.legal (retain_owes rich).applies, refl, refl)),
    )

pub retains_allowed : (fits : List ℕ → List ℕ → Type 0) (k : Layout) (ls : List (List ℕ)) (slots id i : ℕ) (me : Sat) → k.credits ≤ 1048576 → me.0.role ≡ Reference → me.0.weight ≡ 1 → me.0.draft ≡ None → 2 ≤ me.0.credits → i ≡ count_place k me.0.slot
    → Allows (Holds fits k ls) slots id me i (λ n. (n + 1) % 2 ^ 64) (Retains fits (step slots i 1 0 none) me)
retains_allowed fits k ls slots id i me most role light no_draft rich at_i = subst (λ (z : Sat × ℕ). Allows (Holds fits k ls) slots id z.0 z.1 (λ n. (n + 1) % 2 ^ 64) (Retains fits (step slots i 1 0 none) z.0))
    (λ t. ((record me.0 { role = sym role t; weight = sym light t; draft = sym no_draft t }, me.1), sym at_i t))
    (λ s r flat at_id small. let done = retains_core fits k ls me.0 s r id at_id rich (step slots i 1 0 none) me.1 in let few = few_count fits k ls me.0 s r id at_id in
    (after fits k ls me.0 r.all, keeps, tt, subst (λ (m : ℕ). Holds fits k ls (turned s (count_place k me.0.slot) m id (after fits k ls me.0 r.all))) (sym (up_one _ (omega (arith, few, most)))) done.0, done.1))
