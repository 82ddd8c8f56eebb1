-- A sole reference takes its slot's side away, and the side's slot is free then.
use Rattle.std.proofs.Common.{◌≡◌, ◌≢◌, inr, ⊎_elim, ℕ, zero, suc, ◌+◌, ◌<◌, ◌≤◌, true, List, [], ◌∷◌, get_or, set, Option, Some, None, refl, sym, ap, ◌∙◌, subst, arith, get_or-set_same, get_or-set_other, append-nil, length-set}
use mathlib.Core.Option.{some, none}
use mathlib.Core.Logic.{dite}
use native.Mathlib.Decide.{ℕ_discrete}
use lib.ListN.{get_elem?}
use Rattle.atomic_table.specs.Table.{State, Step, step, keeps, Allows}
use Rattle.atomic_table.proofs.Lists.{set_here}
use Rattle.slot_model.specs.declared.event.Event.{Event}
use Rattle.slot_model.specs.declared.event.Event.TheVariants.{Detach}
use Rattle.slot_model.specs.declared.layout.Layout.{Layout}
use Rattle.slot_model.specs.History.{Slot, Heap, idle, held, side_of, at, next, detached, count_of, words_of, side_in, idle_in, closing_in, heap_after, Paired, Applies}
use Rattle.slot_model.proofs.Runs.{length-heap_after, heap_after-snoc, at-set, at-set_else}
use Rattle.slot_model.proofs.Sides.{paired_after, side_below}
use Rattle.slot_table.specs.declared.view.SeatView.{SeatView}
use Rattle.slot_table.specs.declared.view.Role.TheVariants.{Reference}
use Rattle.slot_table.specs.Addresses.{count_place, side_place, data_place, side_word, found_in}
use Rattle.slot_table.specs.Numbers.{total, one, times, Once}
use Rattle.slot_table.specs.Seats.{weight_on, closing_on, free_on}
use Rattle.slot_table.specs.Holdings.{SlotOk, SeatOk, SideOk, ReferenceOk, Holds}
use Rattle.slot_table.specs.Views.{Sat, recorded}
use Rattle.slot_table.specs.ReferenceSteps.{opening}
use Rattle.slot_table.specs.SideSteps.{sideless, FindsKnown, Detaches}
use Rattle.slot_table.proofs.Sums.{total_set, total_at, total_two, times_append}
use Rattle.slot_table.proofs.Rows.{apart, within, data_not_side}
use Rattle.slot_table.proofs.Turns.{turn, turned, Owes, OwesOne, turn_one, prefix_more, prefix_trans, total_same, listed, still_legal}
use Rattle.slot_table.proofs.Kept.{one-same, one-other, weigh, Like, role_kept, untouched, draft_kept}
use Rattle.slot_table.proofs.Below.{below-adds}
use Rattle.slot_table.proofs.Looking.{once}
use Rattle.slot_table.proofs.Releasing.{held-is}
use Rattle.slot_table.proofs.Seeing.{found_below}
use Rattle.slot_table.proofs.GivingBackBoth.{either_is, either_true, either_false, either_first, found-side_word}

module _ (fits : List ℕ → List ℕ → Type 0) (k : Layout) (ls : List (List ℕ)) (u : SeatView) where
  abbrev v : SeatView
  v = record u { role = Reference; weight = 1; draft = None; sole = true }

  abbrev x : ℕ
  x = u.slot

  abbrev wide : ℕ
  wide = k.capacity_words + 2

  abbrev after : ℕ → List Event → SeatView
  after n all = sideless n (recorded v all (opening n v))

  module _ (s : State ℕ SeatView) (r : Holds fits k ls s) (id : ℕ) (at_id : get_elem? s.views id ≡ some v) where
    abbrev h : Heap
    h = heap_after k r.all

    abbrev n : ℕ
    n = get_or s.words (side_place k x) 0

    abbrev now : List ℕ
    now = set s.words (side_place k x) 0

    abbrev ws : List ℕ
    ws = words_of (at h x)

    abbrev c : Slot
    c = held 1 ws None

    seat : SeatOk k ls s.words r.all v
    seat = r.seats id v at_id

    mine_ok : ReferenceOk k h v
    mine_ok = seat.role_is

    here : SlotOk k s.words s.views x (at h x)
    here = r.slots x mine_ok.below

    one_count : count_of (at h x) ≡ 1
    one_count = (mine_ok.sole_is refl).1

    was_held : at h x ≡ held 1 ws (side_in (at h x))
    was_held = held-is (at h x) (let e = one_count in omega arith) ∙ ap (λ m. held m ws (side_in (at h x))) one_count

    detached_is : detached (at h x) ≡ c
    detached_is = ap detached was_held

    found_is : found_in n ≡ side_in (at h x)
    found_is = ap found_in here.side_shown ∙ found-side_word (side_in (at h x))

    -- the side that was known is the slot's
    finds_known : FindsKnown v n
    finds_known = (λ b. here.side_shown ∙ ap side_word (mine_ok.bare_is b).1, λ d is. found_is ∙ (subst (SideOk k h v) is mine_ok.side_is).1)

    -- no other reference is on the slot
    apart_x : (j : ℕ) (y : SeatView) → j ≢ id → get_elem? s.views j ≡ some y → ReferenceOk k h y → y.slot ≢ x
    apart_x j y ne at_j ok q = let two = total_two (weight_on x) s.views id j v y (λ e. ne (sym e)) at_id at_j in let a = weigh x x 1 refl in let b = weigh x y.slot y.weight (sym q) in let d = ok.weighs.0 in let t = here.weights in let o = one_count in omega (arith, two, a, b, d, t, o)

    ref_else : (y : ℕ) → count_place k y ≢ side_place k x
    ref_else y e = dite (ℕ_discrete y x)
        (λ (q : y ≡ x). let a : count_place k x ≡ side_place k x = ap (count_place k) (sym q) ∙ e in omega arith)
        (λ (m : ¬ (y ≡ x)). apart wide y x 1 2 m (omega arith) (omega arith) (omega arith) (omega arith) e)

    -- slot x after the step, where the seat is w and the sums at x are as they were
    slot_x : (w : SeatView) → weight_on x w ≡ weight_on x v → closing_on x w ≡ closing_on x v → free_on x w ≡ free_on x v → SlotOk k now (set s.views id w) x c
    slot_x w weights closings frees = record {
      count = get_or-set_other s.words (side_place k x) (count_place k x) 0 0 (ref_else x) ∙ (here.count ∙ one_count);
      side_shown = get_or-set_same s.words (side_place k x) 0 0 (omega (arith, r.wide, within wide k.slots x 2 mine_ok.below (omega arith)));
      content = λ i below. get_or-set_other s.words (side_place k x) (data_place k x i) 0 0 (data_not_side k x i x (let room = here.room in omega arith)) ∙ here.content i below;
      room = here.room;
      alive = omega arith;
      weights = total_same (weight_on x) s.views id v w at_id weights ∙ (here.weights ∙ one_count);
      closings = total_same (closing_on x) s.views id v w at_id closings ∙ (here.closings ∙ ap closing_in was_held);
      frees = total_same (free_on x) s.views id v w at_id frees ∙ (here.frees ∙ ap idle_in was_held);
    }

    paired : Paired h
    paired = paired_after fits k r.all r.legal

    -- there was no side
    abbrev bared : Heap
    bared = set h x c

    at_bared : at bared x ≡ c
    at_bared = at-set h x c (subst (λ (m : ℕ). x < m) (sym (length-heap_after k r.all)) mine_ok.below)

    none_like : (j : ℕ) (y : SeatView) → j ≢ id → get_elem? s.views j ≡ some y → ReferenceOk k h y → Like k h bared y
    none_like j y ne at_j ok = untouched k h bared y (at-set_else h x y.slot c (apart_x j y ne at_j ok)) (λ e side. let was = paired.has y.slot e side in
        ap words_of (at-set_else h x e c (λ q. let a : count_of (at h x) ≡ 0 = ap (λ z. count_of (at h z)) (sym q) ∙ ap count_of was.1 in let b = one_count in omega (arith, a, b))))

    none_changes : next h (Detach x None) ≡ bared
    none_changes = ap (λ (z : Slot). set h x z) detached_is

    none_owes : side_in (at h x) ≡ None → OwesOne fits k ls s r id x 2 0 v (after 0 r.all) (Detach x None) c
    none_owes gone = record {
      offset = (omega arith, omega arith);
      below = mine_ok.below;
      applies = (mine_ok.below, inr one_count, sym gone);
      changes = none_changes;
      front_is = refl;
      active = tt;
      place = refl;
      pays = refl;
      elsewhere = λ y ne. record { weights = refl; closings = refl; frees = refl };
      here = slot_x (after 0 r.all) refl refl refl;
      mine = record {
        front_is = ([], append-nil _);
        told_is = prefix_more u.told r.all _ (prefix_trans u.told u.front r.all seat.told_is seat.front_is);
        places_below = below-adds u.front r.all _ u.places seat.front_is seat.places_below;
        literals_are = seat.literals_are;
        draft_is = tt;
        role_is = subst (λ (g : Heap). ReferenceOk k g (after 0 r.all)) (sym (heap_after-snoc k r.all (Detach x None) ∙ none_changes)) record {
          layout_is = mine_ok.layout_is;
          below = mine_ok.below;
          weighs = mine_ok.weighs;
          pays = mine_ok.pays;
          knows = mine_ok.knows ∙ sym (ap words_of at_bared);
          sole_is = λ _. (refl, ap count_of at_bared);
          bare_is = λ _. (refl, ap side_in at_bared);
          side_is = tt;
        };
      };
      others = λ j y ne at_j. let other = r.seats j y at_j in (
        role_kept k h bared y y.role (λ _ ok. none_like j y ne at_j ok) other.role_is,
        draft_kept k s.words (side_place k x) 0 y y.draft (λ z i e below. data_not_side k z i x below) other.draft_is,
      );
    }

    -- there was the side d
    module _ (d : ℕ) (side : side_in (at h x) ≡ Some d) where
      abbrev g : Heap
      g = set (set h x (detached (at h x))) d idle

      d_side : (vs : List ℕ) × (at h d ≡ side_of x vs)
      d_side = paired.has x d side

      d_below : d < k.slots
      d_below = side_below fits k h x d (length-heap_after k r.all) side paired

      here_d : SlotOk k s.words s.views d (at h d)
      here_d = r.slots d d_below

      x_not_d : x ≢ d
      x_not_d q = let a : count_of (at h x) ≡ 0 = ap (λ z. count_of (at h z)) q ∙ ap count_of d_side.1 in let b = one_count in omega (arith, a, b)

      at_d : at g d ≡ idle
      at_d = at-set (set h x (detached (at h x))) d idle (subst (λ (m : ℕ). d < m) (sym (length-set h x (detached (at h x)) ∙ length-heap_after k r.all)) d_below)

      at_x : at g x ≡ c
      at_x = at-set_else (set h x (detached (at h x))) d x idle x_not_d ∙ (at-set h x (detached (at h x)) (subst (λ (m : ℕ). x < m) (sym (length-heap_after k r.all)) mine_ok.below) ∙ detached_is)

      at_else : (y : ℕ) → y ≢ x → y ≢ d → at g y ≡ at h y
      at_else y n m = at-set_else (set h x (detached (at h x))) d y idle m ∙ at-set_else h x y (detached (at h x)) n

      abbrev w : SeatView
      w = after (suc d) r.all

      frees_grow : (y : ℕ) → times y w.free ≡ times y u.free + one y d
      frees_grow y = let t = times_append y u.free (d ∷ []) in omega (arith, t)

      slot_d : SlotOk k now (set s.views id w) d idle
      slot_d = let f = total_set (free_on d) s.views id v w at_id in let me = one-same d in let grew = frees_grow d in let was_f : total (free_on d) s.views ≡ 0 = here_d.frees ∙ ap idle_in d_side.1 in record {
        count = get_or-set_other s.words (side_place k x) (count_place k d) 0 0 (ref_else d) ∙ (here_d.count ∙ ap count_of d_side.1);
        side_shown = get_or-set_other s.words (side_place k x) (side_place k d) 0 0 (λ e. apart wide d x 2 2 (λ q. x_not_d (sym q)) (omega arith) (omega arith) (omega arith) (omega arith) e) ∙ (here_d.side_shown ∙ ap (λ z. side_word (side_in z)) d_side.1);
        content = λ i below. absurd (omega arith);
        room = omega arith;
        alive = tt;
        weights = total_same (weight_on d) s.views id v w at_id refl ∙ (here_d.weights ∙ ap count_of d_side.1);
        closings = total_same (closing_on d) s.views id v w at_id refl ∙ (here_d.closings ∙ ap closing_in d_side.1);
        frees = omega (arith, f, me, grew, was_f);
      }

      other_like : (j : ℕ) (y : SeatView) → j ≢ id → get_elem? s.views j ≡ some y → ReferenceOk k h y → Like k h g y
      other_like j y ne at_j ok =
          let some_there : 1 ≤ count_of (at h y.slot) = (let t = total_at (weight_on y.slot) s.views j y at_j in let a = weigh y.slot y.slot y.weight refl in let b = ok.weighs.0 in let q = (r.slots y.slot ok.below).weights in omega (arith, t, a, b, q)) in
          let not_x = apart_x j y ne at_j ok in
          let not_d : y.slot ≢ d = (λ q. let a : count_of (at h y.slot) ≡ 0 = ap (λ z. count_of (at h z)) q ∙ ap count_of d_side.1 in omega arith) in
          untouched k h g y (at_else y.slot not_x not_d) (λ e its. let was = paired.has y.slot e its in
          ap words_of (at_else e (λ q. let a : count_of (at h x) ≡ 0 = ap (λ z. count_of (at h z)) (sym q) ∙ ap count_of was.1 in let b = one_count in omega (arith, a, b)) (λ q. not_x (let a : side_of y.slot was.0 ≡ side_of x d_side.0 = sym was.1 ∙ (ap (at h) q ∙ d_side.1) in cc))))

      some_owes : Owes fits k ls s r id x 2 0 v w (Detach x (Some d)) (either_is x d)
      some_owes = record {
        offset = (omega arith, omega arith);
        hits = either_first x d;
        within_heap = λ y is. ⊎_elim (λ (q : y ≡ x). subst (λ (z : ℕ). z < k.slots) (sym q) mine_ok.below) (λ (q : y ≡ d). subst (λ (z : ℕ). z < k.slots) (sym q) d_below) (either_true x d y is);
        applies = (mine_ok.below, inr one_count, sym side);
        front_is = refl;
        active = tt;
        place = refl;
        pays = refl;
        elsewhere = λ y is. let n = either_false x d y is in (record { weights = refl; closings = refl; frees = let a = one-other y d n.1 in let b = frees_grow y in omega (arith, a, b) }, at_else y n.0 n.1);
        here = λ y is. ⊎_elim
            (λ (q : y ≡ x). subst (λ (z : ℕ). SlotOk k now (set s.views id w) z (at g z)) (sym q) (subst (SlotOk k now (set s.views id w) x) (sym at_x) (slot_x w refl refl (let a = one-other x d x_not_d in let b = frees_grow x in omega (arith, a, b)))))
            (λ (q : y ≡ d). subst (λ (z : ℕ). SlotOk k now (set s.views id w) z (at g z)) (sym q) (subst (SlotOk k now (set s.views id w) d) (sym at_d) slot_d))
            (either_true x d y is);
        mine = record {
          front_is = ([], append-nil _);
          told_is = prefix_more u.told r.all _ (prefix_trans u.told u.front r.all seat.told_is seat.front_is);
          places_below = below-adds u.front r.all _ u.places seat.front_is seat.places_below;
          literals_are = seat.literals_are;
          draft_is = tt;
          role_is = subst (λ (z : Heap). ReferenceOk k z w) (sym (heap_after-snoc k r.all (Detach x (Some d)))) record {
            layout_is = mine_ok.layout_is;
            below = mine_ok.below;
            weighs = mine_ok.weighs;
            pays = mine_ok.pays;
            knows = mine_ok.knows ∙ sym (ap words_of at_x);
            sole_is = λ _. (refl, ap count_of at_x);
            bare_is = λ _. (refl, ap side_in at_x);
            side_is = tt;
          };
        };
        others = λ j y ne at_j. let other = r.seats j y at_j in (
          role_kept k h g y y.role (λ _ ok. other_like j y ne at_j ok) other.role_is,
          draft_kept k s.words (side_place k x) 0 y y.draft (λ z i e below. data_not_side k z i x below) other.draft_is,
        );
      }

    abbrev Done : Step ℕ → List (ℕ × ℕ) → Type 0
    Done st cs = Holds fits k ls (turned s (side_place k x) 0 id (after n r.all)) × Detaches fits st (v, cs) n (after n r.all, cs)

    -- what is told, once the rule holds again
    tells : (st : Step ℕ) (cs : List (ℕ × ℕ)) → Applies fits k h (opening n v) → Holds fits k ls (turned s (side_place k x) 0 id (after n r.all)) → Done st cs
    tells st cs applies holds = (
      holds,
      (
        seat.told_is,
        (subst (λ (l : Layout). n ≤ l.slots) (sym mine_ok.layout_is) (found_below fits k ls s r x n here.side_shown), finds_known),
        subst (λ (l : Layout). Once l.slots (after n r.all).free) (sym mine_ok.layout_is) (once fits k ls (turned s (side_place k x) 0 id (after n r.all)) holds id (after n r.all) (set_here s.views id (after n r.all) (listed s.views id v at_id))),
        (r.all, seat.front_is, still_legal fits k r.all (opening n v) v.layout mine_ok.layout_is r.legal applies, refl, refl),
      ),
    )

    pub detaches_core : (st : Step ℕ) (cs : List (ℕ × ℕ)) → Done st cs
    detaches_core st cs = by_side (side_in (at h x)) refl
      where
        by_side : (o : Option ℕ) → side_in (at h x) ≡ o → Done st cs
        by_side None gone = let is : n ≡ 0 = here.side_shown ∙ ap side_word gone in tells st cs
            (subst (λ (m : ℕ). Applies fits k h (opening m v)) (sym is) (none_owes gone).applies)
            (subst (λ (m : ℕ). Holds fits k ls (turned s (side_place k x) 0 id (after m r.all))) (sym is) (turn_one fits k ls s r id x 2 0 v (after 0 r.all) (Detach x None) c at_id (none_owes gone)))
        by_side (Some d) some_side = let is : n ≡ suc d = here.side_shown ∙ ap side_word some_side in tells st cs
            (subst (λ (m : ℕ). Applies fits k h (opening m v)) (sym is) (some_owes d some_side).applies)
            (subst (λ (m : ℕ). Holds fits k ls (turned s (side_place k x) 0 id (after m r.all))) (sym is) (turn fits k ls s r id x 2 0 v (after (suc d) r.all) (Detach x (Some d)) (either_is x d) at_id (some_owes d some_side)))

pub detaches_allowed : (fits : List ℕ → List ℕ → Type 0) (k : Layout) (ls : List (List ℕ)) (slots id i : ℕ) (me : Sat) → me.0.role ≡ Reference → me.0.weight ≡ 1 → me.0.draft ≡ None → me.0.sole ≡ true → i ≡ side_place k me.0.slot
    → Allows (Holds fits k ls) slots id me i (λ _. 0) (Detaches fits (step slots i 0 0 none) me)
detaches_allowed fits k ls slots id i me role light no_draft sole at_i = subst (λ (z : Sat × ℕ). Allows (Holds fits k ls) slots id z.0 z.1 (λ _. 0) (Detaches fits (step slots i 0 0 none) z.0))
    (λ t. ((record me.0 { role = sym role t; weight = sym light t; draft = sym no_draft t; sole = sym sole t }, me.1), sym at_i t))
    (λ s r flat at_id small. let done = detaches_core fits k ls me.0 s r id at_id (step slots i 0 0 none) me.1 in (after fits k ls me.0 (get_or s.words (side_place k me.0.slot) 0) r.all, keeps, tt, done.0, done.1))

-- what the step leaves of a view
pub sideless-keeps : (n : ℕ) (v : SeatView) → ((sideless n v).role ≡ v.role) × ((sideless n v).weight ≡ v.weight) × ((sideless n v).credits ≡ v.credits) × ((sideless n v).draft ≡ v.draft) × ((sideless n v).layout ≡ v.layout) × ((sideless n v).literals ≡ v.literals)
sideless-keeps zero v = (refl, refl, refl, refl, refl, refl)
sideless-keeps (suc d) v = (refl, refl, refl, refl, refl, refl)
