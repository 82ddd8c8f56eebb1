-- A closed slot comes back, and its side with it.
use Rattle.std.proofs.Common.{◌≡◌, ◌≢◌, ◌⊎◌, inl, inr, ⊎_elim, ℕ, ◌+◌, ◌<◌, ◌≤◌, eqb, Bool, true, false, true≢false, List, [], ◌∷◌, ◌++◌, length, set, Option, Some, None, refl, sym, ap, ◌∙◌, subst, arith, get_or-set_same, get_or-set_other, append-nil, length-set, eq-eqb, eqb-true, ne_eqb, ◌||◌}
use mathlib.Core.Option.{some}
use mathlib.Core.Logic.{dite}
use native.Mathlib.Decide.{ℕ_discrete}
use lib.ListN.{get_elem?}
use Rattle.atomic_table.specs.Table.{State}
use Rattle.slot_model.specs.declared.event.Event.{Event}
use Rattle.slot_model.specs.declared.event.Event.TheVariants.{Detach}
use Rattle.slot_model.specs.declared.layout.Layout.{Layout}
use Rattle.slot_model.specs.History.{Heap, idle, closing, side_of, at, detached, count_of, words_of, side_in, idle_in, closing_in, heap_after, Paired}
use Rattle.slot_model.proofs.Runs.{length-heap_after, at-set, at-set_else}
use Rattle.slot_model.proofs.Sides.{paired_after, side_below}
use Rattle.slot_table.specs.declared.view.SeatView.{SeatView}
use Rattle.slot_table.specs.declared.view.Role.TheVariants.{Share, Closing}
use Rattle.slot_table.specs.Addresses.{count_place, side_place, side_word, found_in}
use Rattle.slot_table.specs.Numbers.{total}
use Rattle.slot_table.specs.Seats.{weight_on, closing_on, free_on}
use Rattle.slot_table.specs.Holdings.{SlotOk, ReferenceOk, Holds}
use Rattle.slot_table.proofs.Sums.{total_set, total_at}
use Rattle.slot_table.proofs.Rows.{apart, within, data_not_side}
use Rattle.slot_table.proofs.Turns.{turn, turned, Owes, prefix_more, prefix_trans, total_same}
use Rattle.slot_table.proofs.Kept.{one-same, one-other, weigh, weigh_not, weigh_none, Like, role_kept, untouched, draft_kept}
use Rattle.slot_table.proofs.Below.{below-adds}
use Rattle.slot_table.proofs.GivingBackAlone.{closing-is}

-- which slots a step touches: x, and a second
abbrev pub either_is : ℕ → ℕ → ℕ → Bool
either_is x d y = eqb y x || eqb y d

pub either_true : (x d y : ℕ) → either_is x d y ≡ true → (y ≡ x) ⊎ (y ≡ d)
either_true x d y e = dite (ℕ_discrete y x) (λ (q : y ≡ x). inl q) (λ (n : ¬ (y ≡ x)). inr (eqb-true y d (sym (ap (λ b. b || eqb y d) (ne_eqb y x n)) ∙ e)))

pub either_false : (x d y : ℕ) → either_is x d y ≡ false → (y ≢ x) × (y ≢ d)
either_false x d y e =
    let not_x : y ≢ x = λ q. true≢false (sym (ap (λ b. b || eqb y d) (eq-eqb y x q)) ∙ e) in
    (not_x, λ q. true≢false (sym (ap (λ b. b || eqb y d) (ne_eqb y x not_x) ∙ eq-eqb y d q) ∙ e))

pub either_first : (x d : ℕ) → either_is x d x ≡ true
either_first x d = ap (λ b. b || eqb x d) (eq-eqb x x refl)

pub found-side_word : (o : Option ℕ) → found_in (side_word o) ≡ o
found-side_word None = refl
found-side_word (Some d) = refl

module _ (fits : List ℕ → List ℕ → Type 0) (k : Layout) (ls : List (List ℕ)) (u : SeatView) (d : ℕ) where
  abbrev v : SeatView
  v = record u { role = Closing; draft = None }

  abbrev x : ℕ
  x = u.slot

  abbrev wide : ℕ
  wide = k.capacity_words + 2

  abbrev pub back : List Event → SeatView
  back all = record v { role = Share; free = x ∷ d ∷ u.free; front = all ++ Detach x (Some d) ∷ []; places = u.places ++ length all ∷ [] }

  module _ (s : State ℕ SeatView) (r : Holds fits k ls s) (id : ℕ) (at_id : get_elem? s.views id ≡ some v) (side : side_in (at (heap_after k r.all) x) ≡ Some d) where
    abbrev h : Heap
    h = heap_after k r.all

    abbrev now : List ℕ
    now = set s.words (side_place k x) 0

    abbrev g : Heap
    g = set (set h x (detached (at h x))) d idle

    x_below : x < k.slots
    x_below = (r.seats id v at_id).role_is.4

    paired : Paired h
    paired = paired_after fits k r.all r.legal

    d_side : (ws : List ℕ) × (at h d ≡ side_of x ws)
    d_side = paired.has x d side

    d_below : d < k.slots
    d_below = side_below fits k h x d (length-heap_after k r.all) side paired

    here_x : SlotOk k s.words s.views x (at h x)
    here_x = r.slots x x_below

    here_d : SlotOk k s.words s.views d (at h d)
    here_d = r.slots d d_below

    x_closing : at h x ≡ closing (Some d)
    x_closing = let t = total_at (closing_on x) s.views id v at_id in let w = weigh x x 1 refl in let a = here_x.closings in closing-is (at h x) (omega (arith, t, w, a)) ∙ ap closing side

    x_not_d : x ≢ d
    x_not_d q = let a : closing (Some d) ≡ side_of x d_side.0 = sym x_closing ∙ (ap (at h) q ∙ d_side.1) in cc

    at_d : at g d ≡ idle
    at_d = at-set (set h x (detached (at h x))) d idle (subst (λ (m : ℕ). d < m) (sym (length-set h x (detached (at h x)) ∙ length-heap_after k r.all)) d_below)

    at_x : at g x ≡ idle
    at_x = at-set_else (set h x (detached (at h x))) d x idle x_not_d ∙ (at-set h x (detached (at h x)) (subst (λ (m : ℕ). x < m) (sym (length-heap_after k r.all)) x_below) ∙ ap detached x_closing)

    at_else : (y : ℕ) → y ≢ x → y ≢ d → at g y ≡ at h y
    at_else y n m = at-set_else (set h x (detached (at h x))) d y idle m ∙ at-set_else h x y (detached (at h x)) n

    ref_else : (y : ℕ) → count_place k y ≢ side_place k x
    ref_else y e = dite (ℕ_discrete y x)
        (λ (q : y ≡ x). let a : count_place k x ≡ side_place k x = ap (count_place k) (sym q) ∙ e in omega arith)
        (λ (n : ¬ (y ≡ x)). apart wide y x 1 2 n (omega arith) (omega arith) (omega arith) (omega arith) e)

    slot_x : SlotOk k now (set s.views id (back r.all)) x idle
    slot_x = let c = total_set (closing_on x) s.views id v (back r.all) at_id in let f = total_set (free_on x) s.views id v (back r.all) at_id in let one_is = weigh x x 1 refl in let none_is = weigh_none x x 0 refl in let me = one-same x in let other = one-other x d x_not_d in
        let was_c : total (closing_on x) s.views ≡ 1 = here_x.closings ∙ ap closing_in x_closing in let was_f : total (free_on x) s.views ≡ 0 = here_x.frees ∙ ap idle_in x_closing in record {
          count = get_or-set_other s.words (side_place k x) (count_place k x) 0 0 (ref_else x) ∙ (here_x.count ∙ ap count_of x_closing);
          side_shown = get_or-set_same s.words (side_place k x) 0 0 (omega (arith, r.wide, within wide k.slots x 2 x_below (omega arith)));
          content = λ i below. absurd (omega arith);
          room = omega arith;
          alive = tt;
          weights = total_same (weight_on x) s.views id v (back r.all) at_id refl ∙ (here_x.weights ∙ ap count_of x_closing);
          closings = omega (arith, c, one_is, none_is, was_c);
          frees = omega (arith, f, me, other, was_f);
        }

    slot_d : SlotOk k now (set s.views id (back r.all)) d idle
    slot_d = let f = total_set (free_on d) s.views id v (back r.all) at_id in let me = one-same d in let other = one-other d x (λ q. x_not_d (sym q)) in let was_f : total (free_on d) s.views ≡ 0 = here_d.frees ∙ ap idle_in d_side.1 in record {
      count = get_or-set_other s.words (side_place k x) (count_place k d) 0 0 (ref_else d) ∙ (here_d.count ∙ ap count_of d_side.1);
      side_shown = get_or-set_other s.words (side_place k x) (side_place k d) 0 0 (λ e. apart wide d x 2 2 (λ q. x_not_d (sym q)) (omega arith) (omega arith) (omega arith) (omega arith) e) ∙ (here_d.side_shown ∙ ap (λ c. side_word (side_in c)) d_side.1);
      content = λ i below. absurd (omega arith);
      room = omega arith;
      alive = tt;
      weights = total_same (weight_on d) s.views id v (back r.all) at_id refl ∙ (here_d.weights ∙ ap count_of d_side.1);
      closings = total_same (closing_on d) s.views id v (back r.all) at_id (weigh_not d x 0 (λ q. x_not_d (sym q)) ∙ sym (weigh_not d x 1 (λ q. x_not_d (sym q)))) ∙ (here_d.closings ∙ ap closing_in d_side.1);
      frees = omega (arith, f, me, other, was_f);
    }

    other_like : (j : ℕ) (y : SeatView) → get_elem? s.views j ≡ some y → ReferenceOk k h y → Like k h g y
    other_like j y at_j ok =
        let some_there : 1 ≤ count_of (at h y.slot) = (let t = total_at (weight_on y.slot) s.views j y at_j in let a = weigh y.slot y.slot y.weight refl in let b = ok.weighs.0 in let c = (r.slots y.slot ok.below).weights in omega (arith, t, a, b, c)) in
        let not_x : y.slot ≢ x = (λ q. let a : count_of (at h y.slot) ≡ 0 = ap (λ z. count_of (at h z)) q ∙ ap count_of x_closing in omega arith) in
        let not_d : y.slot ≢ d = (λ q. let a : count_of (at h y.slot) ≡ 0 = ap (λ z. count_of (at h z)) q ∙ ap count_of d_side.1 in omega arith) in
        untouched k h g y (at_else y.slot not_x not_d) (λ e its. let was = paired.has y.slot e its in
        ap words_of (at_else e (λ q. let a : closing (Some d) ≡ side_of y.slot was.0 = sym x_closing ∙ (ap (at h) (sym q) ∙ was.1) in cc) (λ q. not_x (let a : side_of y.slot was.0 ≡ side_of x d_side.0 = sym was.1 ∙ (ap (at h) q ∙ d_side.1) in cc))))

    pub back_owes : Owes fits k ls s r id x 2 0 v (back r.all) (Detach x (Some d)) (either_is x d)
    back_owes = let seat = r.seats id v at_id in record {
      offset = (omega arith, omega arith);
      hits = either_first x d;
      within_heap = λ y is. ⊎_elim (λ (q : y ≡ x). subst (λ (z : ℕ). z < k.slots) (sym q) x_below) (λ (q : y ≡ d). subst (λ (z : ℕ). z < k.slots) (sym q) d_below) (either_true x d y is);
      applies = (x_below, inl (ap closing_in x_closing), sym side);
      front_is = refl;
      active = tt;
      place = refl;
      pays = refl;
      elsewhere = λ y is. let n = either_false x d y is in (record { weights = refl; closings = weigh_none y x 0 refl ∙ sym (weigh_not y x 1 n.0); frees = let a = one-other y x n.0 in let b = one-other y d n.1 in omega (arith, a, b) }, at_else y n.0 n.1);
      here = λ y is. ⊎_elim
          (λ (q : y ≡ x). subst (λ (z : ℕ). SlotOk k now (set s.views id (back r.all)) z (at g z)) (sym q) (subst (SlotOk k now (set s.views id (back r.all)) x) (sym at_x) slot_x))
          (λ (q : y ≡ d). subst (λ (z : ℕ). SlotOk k now (set s.views id (back r.all)) z (at g z)) (sym q) (subst (SlotOk k now (set s.views id (back r.all)) d) (sym at_d) slot_d))
          (either_true x d y is);
      mine = record {
        front_is = ([], append-nil _);
        told_is = prefix_more u.told r.all _ (prefix_trans u.told u.front r.all seat.told_is seat.front_is);
        places_below = below-adds u.front r.all _ u.places seat.front_is seat.places_below;
        literals_are = seat.literals_are;
        draft_is = tt;
        role_is = (seat.role_is.0, seat.role_is.1, seat.role_is.2, refl);
      };
      others = λ j y ne at_j. let other = r.seats j y at_j in (
        role_kept k h g y y.role (λ _ ok. other_like j y at_j ok) other.role_is,
        draft_kept k s.words (side_place k x) 0 y y.draft (λ z i e below. data_not_side k z i x below) other.draft_is,
      );
    }

    pub comes_back : Holds fits k ls (turned s (side_place k x) 0 id (back r.all))
    comes_back = turn fits k ls s r id x 2 0 v (back r.all) (Detach x (Some d)) (either_is x d) at_id back_owes
