-- A draft becomes its slot's side, where there was none.
use Rattle.std.proofs.Common.{◌≡◌, ◌≢◌, ⊎_elim, ℕ, suc, ◌+◌, ◌<◌, ◌≤◌, true≢false, List, [], get_or, set, Option, Some, None, refl, sym, ap, ◌∙◌, subst, arith, get_or-set_same, get_or-set_other, append-nil, length-set}
use mathlib.Core.Option.{some}
use mathlib.Core.Logic.{dite}
use native.Mathlib.Decide.{ℕ_discrete}
use lib.ListN.{get_elem?}
use Rattle.atomic_table.specs.Table.{State}
use Rattle.slot_model.specs.declared.event.Event.{Event}
use Rattle.slot_model.specs.declared.event.Event.TheVariants.{Install}
use Rattle.slot_model.specs.declared.layout.Layout.{Layout}
use Rattle.slot_model.specs.History.{Slot, Heap, idle, held, closing, side_of, at, sided, count_of, words_of, side_in, idle_in, closing_in, heap_after, Paired, Applies}
use Rattle.slot_model.proofs.Runs.{length-heap_after, heap_after-snoc, at-set, at-set_else}
use Rattle.slot_model.proofs.Sides.{paired_after}
use Rattle.slot_table.specs.declared.view.SeatView.{SeatView}
use Rattle.slot_table.specs.declared.view.Role.TheVariants.{Reference}
use Rattle.slot_table.specs.Addresses.{count_place, side_place, data_place, side_word}
use Rattle.slot_table.specs.Numbers.{total}
use Rattle.slot_table.specs.Seats.{weight_on, closing_on, free_on}
use Rattle.slot_table.specs.Holdings.{SlotOk, SeatOk, ReferenceOk, DraftOk, Holds}
use Rattle.slot_table.specs.Views.{recorded}
use Rattle.slot_table.specs.SideSteps.{installing, placed}
use Rattle.slot_table.proofs.Sums.{total_set, total_at, total_two}
use Rattle.slot_table.proofs.Rows.{apart, within, data_not_side}
use Rattle.slot_table.proofs.Turns.{turn, turned, Owes, prefix_more, prefix_trans, total_same}
use Rattle.slot_table.proofs.Kept.{one-same, one-other, weigh, idle-is, Like, role_kept, untouched, draft_kept}
use Rattle.slot_table.proofs.Below.{below-adds}
use Rattle.slot_table.proofs.GivingBackBoth.{either_is, either_true, either_false, either_first}

bare-held : (c : Slot) → 1 ≤ count_of c → side_in c ≡ None → c ≡ held (count_of c) (words_of c) None
bare-held idle h s = absurd (omega arith)
bare-held (held n ws d) h s = ap (held n ws) s
bare-held (closing d) h s = absurd (omega arith)
bare-held (side_of x ws) h s = absurd (omega arith)

no_side_word : (o : Option ℕ) → side_word o ≡ 0 → o ≡ None
no_side_word None e = refl
no_side_word (Some z) e = absurd (omega arith)

module _ (fits : List ℕ → List ℕ → Type 0) (k : Layout) (ls : List (List ℕ)) (u : SeatView) (d : ℕ) where
  abbrev v : SeatView
  v = record u { role = Reference; weight = 1; draft = Some d }

  abbrev x : ℕ
  x = u.slot

  abbrev ws : List ℕ
  ws = u.written

  abbrev wide : ℕ
  wide = k.capacity_words + 2

  abbrev pub won : List Event → SeatView
  won all = placed 0 (recorded v all (installing 0 v))

  module _ (s : State ℕ SeatView) (r : Holds fits k ls s) (id : ℕ) (at_id : get_elem? s.views id ≡ some v) (fit : fits u.known ws) (free : get_or s.words (side_place k x) 0 ≡ 0) where
    abbrev h : Heap
    h = heap_after k r.all

    abbrev now : List ℕ
    now = set s.words (side_place k x) (suc d)

    abbrev g : Heap
    g = set (set h x (sided (Some d) (at h x))) d (side_of x ws)

    seat : SeatOk k ls s.words r.all v
    seat = r.seats id v at_id

    mine_ok : ReferenceOk k h v
    mine_ok = seat.role_is

    d_ok : DraftOk k s.words v (Some d)
    d_ok = seat.draft_is

    here_x : SlotOk k s.words s.views x (at h x)
    here_x = r.slots x mine_ok.below

    here_d : SlotOk k s.words s.views d (at h d)
    here_d = r.slots d d_ok.0

    weighs_one : weight_on x v ≡ 1
    weighs_one = weigh x x 1 refl

    some_count : 1 ≤ count_of (at h x)
    some_count = let t = total_at (weight_on x) s.views id v at_id in let w = weighs_one in let a = here_x.weights in omega (arith, t, w, a)

    free_d : 1 ≤ free_on d v
    free_d = let e = one-same d in omega (arith, e)

    d_idle : at h d ≡ idle
    d_idle = let t = total_at (free_on d) s.views id v at_id in let f = free_d in let a = here_d.frees in idle-is (at h d) (omega (arith, t, f, a))

    side_none : side_in (at h x) ≡ None
    side_none = no_side_word (side_in (at h x)) (sym here_x.side_shown ∙ free)

    x_held : at h x ≡ held (count_of (at h x)) (words_of (at h x)) None
    x_held = bare-held (at h x) some_count side_none

    x_not_d : x ≢ d
    x_not_d q = let a : count_of (at h x) ≡ 0 = ap (λ z. count_of (at h z)) q ∙ ap count_of d_idle in let b = some_count in omega (arith, a, b)

    at_d : at g d ≡ side_of x ws
    at_d = at-set (set h x (sided (Some d) (at h x))) d (side_of x ws) (subst (λ (m : ℕ). d < m) (sym (length-set h x (sided (Some d) (at h x)) ∙ length-heap_after k r.all)) d_ok.0)

    at_x : at g x ≡ held (count_of (at h x)) (words_of (at h x)) (Some d)
    at_x = at-set_else (set h x (sided (Some d) (at h x))) d x (side_of x ws) x_not_d ∙ (at-set h x (sided (Some d) (at h x)) (subst (λ (m : ℕ). x < m) (sym (length-heap_after k r.all)) mine_ok.below) ∙ ap (sided (Some d)) x_held)

    at_else : (y : ℕ) → y ≢ x → y ≢ d → at g y ≡ at h y
    at_else y n m = at-set_else (set h x (sided (Some d) (at h x))) d y (side_of x ws) m ∙ at-set_else h x y (sided (Some d) (at h x)) n

    side_else : (y : ℕ) → y ≢ x → side_place k y ≢ side_place k x
    side_else y n e = apart wide y x 2 2 n (omega arith) (omega arith) (omega arith) (omega arith) e

    ref_else : (y : ℕ) → count_place k y ≢ side_place k x
    ref_else y e = dite (ℕ_discrete y x)
        (λ (q : y ≡ x). let a : count_place k x ≡ side_place k x = ap (count_place k) (sym q) ∙ e in omega arith)
        (λ (n : ¬ (y ≡ x)). apart wide y x 1 2 n (omega arith) (omega arith) (omega arith) (omega arith) e)

    slot_x : SlotOk k now (set s.views id (won r.all)) x (held (count_of (at h x)) (words_of (at h x)) (Some d))
    slot_x = record {
      count = get_or-set_other s.words (side_place k x) (count_place k x) (suc d) 0 (ref_else x) ∙ here_x.count;
      side_shown = get_or-set_same s.words (side_place k x) (suc d) 0 (omega (arith, r.wide, within wide k.slots x 2 mine_ok.below (omega arith)));
      content = λ i below. get_or-set_other s.words (side_place k x) (data_place k x i) (suc d) 0 (data_not_side k x i x (let room = here_x.room in omega arith)) ∙ here_x.content i below;
      room = here_x.room;
      alive = some_count;
      weights = total_same (weight_on x) s.views id v (won r.all) at_id refl ∙ here_x.weights;
      closings = total_same (closing_on x) s.views id v (won r.all) at_id refl ∙ (here_x.closings ∙ ap closing_in x_held);
      frees = total_same (free_on x) s.views id v (won r.all) at_id (let z = one-other x d x_not_d in omega (arith, z)) ∙ (here_x.frees ∙ ap idle_in x_held);
    }

    slot_d : SlotOk k now (set s.views id (won r.all)) d (side_of x ws)
    slot_d = let was_f : total (free_on d) s.views ≡ 1 = here_d.frees ∙ ap idle_in d_idle in let set_f = total_set (free_on d) s.views id v (won r.all) at_id in let e = one-same d in let t = total_at (free_on d) s.views id v at_id in record {
      count = get_or-set_other s.words (side_place k x) (count_place k d) (suc d) 0 (ref_else d) ∙ (here_d.count ∙ ap count_of d_idle);
      side_shown = get_or-set_other s.words (side_place k x) (side_place k d) (suc d) 0 (side_else d (λ q. x_not_d (sym q))) ∙ (here_d.side_shown ∙ ap (λ c. side_word (side_in c)) d_idle);
      content = λ i below. get_or-set_other s.words (side_place k x) (data_place k d i) (suc d) 0 (data_not_side k d i x (let room = d_ok.1 in omega arith)) ∙ d_ok.2 i below;
      room = d_ok.1;
      alive = tt;
      weights = total_same (weight_on d) s.views id v (won r.all) at_id refl ∙ (here_d.weights ∙ ap count_of d_idle);
      closings = total_same (closing_on d) s.views id v (won r.all) at_id refl ∙ (here_d.closings ∙ ap closing_in d_idle);
      frees = omega (arith, was_f, set_f, e, t);
    }

    paired : Paired h
    paired = paired_after fits k r.all r.legal

    -- another reference
    other_like : (j : ℕ) (y : SeatView) → j ≢ id → get_elem? s.views j ≡ some y → ReferenceOk k h y → Like k h g y
    other_like j y ne at_j ok = dite (ℕ_discrete y.slot x)
        (λ (q : y.slot ≡ x).
        let two = total_two (weight_on x) s.views id j v y (λ e. ne (sym e)) at_id at_j in let a = weighs_one in let b = weigh x y.slot y.weight (sym q) in let c = ok.weighs.0 in
        let more : 2 ≤ count_of (at h x) = (let t = here_x.weights in omega (arith, two, a, b, c, t)) in
        let c_is : at g y.slot ≡ held (count_of (at h x)) (words_of (at h x)) (Some d) = ap (at g) q ∙ at_x in record {
          same_words = ap words_of c_is ∙ ap (λ z. words_of (at h z)) (sym q);
          still_sole = λ _ one_is. absurd (let o : count_of (at h x) ≡ 1 = ap (λ z. count_of (at h z)) (sym q) ∙ one_is in omega arith);
          still_bare = λ bare_is _. absurd (let sole = (ok.bare_is bare_is).0 in let o : count_of (at h x) ≡ 1 = ap (λ z. count_of (at h z)) (sym q) ∙ (ok.sole_is sole).1 in omega arith);
          same_side = λ e is side_ok. absurd (let o : None ≡ Some e = sym side_none ∙ (ap (λ z. side_in (at h z)) (sym q) ∙ side_ok.1) in cc);
        })
        (λ (n : ¬ (y.slot ≡ x)).
        let some_there : 1 ≤ count_of (at h y.slot) = (let t = total_at (weight_on y.slot) s.views j y at_j in let a = weigh y.slot y.slot y.weight refl in let b = ok.weighs.0 in let c = (r.slots y.slot ok.below).weights in omega (arith, t, a, b, c)) in
        let not_d : y.slot ≢ d = (λ q. let a : count_of (at h y.slot) ≡ 0 = ap (λ z. count_of (at h z)) q ∙ ap count_of d_idle in omega arith) in
        untouched k h g y (at_else y.slot n not_d) (λ e side. let was = paired.has y.slot e side in
        ap words_of (at_else e (λ q. let a : count_of (at h x) ≡ 0 = ap (λ z. count_of (at h z)) (sym q) ∙ ap count_of was.1 in let b = some_count in omega (arith, a, b)) (λ q. let a : idle ≡ side_of y.slot was.0 = sym d_idle ∙ (ap (at h) (sym q) ∙ was.1) in cc))))

    pub won_applies : Applies fits k h (Install x d ws None)
    won_applies = (mine_ok.below, d_ok.0, some_count, d_idle, subst (λ l. fits l ws) mine_ok.knows fit, sym side_none)

    won_owes : Owes fits k ls s r id x 2 (suc d) v (won r.all) (Install x d ws None) (either_is x d)
    won_owes = record {
      offset = (omega arith, omega arith);
      hits = either_first x d;
      within_heap = λ y is. ⊎_elim (λ (q : y ≡ x). subst (λ (z : ℕ). z < k.slots) (sym q) mine_ok.below) (λ (q : y ≡ d). subst (λ (z : ℕ). z < k.slots) (sym q) d_ok.0) (either_true x d y is);
      applies = won_applies;
      front_is = refl;
      active = tt;
      place = refl;
      pays = refl;
      elsewhere = λ y is. let n = either_false x d y is in (record { weights = refl; closings = refl; frees = let z = one-other y d n.1 in omega (arith, z) }, at_else y n.0 n.1);
      here = λ y is. ⊎_elim
          (λ (q : y ≡ x). subst (λ (z : ℕ). SlotOk k now (set s.views id (won r.all)) z (at g z)) (sym q) (subst (SlotOk k now (set s.views id (won r.all)) x) (sym at_x) slot_x))
          (λ (q : y ≡ d). subst (λ (z : ℕ). SlotOk k now (set s.views id (won r.all)) z (at g z)) (sym q) (subst (SlotOk k now (set s.views id (won r.all)) d) (sym at_d) slot_d))
          (either_true x d y is);
      mine = record {
        front_is = ([], append-nil _);
        told_is = prefix_more u.told r.all _ (prefix_trans u.told u.front r.all seat.told_is seat.front_is);
        places_below = below-adds u.front r.all _ u.places seat.front_is seat.places_below;
        literals_are = seat.literals_are;
        draft_is = tt;
        role_is = subst (λ (z : Heap). ReferenceOk k z (won r.all)) (sym (heap_after-snoc k r.all (Install x d ws None))) record {
          layout_is = mine_ok.layout_is;
          below = mine_ok.below;
          weighs = mine_ok.weighs;
          pays = (let p = mine_ok.pays in omega arith);
          knows = mine_ok.knows ∙ sym (ap words_of at_x);
          sole_is = λ b. ((mine_ok.sole_is b).0, ap count_of at_x ∙ (mine_ok.sole_is b).1);
          bare_is = λ b. absurd (true≢false (sym b));
          side_is = (d_ok.0, ap side_in at_x, sym (ap words_of at_d));
        };
      };
      others = λ j y ne at_j. let other = r.seats j y at_j in (
        role_kept k h g y y.role (λ _ ok. other_like j y ne at_j ok) other.role_is,
        draft_kept k s.words (side_place k x) (suc d) y y.draft (λ z i e below. data_not_side k z i x below) other.draft_is,
      );
    }

    pub wins : Holds fits k ls (turned s (side_place k x) (suc d) id (won r.all))
    wins = turn fits k ls s r id x 2 (suc d) v (won r.all) (Install x d ws None) (either_is x d) at_id won_owes
