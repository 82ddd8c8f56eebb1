-- A reference loads the word that shows its slot's side, and learns it.
use Rattle.std.proofs.Common.{◌≡◌, ℕ, suc, ◌<◌, ◌≤◌, true, List, [], ◌∷◌, ◌++◌, length, get_or, Option, Some, None, refl, sym, ap, ◌∙◌, subst, arith, append-nil}
use Rattle.std.specs.Prelude.{IfSome}
use mathlib.Core.Option.{some, none}
use lib.ListN.{get_elem?}
use Rattle.atomic_table.specs.Table.{State, Step, step, keeps, Allows}
use Rattle.slot_model.specs.declared.event.Event.TheVariants.{Look}
use Rattle.slot_model.specs.declared.layout.Layout.{Layout}
use Rattle.slot_model.specs.History.{Heap, at, count_of, words_of, side_in, heap_after, Applies}
use Rattle.slot_model.proofs.Runs.{length-heap_after, heap_after-snoc}
use Rattle.slot_model.proofs.Sides.{paired_after, side_below}
use Rattle.slot_table.specs.declared.view.SeatView.{SeatView}
use Rattle.slot_table.specs.declared.view.Role.TheVariants.{Reference}
use Rattle.slot_table.specs.Addresses.{side_place, data_place, side_word, found_in}
use Rattle.slot_table.specs.Seats.{weight_on}
use Rattle.slot_table.specs.Owners.{side_words_in}
use Rattle.slot_table.specs.Holdings.{SlotOk, SeatOk, RoleOk, ReferenceOk, SideOk, Holds}
use Rattle.slot_table.specs.Views.{Sat, recorded}
use Rattle.slot_table.specs.SideSteps.{IsSideKnown, Agrees, looking, looked, Looks, SideReads}
use Rattle.slot_table.proofs.Sums.{total_at}
use Rattle.slot_table.proofs.Turns.{turned, prefix_more, prefix_trans, still_legal}
use Rattle.slot_table.proofs.Kept.{weigh}
use Rattle.slot_table.proofs.Looking.{unmoved}
use Rattle.slot_table.proofs.Below.{below-adds}
use Rattle.slot_table.proofs.GivingBackBoth.{found-side_word}
use Rattle.slot_table.proofs.Fitting.{fitted_after}
use Rattle.slot_table.proofs.Unchanging.{Glance, glances}

-- What a reference may learn of its slot's side, in a heap g that is h still: it is known with its words, and they fit
module _ (fits : List ℕ → List ℕ → Type 0) (k : Layout) (ls : List (List ℕ)) (s : State ℕ SeatView) (r : Holds fits k ls s) where
  pub some_side : (x d : ℕ) → side_in (at (heap_after k r.all) x) ≡ Some d → (d < k.slots) × (length (words_of (at (heap_after k r.all) d)) ≤ k.capacity_words)
  some_side x d side = let below = side_below fits k (heap_after k r.all) x d (length-heap_after k r.all) side (paired_after fits k r.all r.legal) in (below, (r.slots d below).room)

  pub found_known : (w : SeatView) (x : ℕ) (o : Option ℕ) → w.layout ≡ k → w.known ≡ words_of (at (heap_after k r.all) x) → w.side_words ≡ side_words_in (heap_after k r.all) o → 0 < count_of (at (heap_after k r.all) x) → side_in (at (heap_after k r.all) x) ≡ o → IfSome o (IsSideKnown fits w)
  found_known w x None layout knows words many is = tt
  found_known w x (Some d) layout knows words many is = let t = some_side x d is in record {
    below = subst (λ (l : Layout). d < l.slots) (sym layout) t.0;
    room = subst (λ (z : List ℕ × Layout). length z.0 ≤ z.1.capacity_words) (λ i. (sym words i, sym layout i)) t.1;
    fit = subst (λ (z : List ℕ × List ℕ). fits z.0 z.1) (λ i. (sym knows i, sym words i)) (fitted_after fits k r.all r.legal x d many is);
  }

  pub found_below : (x n : ℕ) → n ≡ side_word (side_in (at (heap_after k r.all) x)) → n ≤ k.slots
  found_below x n shown = by_side (side_in (at (heap_after k r.all) x)) refl
    where
      by_side : (o : Option ℕ) → side_in (at (heap_after k r.all) x) ≡ o → n ≤ k.slots
      by_side None is = let z : n ≡ 0 = shown ∙ ap side_word is in omega arith
      by_side (Some d) is = let t = (some_side x d is).0 in let z : n ≡ suc d = shown ∙ ap side_word is in omega (arith, t, z)

module _ (fits : List ℕ → List ℕ → Type 0) (k : Layout) (ls : List (List ℕ)) (u : SeatView) where
  abbrev v : SeatView
  v = record u { role = Reference; weight = 1; draft = None }

  abbrev x : ℕ
  x = u.slot

  module _ (s : State ℕ SeatView) (r : Holds fits k ls s) (id : ℕ) (at_id : get_elem? s.views id ≡ some v) where
    abbrev h : Heap
    h = heap_after k r.all

    abbrev n : ℕ
    n = get_or s.words (side_place k x) 0

    abbrev saw : SeatView
    saw = looked n (recorded v r.all (looking n v))

    seat : SeatOk k ls s.words r.all v
    seat = r.seats id v at_id

    mine_ok : ReferenceOk k h v
    mine_ok = seat.role_is

    here : SlotOk k s.words s.views x (at h x)
    here = r.slots x mine_ok.below

    found_is : found_in n ≡ side_in (at h x)
    found_is = ap found_in here.side_shown ∙ found-side_word (side_in (at h x))

    some_count : 1 ≤ count_of (at h x)
    some_count = let t = total_at (weight_on x) s.views id v at_id in let w = weigh x x 1 refl in let a = here.weights in omega (arith, t, w, a)

    applies : Applies fits k h (Look x (found_in n))
    applies = (mine_ok.below, some_count, found_is)

    -- the heap after the event, by the layout that the view has
    same_heap : heap_after u.layout (r.all ++ Look x (found_in n) ∷ []) ≡ h
    same_heap = ap (λ (l : Layout). heap_after l (r.all ++ Look x (found_in n) ∷ [])) mine_ok.layout_is ∙ heap_after-snoc k r.all (Look x (found_in n))

    words_are : saw.side_words ≡ side_words_in h (found_in n)
    words_are = ap (λ (g : Heap). side_words_in g (found_in n)) same_heap

    my_side : (o : Option ℕ) → o ≡ side_in (at h x) → saw.side_words ≡ side_words_in h o → SideOk k h saw o
    my_side None e words = tt
    my_side (Some d) e words = ((some_side fits k ls s r x d (sym e)).0, sym e, words)

    bare_none : u.bare ≡ true → n ≡ 0
    bare_none b = here.side_shown ∙ ap side_word (mine_ok.bare_is b).1

    agrees : Agrees v n saw
    agrees d is = let known = subst (SideOk k h v) is mine_ok.side_is in let found = found_is ∙ known.1 in (found, words_are ∙ (ap (side_words_in h) found ∙ sym known.2))

    look_owes : Glance fits k ls s r id x 2 v saw (Look x (found_in n))
    look_owes = record {
      offset = (omega arith, omega arith);
      below = mine_ok.below;
      applies = applies;
      stays = refl;
      front_is = refl;
      active = tt;
      place = refl;
      pays = refl;
      sums = λ y. record { weights = refl; closings = refl; frees = refl };
      mine = record {
        front_is = ([], append-nil _);
        told_is = prefix_more u.told r.all _ (prefix_trans u.told u.front r.all seat.told_is seat.front_is);
        places_below = below-adds u.front r.all _ u.places seat.front_is seat.places_below;
        literals_are = seat.literals_are;
        draft_is = tt;
        role_is = subst (λ (g : Heap). ReferenceOk k g saw) (sym (heap_after-snoc k r.all (Look x (found_in n)))) record {
          layout_is = mine_ok.layout_is;
          below = mine_ok.below;
          weighs = mine_ok.weighs;
          pays = mine_ok.pays;
          knows = mine_ok.knows;
          sole_is = mine_ok.sole_is;
          bare_is = mine_ok.bare_is;
          side_is = my_side (found_in n) found_is words_are;
        };
      };
    }

    pub looks_core : (st : Step ℕ) (cs : List (ℕ × ℕ)) → (w : SeatView) × Holds fits k ls (turned s (side_place k x) n id w) × Looks fits st (v, cs) n (w, cs)
    looks_core st cs = (
      saw,
      glances fits k ls s r id x 2 v saw (Look x (found_in n)) at_id look_owes,
      (
        bare_none,
        subst (λ (l : Layout). n ≤ l.slots) (sym mine_ok.layout_is) (found_below fits k ls s r x n here.side_shown),
        found_known fits k ls s r saw x (found_in n) mine_ok.layout_is mine_ok.knows words_are some_count (sym found_is),
        agrees,
        (r.all, seat.front_is, still_legal fits k r.all (Look x (found_in n)) v.layout mine_ok.layout_is r.legal applies, refl, refl),
      ),
    )

pub looks_allowed : (fits : List ℕ → List ℕ → Type 0) (k : Layout) (ls : List (List ℕ)) (slots id i : ℕ) (me : Sat) → me.0.role ≡ Reference → me.0.weight ≡ 1 → me.0.draft ≡ None → i ≡ side_place k me.0.slot
    → Allows (Holds fits k ls) slots id me i (λ n. n) (Looks fits (step slots i 0 0 none) me)
looks_allowed fits k ls slots id i me role light no_draft at_i = subst (λ (z : Sat × ℕ). Allows (Holds fits k ls) slots id z.0 z.1 (λ n. n) (Looks fits (step slots i 0 0 none) z.0))
    (λ t. ((record me.0 { role = sym role t; weight = sym light t; draft = sym no_draft t }, me.1), sym at_i t))
    (λ s r flat at_id small. let done = looks_core fits k ls me.0 s r id at_id (step slots i 0 0 none) me.1 in (done.0, keeps, tt, done.1, done.2))

-- a reference loads a data word of its known side
pub side_reads_allowed : (fits : List ℕ → List ℕ → Type 0) (k : Layout) (ls : List (List ℕ)) (slots id i : ℕ) (me : Sat) → me.0.role ≡ Reference → Allows (Holds fits k ls) slots id me i (λ n. n) (SideReads (step slots i 0 0 none) me)
side_reads_allowed fits k ls slots id i me role s r flat at_id small =
    let ok = subst (RoleOk k (heap_after k r.all) me.0) role (r.seats id me.0 at_id).role_is in (
      me.0,
      keeps,
      tt,
      unmoved fits k ls s r id i me.0 at_id,
      (
        refl,
        λ d j is where_is below. let side = subst (SideOk k (heap_after k r.all) me.0) is ok.side_is in
            ap (λ (z : ℕ). get_or s.words z 0) (where_is ∙ ap (λ (l : Layout). data_place l d j) ok.layout_is) ∙ ((r.slots d side.0).content j (subst (λ (l : List ℕ). j < length l) side.2 below) ∙ ap (λ (l : List ℕ). get_or l j 0) (sym side.2)),
      ),
    )
