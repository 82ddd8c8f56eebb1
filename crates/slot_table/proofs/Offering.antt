-- A draft is offered as its slot's side: it becomes that, or the reference learns the side that is there.
use Rattle.std.proofs.Common.{◌≡◌, ℕ, zero, suc, ◌-◌, ◌<◌, ◌≤◌, eqb, true, true≢false, List, [], ◌∷◌, ◌++◌, length, get_or, Some, None, refl, sym, ap, ◌∙◌, subst, arith, append-nil}
use Rattle.std.specs.Prelude.{IfSome}
use prog.Atomic.{either}
use mathlib.Core.Option.{some, none}
use lib.ListN.{get_elem?}
use Rattle.atomic_table.specs.Table.{State, Step, step, keeps, Allows}
use Rattle.atomic_table.proofs.Lists.{exchanged}
use Rattle.slot_model.specs.declared.event.Event.{Event}
use Rattle.slot_model.specs.declared.event.Event.TheVariants.{Install}
use Rattle.slot_model.specs.declared.layout.Layout.{Layout}
use Rattle.slot_model.specs.History.{Heap, idle, at, count_of, side_in, heap_after, Applies, Legal}
use Rattle.slot_model.proofs.Runs.{heap_after-snoc}
use Rattle.slot_table.specs.declared.view.SeatView.{SeatView}
use Rattle.slot_table.specs.declared.view.Role.TheVariants.{Reference}
use Rattle.slot_table.specs.Addresses.{side_place, side_word, found_in}
use Rattle.slot_table.specs.Seats.{weight_on, free_on}
use Rattle.slot_table.specs.Owners.{side_words_in}
use Rattle.slot_table.specs.Holdings.{SlotOk, SeatOk, ReferenceOk, SideOk, DraftOk, Holds}
use Rattle.slot_table.specs.Views.{Sat, recorded}
use Rattle.slot_table.specs.SideSteps.{IsSideKnown, Agrees, installing, placed, Installs}
use Rattle.slot_table.proofs.Sums.{total_at}
use Rattle.slot_table.proofs.Turns.{turned, prefix_more, prefix_trans, still_legal}
use Rattle.slot_table.proofs.Kept.{one-same, weigh, idle-is}
use Rattle.slot_table.proofs.Below.{below-adds}
use Rattle.slot_table.proofs.GivingBackBoth.{found-side_word}
use Rattle.slot_table.proofs.Unchanging.{Glance, glances}
use Rattle.slot_table.proofs.Seeing.{some_side, found_known, found_below}
use Rattle.slot_table.proofs.Installing.{won_applies, wins}

module _ (fits : List ℕ → List ℕ → Type 0) (k : Layout) (ls : List (List ℕ)) (u : SeatView) (d : ℕ) where
  abbrev v : SeatView
  v = record u { role = Reference; weight = 1; draft = Some d }

  abbrev x : ℕ
  x = u.slot

  abbrev ws : List ℕ
  ws = u.written

  abbrev after : ℕ → List Event → SeatView
  after n all = placed n (recorded v all (installing n v))

  module _ (s : State ℕ SeatView) (r : Holds fits k ls s) (id : ℕ) (at_id : get_elem? s.views id ≡ some v) (fit : fits u.known ws) where
    abbrev h : Heap
    h = heap_after k r.all

    abbrev n : ℕ
    n = get_or s.words (side_place k x) 0

    seat : SeatOk k ls s.words r.all v
    seat = r.seats id v at_id

    mine_ok : ReferenceOk k h v
    mine_ok = seat.role_is

    d_ok : DraftOk k s.words v (Some d)
    d_ok = seat.draft_is

    here : SlotOk k s.words s.views x (at h x)
    here = r.slots x mine_ok.below

    some_count : 1 ≤ count_of (at h x)
    some_count = let t = total_at (weight_on x) s.views id v at_id in let w = weigh x x 1 refl in let a = here.weights in omega (arith, t, w, a)

    d_idle : at h d ≡ idle
    d_idle = let t = total_at (free_on d) s.views id v at_id in let e = one-same d in let a = (r.slots d d_ok.0).frees in idle-is (at h d) (omega (arith, t, e, a))

    found_is : found_in n ≡ side_in (at h x)
    found_is = ap found_in here.side_shown ∙ found-side_word (side_in (at h x))

    bare_none : u.bare ≡ true → n ≡ 0
    bare_none b = here.side_shown ∙ ap side_word (mine_ok.bare_is b).1

    few : n ≤ u.layout.slots
    few = subst (λ (l : Layout). n ≤ l.slots) (sym mine_ok.layout_is) (found_below fits k ls s r x n here.side_shown)

    -- there was a side
    module _ (e : ℕ) (is : n ≡ suc e) where
      side_is : side_in (at h x) ≡ Some e
      side_is = sym found_is ∙ ap found_in is

      applies : Applies fits k h (Install x d ws (Some e))
      applies = (mine_ok.below, d_ok.0, some_count, d_idle, subst (λ l. fits l ws) mine_ok.knows fit, sym side_is)

      -- the heap after the event, by the layout that the view has
      same_heap : heap_after u.layout (r.all ++ Install x d ws (Some e) ∷ []) ≡ h
      same_heap = ap (λ (l : Layout). heap_after l (r.all ++ Install x d ws (Some e) ∷ [])) mine_ok.layout_is ∙ heap_after-snoc k r.all (Install x d ws (Some e))

      words_are : (after (suc e) r.all).side_words ≡ side_words_in h (Some e)
      words_are = ap (λ (g : Heap). side_words_in g (Some e)) same_heap

      agrees : Agrees v n (after (suc e) r.all)
      agrees f known_is = let known = subst (SideOk k h v) known_is mine_ok.side_is in (found_is ∙ known.1, words_are ∙ (ap (side_words_in h) (sym side_is ∙ known.1) ∙ sym known.2))

      lost_owes : Glance fits k ls s r id x 2 v (after (suc e) r.all) (Install x d ws (Some e))
      lost_owes = record {
        offset = (omega arith, omega arith);
        below = mine_ok.below;
        applies = applies;
        stays = refl;
        front_is = refl;
        active = tt;
        place = refl;
        pays = refl;
        sums = λ y. record { weights = refl; closings = refl; frees = refl };
        mine = record {
          front_is = ([], append-nil _);
          told_is = prefix_more u.told r.all _ (prefix_trans u.told u.front r.all seat.told_is seat.front_is);
          places_below = below-adds u.front r.all _ u.places seat.front_is seat.places_below;
          literals_are = seat.literals_are;
          draft_is = d_ok;
          role_is = subst (λ (g : Heap). ReferenceOk k g (after (suc e) r.all)) (sym (heap_after-snoc k r.all (Install x d ws (Some e)))) record {
            layout_is = mine_ok.layout_is;
            below = mine_ok.below;
            weighs = mine_ok.weighs;
            pays = mine_ok.pays;
            knows = mine_ok.knows;
            sole_is = mine_ok.sole_is;
            bare_is = λ b. absurd (true≢false (sym b));
            side_is = ((some_side fits k ls s r x e side_is).0, side_is, words_are);
          };
        };
      }

      lost : (st : Step ℕ) (cs : List (ℕ × ℕ)) → Holds fits k ls (turned s (side_place k x) n id (after n r.all)) × Installs fits st (v, cs) n (after n r.all, cs)
      lost st cs = (
        subst (λ (m : ℕ). Holds fits k ls (turned s (side_place k x) n id (after m r.all))) (sym is) (glances fits k ls s r id x 2 v (after (suc e) r.all) (Install x d ws (Some e)) at_id lost_owes),
        (
          seat.told_is,
          bare_none,
          few,
          subst (λ (m : ℕ). IfSome (after m r.all).side (IsSideKnown fits (after m r.all))) (sym is) (found_known fits k ls s r (after (suc e) r.all) x (Some e) mine_ok.layout_is mine_ok.knows words_are some_count side_is),
          subst (λ (m : ℕ). Agrees v n (after m r.all)) (sym is) agrees,
          (r.all, seat.front_is, subst (λ (m : ℕ). Legal fits v.layout (r.all ++ installing m v ∷ [])) (sym is) (still_legal fits k r.all (Install x d ws (Some e)) v.layout mine_ok.layout_is r.legal applies), refl, refl),
        ),
      )

    taken : (st : Step ℕ) (cs : List (ℕ × ℕ)) → n ≡ 0 → Holds fits k ls (turned s (side_place k x) (suc d) id (after n r.all)) × Installs fits st (v, cs) n (after n r.all, cs)
    taken st cs is = (
      subst (λ (m : ℕ). Holds fits k ls (turned s (side_place k x) (suc d) id (after m r.all))) (sym is) (wins fits k ls u d s r id at_id fit is),
      (
        seat.told_is,
        bare_none,
        few,
        subst (λ (m : ℕ). IfSome (after m r.all).side (IsSideKnown fits (after m r.all))) (sym is)
            record { below = subst (λ (l : Layout). d < l.slots) (sym mine_ok.layout_is) d_ok.0; room = subst (λ (l : Layout). length ws ≤ l.capacity_words) (sym mine_ok.layout_is) d_ok.1; fit = fit },
        (λ f known_is. let known = subst (SideOk k h v) known_is mine_ok.side_is in let none_is : None ≡ Some f = sym (sym found_is ∙ ap found_in is) ∙ known.1 in absurd (cc)),
        (r.all, seat.front_is, subst (λ (m : ℕ). Legal fits v.layout (r.all ++ installing m v ∷ [])) (sym is) (still_legal fits k r.all (Install x d ws None) v.layout mine_ok.layout_is r.legal (won_applies fits k ls u d s r id at_id fit is)), refl, refl),
      ),
    )

    pub installs_core : (st : Step ℕ) (cs : List (ℕ × ℕ)) → Holds fits k ls (turned s (side_place k x) (either (eqb n 0) (suc d) n) id (after n r.all)) × Installs fits st (v, cs) n (after n r.all, cs)
    installs_core st cs = exchanged n 0 (suc d) (λ m. Holds fits k ls (turned s (side_place k x) m id (after n r.all)) × Installs fits st (v, cs) n (after n r.all, cs)) (taken st cs) (λ ne. lost (n - 1) (above n ne) st cs)
      where
        above : (m : ℕ) → (m ≡ 0 → ⊥) → m ≡ suc (m - 1)
        above zero not_zero = absurd (not_zero refl)
        above (suc m) not_zero = omega arith

pub installs_allowed : (fits : List ℕ → List ℕ → Type 0) (k : Layout) (ls : List (List ℕ)) (slots id i d new : ℕ) (me : Sat) → new ≡ suc d → me.0.role ≡ Reference → me.0.weight ≡ 1 → me.0.draft ≡ Some d → fits me.0.known me.0.written → i ≡ side_place k me.0.slot
    → Allows (Holds fits k ls) slots id me i (λ n. either (eqb n 0) new n) (Installs fits (step slots i 0 new none) me)
installs_allowed fits k ls slots id i d new me new_is role light draft fit at_i = subst (λ (z : Sat × ℕ × ℕ). Allows (Holds fits k ls) slots id z.0 z.1 (λ n. either (eqb n 0) z.2 n) (Installs fits (step slots i 0 z.2 none) z.0))
    (λ t. ((record me.0 { role = sym role t; weight = sym light t; draft = sym draft t }, me.1), sym at_i t, sym new_is t))
    (λ s r flat at_id small. let done = installs_core fits k ls me.0 d s r id at_id fit (step slots i 0 (suc d) none) me.1 in (after fits k ls me.0 d (get_or s.words (side_place k me.0.slot) 0) r.all, keeps, tt, done.0, done.1))

-- what the step leaves of a view
pub placed-keeps : (n : ℕ) (v : SeatView) → ((placed n v).role ≡ v.role) × ((placed n v).weight ≡ v.weight) × ((placed n v).credits ≡ v.credits) × ((placed n v).layout ≡ v.layout) × ((placed n v).literals ≡ v.literals)
placed-keeps zero v = (refl, refl, refl, refl, refl)
placed-keeps (suc d) v = (refl, refl, refl, refl, refl)

-- the word found, by the side that it shows
pub found_none : (n : ℕ) → found_in n ≡ None → n ≡ 0
found_none zero e = refl
found_none (suc d) e = absurd (let a : Some d ≡ None = e in cc)

pub found_some : (n f : ℕ) → found_in n ≡ Some f → n ≡ suc f
found_some zero f e = absurd (let a : None ≡ Some f = e in cc)
found_some (suc d) f e = let a : Some d ≡ Some f = e in let q : d ≡ f = cc in ap (λ n. suc n) q
