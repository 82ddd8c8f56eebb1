-- The table as it begins, and what a seat with all credits knows.
use Rattle.std.proofs.Common.{◌≡◌, ◌≢◌, ℕ, zero, suc, ◌+◌, ◌*◌, ◌<◌, ◌≤◌, List, [], ◌∷◌, length, get_or, replicate, ltb, cond, None, refl, sym, ap, ◌∙◌, subst, arith, lt_of_not-le, lt-ltb, Some, length-append, ◌++◌}
use Rattle.std.proofs.lemmas.List.{length-replicate}
use Rattle.std.proofs.lemmas.Bool.Decides.{nat_tests}
use mathlib.Core.Option.{some, none, some-injective, some-ne-none}
use mathlib.Core.Logic.{dite}
use native.Mathlib.Decide.{ℕ_discrete, dec_le}
use lib.ListN.{get_elem?}
use Rattle.atomic_table.specs.Table.{State, step, keeps, Allows, opening}
use Rattle.slot_model.specs.declared.event.Event.{Event}
use Rattle.slot_model.specs.declared.layout.Layout.{Layout}
use Rattle.slot_model.specs.History.{Slot, Heap, idle, held, closing, side_of, at, count_of, side_in, idle_in, closing_in, heap_after, Legal}
use Rattle.slot_table.specs.declared.view.SeatView.{SeatView}
use Rattle.slot_table.specs.declared.view.Role.{Role}
use Rattle.slot_table.specs.declared.view.Role.TheVariants.{Share, Draft, Reference, Closing, Literal, Spent}
use Rattle.slot_table.specs.Addresses.{table_size, zeros}
use Rattle.slot_table.specs.Opening.{LayoutOk}
use Rattle.slot_table.specs.Numbers.{total, one, times, AllOnce, down_from}
use Rattle.slot_table.specs.Seats.{in_option, weight_on, closing_on, free_on, place_on, credits_in, closes}
use Rattle.slot_table.specs.Holdings.{IsActive, Alive, SlotOk, SeatOk, RoleOk, Holds}
use Rattle.slot_table.specs.PassSteps.{first_view, IsAll, Concludes}
use Rattle.slot_table.specs.Views.{Sat}
use Rattle.slot_table.proofs.Sums.{total_two, total_only}
use Rattle.slot_table.proofs.Kept.{weigh_none}
use Rattle.slot_table.proofs.Looking.{unmoved}
use Rattle.slot_model.proofs.Runs.{length-heap_after}
use Rattle.slot_model.proofs.Sides.{paired_after}
use Rattle.literal_rows.specs.Rows.{rows_of}
use Rattle.slot_table.proofs.Rows.{within}

get_or-zeros : (n j : ℕ) → get_or (zeros n) j 0 ≡ 0
get_or-zeros zero j = refl
get_or-zeros (suc n) zero = refl
get_or-zeros (suc n) (suc j) = get_or-zeros n j

at-idle : (n x : ℕ) → at (replicate n idle) x ≡ idle
at-idle zero x = refl
at-idle (suc n) zero = refl
at-idle (suc n) (suc x) = at-idle n x

times-down : (x n : ℕ) → times x (down_from n) ≡ cond (ltb x n) 1 0
times-down x zero = grind (arith, nat_tests)
times-down x (suc n) = let t = times-down x n in grind (arith, nat_tests, t)

-- a list begins with others, and one stands behind
pub get_or-front : (xs ys : List ℕ) (j : ℕ) → j < length xs → get_or (xs ++ ys) j 0 ≡ get_or xs j 0
get_or-front [] ys j h = absurd (omega arith)
get_or-front (x ∷ xs) ys zero h = refl
get_or-front (x ∷ xs) ys (suc j) h = get_or-front xs ys j (omega arith)

pub get_or-behind : (xs ys : List ℕ) (j m : ℕ) → m ≡ length xs + j → get_or (xs ++ ys) m 0 ≡ get_or ys j 0
get_or-behind [] ys j m e = let e' : m ≡ j = omega arith in ap (λ (i : ℕ). get_or ys i 0) e'
get_or-behind (x ∷ xs) ys j zero e = absurd (omega arith)
get_or-behind (x ∷ xs) ys j (suc m) e = get_or-behind xs ys j m (omega arith)

module _ (fits : List ℕ → List ℕ → Type 0) (k : Layout) (ls : List (List ℕ)) where
  begins_with : (words : List ℕ) → words ≡ zeros (table_size k) ++ rows_of ls → 1 ≤ k.credits → Holds fits k ls (opening words [] (first_view k ls))
  begins_with words laid some_credit =
      let len : length (zeros (table_size k)) ≡ table_size k = length-replicate (table_size k) 0 in
      let zero_at : (j : ℕ) → j < table_size k → get_or words j 0 ≡ 0 = λ j below. ap (λ l. get_or l j 0) laid ∙ (get_or-front (zeros (table_size k)) (rows_of ls) j (omega (arith, len, below)) ∙ get_or-zeros (table_size k) j) in
      let none_on : (x : ℕ) → one x 0 * 0 ≡ 0 = λ x. weigh_none x 0 0 refl in
      let h = replicate k.slots idle in record {
        all = [];
        legal = tt;
        wide = ap length laid ∙ (length-append (zeros (table_size k)) (rows_of ls) ∙ ap (λ (m : ℕ). m + length (rows_of ls)) len);
        zero_is = zero_at 0 (omega arith);
        rows = λ j below. ap (λ l. get_or l (table_size k + j) 0) laid ∙ get_or-behind (zeros (table_size k)) (rows_of ls) j (table_size k + j) (omega (arith, len));
        owner = (0, first_view k ls, refl, tt, refl);
        slots = λ x below. subst (SlotOk k words (first_view k ls ∷ []) x) (sym (at-idle k.slots x)) record {
          count = zero_at _ (within (k.capacity_words + 2) k.slots x 1 below (omega arith));
          side_shown = zero_at _ (within (k.capacity_words + 2) k.slots x 2 below (omega arith));
          content = λ i b. absurd (omega arith);
          room = omega arith;
          alive = tt;
          weights = let z = none_on x in omega (arith, z);
          closings = let z = none_on x in omega (arith, z);
          frees = let t = times-down x k.slots in let is = lt-ltb x k.slots below in let e : times x (down_from k.slots) ≡ 1 = t ∙ ap (λ b. cond b 1 0) is in omega (arith, e);
        };
        frees_below = λ x above. let t = times-down x k.slots in let e : times x (down_from k.slots) ≡ 0 = (grind (arith, nat_tests, t)) in omega (arith, e);
        credits = omega arith;
        places = λ m. grind (arith, nat_tests);
        seats = seat;
      }
    where
      seat : (j : ℕ) (v : SeatView) → get_elem? (first_view k ls ∷ []) j ≡ some v → SeatOk k ls words [] v
      seat zero v e = subst (SeatOk k ls words []) (some-injective (first_view k ls) v e) record {
        front_is = ([], refl);
        told_is = ([], refl);
        places_below = λ n past. omega arith;
        literals_are = refl;
        draft_is = tt;
        role_is = (refl, record { light = refl; shared = refl; not_bare = refl; no_side = refl }, some_credit, refl);
      }
      seat (suc j) v e = absurd (some-ne-none v (sym e))

  pub begins : (words : List ℕ) → words ≡ zeros (table_size k) ++ rows_of ls → LayoutOk k → Holds fits k ls (opening words [] (first_view k ls))
  begins words laid ok = begins_with words laid ok.credits_least

  -- a view with no credit holds nothing
  record Empty (u : SeatView) (ρ : Role) : Type 0 where
    light : u.weight ≡ 0
    still : closes ρ ≡ 0
    no_draft : u.draft ≡ None
    no_slots : u.free ≡ []
    no_places : u.places ≡ []
    asleep : IsActive ρ → ⊥

  empty : (h : Heap) (u : SeatView) (ρ : Role) → RoleOk k h u ρ → u.credits ≡ 0 → Empty u ρ
  empty h u Share ok none_left = absurd (let c = ok.2 in omega arith)
  empty h u Draft ok none_left = absurd (let c = ok.2 in omega arith)
  empty h u Reference ok none_left = absurd (let c = ok.pays in let w = ok.weighs.0 in omega arith)
  empty h u Closing ok none_left = absurd (let c = ok.2 in omega arith)
  empty h u Literal ok none_left = record { light = ok.1.light; still = refl; no_draft = ok.3; no_slots = ok.4; no_places = ok.5; asleep = λ a. a }
  empty h u Spent ok none_left = record { light = ok.0.light; still = refl; no_draft = ok.2; no_slots = ok.3; no_places = ok.4; asleep = λ a. a }

  -- a slot with no reference and no closing seat is idle, where no slot has it as its side
  idle-left : (c : Slot) → count_of c ≡ 0 → closing_in c ≡ 0 → Alive c → ((y : ℕ) (ws : List ℕ) → c ≡ side_of y ws → ⊥) → c ≡ idle
  idle-left idle a b l no_side = refl
  idle-left (held n ws d) a b l no_side = absurd (omega arith)
  idle-left (closing d) a b l no_side = absurd (omega arith)
  idle-left (side_of y ws) a b l no_side = absurd (no_side y ws refl)

  -- a slot with a side is held or closing
  sided-is : (c : Slot) (d : ℕ) → side_in c ≡ Some d → Alive c → 1 ≤ count_of c + closing_in c
  sided-is idle d e l = absurd (let e' : None ≡ Some d = e in cc)
  sided-is (held n ws o) d e l = omega arith
  sided-is (closing o) d e l = omega arith
  sided-is (side_of y ws) d e l = absurd (let e' : None ≡ Some d = e in cc)

  -- the slot that a side belongs to is one of the heap's
  out_of_heap : (h : Heap) (y : ℕ) → length h ≤ y → at h y ≡ idle
  out_of_heap [] y past = refl
  out_of_heap (c ∷ h) zero past = absurd (omega arith)
  out_of_heap (c ∷ h) (suc y) past = out_of_heap h y (omega arith)

  module _ (s : State ℕ SeatView) (r : Holds fits k ls s) (id : ℕ) (v : SeatView) (at_id : get_elem? s.views id ≡ some v) (role : v.role ≡ Share) (every : v.credits ≡ k.credits) where
    abbrev mine : RoleOk k (heap_after k r.all) v Share
    mine = subst (RoleOk k (heap_after k r.all) v) role (r.seats id v at_id).role_is

    other : (j : ℕ) (u : SeatView) → j ≢ id → get_elem? s.views j ≡ some u → Empty u u.role
    other j u ne at_j = let two = total_two credits_in s.views id j v u (λ e. ne (sym e)) at_id at_j in let all_are = r.credits in
        empty (heap_after k r.all) u u.role (r.seats j u at_j).role_is (omega (arith, two, all_are, every))

    knows_all : v.front ≡ r.all
    knows_all = dite (ℕ_discrete r.owner.0 id)
        (λ (same : r.owner.0 ≡ id). let e : r.owner.1 ≡ v = some-injective r.owner.1 v (sym r.owner.2 ∙ (ap (get_elem? s.views) same ∙ at_id)) in ap (λ (y : SeatView). y.front) (sym e) ∙ r.owner.4)
        (λ (ne : ¬ (r.owner.0 ≡ id)). absurd ((other r.owner.0 r.owner.1 ne r.owner.2).asleep r.owner.3))

    no_weight : (x : ℕ) → total (weight_on x) s.views ≡ 0
    no_weight x = total_only (weight_on x) s.views id v at_id (λ j u ne e. weigh_none x u.slot u.weight (other j u ne e).light) ∙ weigh_none x v.slot v.weight mine.1.light

    no_closing : (x : ℕ) → total (closing_on x) s.views ≡ 0
    no_closing x = total_only (closing_on x) s.views id v at_id (λ j u ne e. weigh_none x u.slot (closes u.role) (other j u ne e).still) ∙ weigh_none x v.slot (closes v.role) (ap closes role)

    all_idle : (x : ℕ) → x < k.slots → at (heap_after k r.all) x ≡ idle
    all_idle x below = let ok = r.slots x below in idle-left (at (heap_after k r.all) x) (sym ok.weights ∙ no_weight x) (sym ok.closings ∙ no_closing x) ok.alive
        (λ y ws is. no_owner y x ((paired_after fits k r.all r.legal).belongs y x ws is))
      where
        no_owner : (y d : ℕ) → side_in (at (heap_after k r.all) y) ≡ Some d → ⊥
        no_owner y d its = dite (dec_le k.slots y)
            (λ (past : k.slots ≤ y). let out = out_of_heap (heap_after k r.all) y (omega (arith, length-heap_after k r.all, past)) in let e : None ≡ Some d = sym (ap side_in out) ∙ its in cc)
            (λ (h : ¬ (k.slots ≤ y)). let there = r.slots y (lt_of_not-le h) in let some_there = sided-is (at (heap_after k r.all) y) d its there.alive in
            let w = no_weight y in let c = no_closing y in let a = there.weights in let b = there.closings in absurd (omega (arith, some_there, w, c, a, b)))

    my_frees : (x : ℕ) → total (free_on x) s.views ≡ times x v.free
    my_frees x = total_only (free_on x) s.views id v at_id (λ j u ne e. let o = other j u ne e in (ap (λ l. times x l + in_option x u.draft) o.no_slots ∙ (ap (λ d. 0 + in_option x d) o.no_draft ∙ omega arith))) ∙ (ap (λ d. times x v.free + in_option x d) mine.3 ∙ omega arith)

    all_free : AllOnce k.slots v.free
    all_free x = dite (dec_le k.slots x)
        (λ (above : k.slots ≤ x). let none_there = r.frees_below x above in let m = my_frees x in let z : times x v.free ≡ 0 = omega (arith, none_there, m) in grind (arith, nat_tests, z))
        (λ (h : ¬ (k.slots ≤ x)). let below : x < k.slots = lt_of_not-le h in let m = my_frees x in let f = (r.slots x below).frees ∙ ap idle_in (all_idle x below) in let z : times x v.free ≡ 1 = sym m ∙ f in z ∙ ap (λ b. cond b 1 0) (sym (lt-ltb x k.slots below)))

    all_placed : AllOnce (length r.all) v.places
    all_placed m = sym (total_only (place_on m) s.views id v at_id (λ j u ne e. ap (times m) (other j u ne e).no_places)) ∙ r.places m

    pub everything : v.layout ≡ k → IsAll fits v
    everything layout_is = let a : Layout × List Event = (k, r.all) in let b : Layout × List Event = (v.layout, v.front) in let e : a ≡ b = λ t. (sym layout_is t, sym knows_all t) in record {
      legal = subst (λ (z : Layout × List Event). Rattle.slot_model.specs.History.Legal fits z.0 z.1) e r.legal;
      idle_all = subst (λ (z : Layout × List Event). (x : ℕ) → x < z.0.slots → at (heap_after z.0 z.1) x ≡ idle) e all_idle;
      free_all = subst (λ (l : Layout). AllOnce l.slots v.free) (sym layout_is) all_free;
      placed_all = subst (λ (l : List Event). AllOnce (length l) v.places) (sym knows_all) all_placed;
    }

  pub concludes_allowed : (slots id i : ℕ) (me : Sat) → me.0.role ≡ Share → me.0.layout ≡ k → Allows (Holds fits k ls) slots id me i (λ n. n) (Concludes fits (step slots i 0 0 none) me)
  concludes_allowed slots id i me role layout_is s r flat at_id small = (me.0, keeps, tt, unmoved fits k ls s r id i me.0 at_id, (refl, λ every. everything s r id me.0 at_id role (every ∙ ap (λ (l : Layout). l.credits) layout_is) layout_is))

pub first_all : (fits : List ℕ → List ℕ → Type 0) (k : Layout) (ls : List (List ℕ)) → IsAll fits (first_view k ls)
first_all fits k ls = record {
  legal = tt;
  idle_all = λ x below. at-idle k.slots x;
  free_all = λ x. times-down x k.slots;
  placed_all = λ m. grind (arith, nat_tests);
}
