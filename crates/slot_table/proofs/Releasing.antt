-- A reference is given up.
use Rattle.std.proofs.Common.{◌≡◌, ◌≢◌, ℕ, ◌+◌, ◌-◌, ◌%◌, ◌^◌, ◌<◌, ◌≤◌, List, [], ◌∷◌, ◌++◌, length, get_or, set, cond, Bool, true, false, None, refl, sym, ap, ◌∙◌, subst, arith, get_or-set_same, get_or-set_other, append-nil, eq-eqb, ne_eqb, Option, Some}
use mathlib.Core.Option.{some, none}
use mathlib.Core.List.{IsPrefix}
use mathlib.Core.Logic.{dite}
use native.Mathlib.Decide.{ℕ_discrete}
use lib.ListN.{get_elem?}
use Rattle.atomic_table.specs.Table.{State, Step, step, keeps, Allows}
use Rattle.slot_model.specs.declared.event.Event.{Event}
use Rattle.slot_model.specs.declared.event.Event.TheVariants.{Release}
use Rattle.slot_model.specs.declared.layout.Layout.{Layout}
use Rattle.slot_model.specs.History.{Slot, Heap, idle, held, closing, side_of, at, released, count_of, words_of, side_in, idle_in, closing_in, heap_after, Legal}
use Rattle.slot_model.proofs.Runs.{length-heap_after, at-set, at-set_else}
use Rattle.slot_table.specs.declared.view.SeatView.{SeatView}
use Rattle.slot_table.specs.declared.view.Role.{Role}
use Rattle.slot_table.specs.declared.view.Role.TheVariants.{Share, Reference, Closing}
use Rattle.slot_table.specs.Addresses.{count_place, side_place, data_place, side_word}
use Rattle.slot_table.specs.Numbers.{total}
use Rattle.slot_table.specs.Seats.{weight_on, closing_on, free_on}
use Rattle.slot_table.specs.Holdings.{SlotOk, RoleOk, DraftOk, Holds, ReferenceOk}
use Rattle.slot_table.specs.Views.{Sat}
use Rattle.slot_table.specs.ReferenceSteps.{Releases}
use Rattle.slot_table.proofs.Sums.{total_set, total_at, total_two}
use Rattle.slot_table.proofs.Rows.{within, data_not_count}
use Rattle.slot_table.proofs.Turns.{turned, Same, prefix_more, prefix_trans, total_same, OwesOne, still_legal, turn_one}
use Rattle.slot_table.proofs.Kept.{weigh, weigh_not, weigh_none, role_kept, draft_kept, side_is-side, untouched}
use Rattle.slot_table.proofs.Below.{below-adds}

pub down_one : (n : ℕ) → 1 ≤ n → n < 18446744073709551616 → (n + (2 ^ 64 - 1)) % 2 ^ 64 ≡ n - 1
down_one n low high = omega arith

-- a slot with a reference is held
pub held-is : (c : Slot) → 1 ≤ count_of c → c ≡ held (count_of c) (words_of c) (side_in c)
held-is idle h = absurd (omega arith)
held-is (held n ws d) h = refl
held-is (closing d) h = absurd (omega arith)
held-is (side_of x ws) h = absurd (omega arith)

module _ (fits : List ℕ → List ℕ → Type 0) (k : Layout) (ls : List (List ℕ)) (u : SeatView) where
  abbrev v : SeatView
  v = record u { role = Reference; weight = 1; draft = None }

  abbrev x : ℕ
  x = u.slot

  abbrev wide : ℕ
  wide = k.capacity_words + 2

  -- the view with the role ρ and the history all, after the event
  abbrev gone : Role → List Event → Bool → SeatView
  gone ρ all last = record v { role = ρ; weight = 0; known = []; sole = false; bare = false; side = None; side_words = []; front = all ++ Release x last ∷ []; places = v.places ++ length all ∷ [] }

  module _ (s : State ℕ SeatView) (r : Holds fits k ls s) (id : ℕ) (at_id : get_elem? s.views id ≡ some v) where
    abbrev h : Heap
    h = heap_after k r.all

    abbrev n : ℕ
    n = get_or s.words (count_place k x) 0

    abbrev ws : List ℕ
    ws = words_of (at h x)

    my_slot : x < k.slots
    my_slot = (r.seats id v at_id).role_is.below

    here : SlotOk k s.words s.views x (at h x)
    here = r.slots x my_slot

    pub some_count : 1 ≤ n
    some_count = let w = weigh x x 1 refl in let t = total_at (weight_on x) s.views id v at_id in let a = here.weights in let b = here.count in omega (arith, w, t, a, b)

    -- the side, if any, stays
    abbrev dx : Option ℕ
    dx = side_in (at h x)

    was_held : at h x ≡ held n ws dx
    was_held = let low = some_count in let b = here.count in held-is (at h x) (omega arith) ∙ ap (λ m. held m ws dx) (sym b)

    in_table : count_place k x < length s.words
    in_table = omega (arith, r.wide, within wide k.slots x 1 my_slot (omega arith))

    abbrev now : List ℕ
    now = set s.words (count_place k x) (n - 1)

    now_there : get_or now (count_place k x) 0 ≡ n - 1
    now_there = get_or-set_same s.words (count_place k x) (n - 1) 0 in_table

    side_there : get_or now (side_place k x) 0 ≡ side_word dx
    side_there = get_or-set_other s.words (count_place k x) (side_place k x) (n - 1) 0 (λ e. let e' : side_place k x ≡ count_place k x = e in omega arith) ∙ here.side_shown

    -- no side is slot x
    not_x : (y e : ℕ) → side_in (at h y) ≡ Some e → e ≢ x
    not_x y e its q = let was = side_is-side fits k r.all r.legal y e its in let none : count_of (at h x) ≡ 0 = ap (λ z. count_of (at h z)) (sym q) ∙ ap count_of was.1 in
        let low = some_count in let word_is = here.count in absurd (omega (arith, none, low, word_is))

    others_kept : (c : Slot) → ((j : ℕ) (y : SeatView) → j ≢ id → get_elem? s.views j ≡ some y → ReferenceOk k h y → y.slot ≡ x → (words_of c ≡ ws) × (side_in c ≡ dx) × (y.sole ≡ true → count_of (at h y.slot) ≡ 1 → ⊥))
        → (j : ℕ) (y : SeatView) → j ≢ id → get_elem? s.views j ≡ some y → RoleOk k (set h x c) y y.role × DraftOk k now y y.draft
    others_kept c alike j y ne at_j = let other = r.seats j y at_j in (
      role_kept k h (set h x c) y y.role (λ _ ok. dite (ℕ_discrete y.slot x)
          (λ (same : y.slot ≡ x). let t = alike j y ne at_j ok same in let c_is : at (set h x c) y.slot ≡ c = ap (at (set h x c)) same ∙ at-set h x c (subst (λ (m : ℕ). x < m) (sym (length-heap_after k r.all)) my_slot) in record {
            same_words = ap words_of c_is ∙ (t.0 ∙ ap (λ z. words_of (at h z)) (sym same));
            still_sole = λ b one_is. absurd (t.2 b one_is);
            still_bare = λ b _. absurd (let sole = (ok.bare_is b).0 in t.2 sole (ok.sole_is sole).1);
            same_side = λ e is side_ok. (side_ok.0, ap side_in c_is ∙ (t.1 ∙ (ap (λ z. side_in (at h z)) (sym same) ∙ side_ok.1)), side_ok.2 ∙ sym (ap words_of (at-set_else h x e c (not_x y.slot e side_ok.1))));
          })
          (λ (apart : ¬ (y.slot ≡ x)). untouched k h (set h x c) y (at-set_else h x y.slot c apart) (λ e its. ap words_of (at-set_else h x e c (not_x y.slot e its)))))
          other.role_is,
      draft_kept k s.words (count_place k x) (n - 1) y y.draft (λ z i e below. data_not_count k z i x below) other.draft_is,
    )

    same_else : (ρ : Role) (last : Bool) (y : ℕ) → y ≢ x → Same y v (gone ρ r.all last)
    same_else ρ last y ne = record { weights = weigh_none y x 0 refl ∙ sym (weigh_not y x 1 ne); closings = weigh_not y x _ ne ∙ sym (weigh_not y x 0 ne); frees = refl }

    told : (last : Bool) → IsPrefix u.told (r.all ++ Release x last ∷ [])
    told last = let seat = r.seats id v at_id in prefix_more u.told r.all _ (prefix_trans u.told u.front r.all seat.told_is seat.front_is)

    sums : (ρ : Role) (last : Bool) → (total (weight_on x) (set s.views id (gone ρ r.all last)) ≡ n - 1) × (total (free_on x) (set s.views id (gone ρ r.all last)) ≡ 0)
    sums ρ last = let a = total_set (weight_on x) s.views id v (gone ρ r.all last) at_id in let one_is = weigh x x 1 refl in let none_is = weigh_none x x 0 refl in
        let counted = here.weights in let word_is = here.count in let low = some_count in
        (omega (arith, a, one_is, none_is, counted, word_is, low), total_same (free_on x) s.views id v (gone ρ r.all last) at_id refl ∙ (here.frees ∙ ap idle_in was_held))

    pub last_owes : n ≡ 1 → OwesOne fits k ls s r id x 1 (n - 1) v (gone Closing r.all true) (Release x true) (closing dx)
    last_owes is_one = let seat = r.seats id v at_id in let c0 : at h x ≡ held 1 ws dx = was_held ∙ ap (λ m. held m ws dx) is_one in record {
      offset = (omega arith, omega arith);
      below = my_slot;
      applies = (my_slot, (let e = here.count in omega (arith, e, some_count)), sym (eq-eqb (count_of (at h x)) 1 (sym here.count ∙ is_one)));
      changes = ap (λ (c : Slot). set h x (released c)) c0;
      front_is = refl;
      active = tt;
      place = refl;
      pays = refl;
      elsewhere = same_else Closing true;
      here = record {
        count = now_there ∙ ap (λ m. m - 1) is_one;
        side_shown = side_there;
        content = λ i below. absurd (omega arith);
        room = omega arith;
        alive = tt;
        weights = (sums Closing true).0 ∙ ap (λ m. m - 1) is_one;
        closings = (let a = total_set (closing_on x) s.views id v (gone Closing r.all true) at_id in let none_is = weigh_none x x 0 refl in let one_is = weigh x x 1 refl in let was : total (closing_on x) s.views ≡ 0 = here.closings ∙ ap closing_in was_held in omega (arith, a, none_is, one_is, was));
        frees = (sums Closing true).1;
      };
      mine = record { front_is = ([], append-nil _); told_is = told true; places_below = below-adds u.front r.all _ u.places seat.front_is seat.places_below; literals_are = seat.literals_are; draft_is = tt; role_is = (seat.role_is.layout_is, record { light = refl; shared = refl; not_bare = refl; no_side = refl }, (let p = seat.role_is.pays in omega arith), refl, my_slot) };
      others = others_kept (closing dx) (λ j y ne at_j ok same.
          let two = total_two (weight_on x) s.views id j v y (λ e. ne (sym e)) at_id at_j in let mine_is = weigh x x 1 refl in let theirs = weigh x y.slot y.weight (sym same) in let some_weight = ok.weighs.0 in
          let counted = here.weights in let word_is = here.count in absurd (omega (arith, two, mine_is, theirs, some_weight, counted, word_is, is_one)));
    }

    pub more_owes : n ≢ 1 → OwesOne fits k ls s r id x 1 (n - 1) v (gone Share r.all false) (Release x false) (held (n - 1) ws dx)
    more_owes not_one = let seat = r.seats id v at_id in record {
      offset = (omega arith, omega arith);
      below = my_slot;
      applies = (my_slot, (let e = here.count in omega (arith, e, some_count)), sym (ne_eqb (count_of (at h x)) 1 (λ e. not_one (here.count ∙ e))));
      changes = ap (λ (c : Slot). set h x (released c)) was_held ∙ ap (λ b. set h x (cond b (closing dx) (held (n - 1) ws dx))) (ne_eqb n 1 not_one);
      front_is = refl;
      active = tt;
      place = refl;
      pays = refl;
      elsewhere = same_else Share false;
      here = record {
        count = now_there;
        side_shown = side_there;
        content = λ i below. get_or-set_other s.words (count_place k x) (data_place k x i) (n - 1) 0 (λ e. let e' : data_place k x i ≡ count_place k x = e in omega arith) ∙ here.content i below;
        room = here.room;
        alive = (let low = some_count in omega arith);
        weights = (sums Share false).0;
        closings = (let a = total_set (closing_on x) s.views id v (gone Share r.all false) at_id in let none_is = weigh_none x x 0 refl in let was : total (closing_on x) s.views ≡ 0 = here.closings ∙ ap closing_in was_held in omega (arith, a, none_is, was));
        frees = (sums Share false).1;
      };
      mine = record { front_is = ([], append-nil _); told_is = told false; places_below = below-adds u.front r.all _ u.places seat.front_is seat.places_below; literals_are = seat.literals_are; draft_is = tt; role_is = (seat.role_is.layout_is, record { light = refl; shared = refl; not_bare = refl; no_side = refl }, (let p = seat.role_is.pays in omega arith), refl) };
      others = others_kept (held (n - 1) ws dx) (λ j y ne at_j ok same. (
        refl,
        refl,
        λ b one_is. not_one (here.count ∙ (ap (λ z. count_of (at h z)) (sym same) ∙ one_is)),
      ));
    }

    pub releases_core : (st : Step ℕ) (cs : List (ℕ × ℕ)) → (w : SeatView) × Holds fits k ls (turned s (count_place k x) (n - 1) id w) × Releases fits st (v, cs) n (w, cs)
    releases_core st cs = dite (ℕ_discrete n 1)
        (λ (is : n ≡ 1). (
          gone Closing r.all true,
          turn_one fits k ls s r id x 1 (n - 1) v _ (Release x true) (closing dx) at_id (last_owes is),
          (
            λ b. here.count ∙ ((r.seats id v at_id).role_is.sole_is b).1,
            (
              r.all,
              (r.seats id v at_id).front_is,
              subst (λ (b : Bool). Legal fits v.layout (r.all ++ Release x b ∷ [])) (sym (eq-eqb n 1 is)) (still_legal fits k r.all _ v.layout (r.seats id v at_id).role_is.layout_is r.legal (last_owes is).applies),
              ap (λ (b : Bool). gone (cond b Closing Share) r.all b) (sym (eq-eqb n 1 is)),
              refl,
            ),
          ),
        ))
        (λ (ne : ¬ (n ≡ 1)). (
          gone Share r.all false,
          turn_one fits k ls s r id x 1 (n - 1) v _ (Release x false) (held (n - 1) ws dx) at_id (more_owes ne),
          (
            λ b. here.count ∙ ((r.seats id v at_id).role_is.sole_is b).1,
            (
              r.all,
              (r.seats id v at_id).front_is,
              subst (λ (b : Bool). Legal fits v.layout (r.all ++ Release x b ∷ [])) (sym (ne_eqb n 1 ne)) (still_legal fits k r.all _ v.layout (r.seats id v at_id).role_is.layout_is r.legal (more_owes ne).applies),
              ap (λ (b : Bool). gone (cond b Closing Share) r.all b) (sym (ne_eqb n 1 ne)),
              refl,
            ),
          ),
        ))

pub releases_allowed : (fits : List ℕ → List ℕ → Type 0) (k : Layout) (ls : List (List ℕ)) (slots id i : ℕ) (me : Sat) → me.0.role ≡ Reference → me.0.weight ≡ 1 → me.0.draft ≡ None → i ≡ count_place k me.0.slot
    → Allows (Holds fits k ls) slots id me i (λ n. (n + (2 ^ 64 - 1)) % 2 ^ 64) (Releases fits (step slots i 1 0 none) me)
releases_allowed fits k ls slots id i me role light no_draft at_i = subst (λ (z : Sat × ℕ). Allows (Holds fits k ls) slots id z.0 z.1 (λ n. (n + (2 ^ 64 - 1)) % 2 ^ 64) (Releases fits (step slots i 1 0 none) z.0))
    (λ t. ((record me.0 { role = sym role t; weight = sym light t; draft = sym no_draft t }, me.1), sym at_i t))
    (λ s r flat at_id small. let done = releases_core fits k ls me.0 s r id at_id (step slots i 1 0 none) me.1 in
    (done.0, keeps, tt, subst (λ (m : ℕ). Holds fits k ls (turned s (count_place k me.0.slot) m id done.0)) (sym (down_one _ (some_count fits k ls me.0 s r id at_id) small)) done.1, done.2))
