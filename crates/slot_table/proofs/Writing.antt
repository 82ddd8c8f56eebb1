-- A bare reference stores a word into its slot.
use Rattle.std.proofs.Common.{◌≡◌, ◌≢◌, ℕ, ◌+◌, ◌-◌, ◌*◌, ◌<◌, ◌≤◌, cond, true, List, [], ◌∷◌, ◌++◌, length, get_or, set, Option, Some, None, refl, sym, ap, ◌∙◌, subst, arith, get_or-set_same, get_or-set_other, append-nil, eq-eqb, ne_eqb, length-append, length-set}
use mathlib.Core.Option.{some, none}
use mathlib.Core.Logic.{dite}
use native.Mathlib.Decide.{ℕ_discrete}
use lib.ListN.{get_elem?}
use Rattle.atomic_table.specs.Table.{State, step, keeps, Allows}
use Rattle.slot_model.specs.declared.event.Event.{Event}
use Rattle.slot_model.specs.declared.event.Event.TheVariants.{Write}
use Rattle.slot_model.specs.declared.layout.Layout.{Layout}
use Rattle.slot_model.specs.History.{Slot, Heap, held, side_of, at, next, written, put, count_of, words_of, side_in, idle_in, closing_in, heap_after, Legal}
use Rattle.slot_model.proofs.Runs.{length-heap_after, heap_after-snoc, at-set, at-set_else}
use Rattle.slot_table.specs.declared.view.SeatView.{SeatView}
use Rattle.slot_table.specs.declared.view.Role.TheVariants.{Reference}
use Rattle.slot_table.specs.Addresses.{count_place, side_place, data_place, side_word}
use Rattle.slot_table.specs.Numbers.{total}
use Rattle.slot_table.specs.Seats.{in_option, weight_on, closing_on, free_on}
use Rattle.slot_table.specs.Holdings.{SlotOk, SeatOk, ReferenceOk, SideOk, Holds}
use Rattle.slot_table.specs.Views.{Sat, recorded}
use Rattle.slot_table.specs.ReferenceSteps.{Writes, word_in, writing, wrote}
use Rattle.slot_table.proofs.Sums.{total_at, total_two}
use Rattle.slot_table.proofs.Rows.{apart, within, data_not_count, data_not_side}
use Rattle.slot_table.proofs.Turns.{turned, prefix_more, prefix_trans, total_same, OwesOne, still_legal, turn_one}
use Rattle.slot_table.proofs.Kept.{one-same, weigh, Like, role_kept, untouched, draft_kept, side_is-side}
use Rattle.slot_table.proofs.Below.{below-adds}
use Rattle.slot_table.proofs.Filling.{get_or-snoc, get_or-end}
use Rattle.slot_table.proofs.Releasing.{held-is}

pub length-put : (ws : List ℕ) (j w : ℕ) (m : ℕ) → j ≤ length ws → j < m → length ws ≤ m → length (put ws j w) ≤ m
length-put ws j w m low high room = dite (ℕ_discrete j (length ws))
    (λ (q : j ≡ length ws). subst (λ b. length (cond b (ws ++ w ∷ []) (set ws j w)) ≤ m) (sym (eq-eqb j (length ws) q)) (let e = length-append ws (w ∷ []) in omega (arith, e)))
    (λ (n : ¬ (j ≡ length ws)). subst (λ b. length (cond b (ws ++ w ∷ []) (set ws j w)) ≤ m) (sym (ne_eqb j (length ws) n)) (let e = length-set ws j w in omega (arith, e)))

pub put-at : (ws : List ℕ) (j w : ℕ) → j ≤ length ws → get_or (put ws j w) j 0 ≡ w
put-at ws j w low = dite (ℕ_discrete j (length ws))
    (λ (q : j ≡ length ws). ap (λ b. get_or (cond b (ws ++ w ∷ []) (set ws j w)) j 0) (eq-eqb j (length ws) q) ∙ (ap (λ z. get_or (ws ++ w ∷ []) z 0) q ∙ get_or-end ws w))
    (λ (n : ¬ (j ≡ length ws)). ap (λ b. get_or (cond b (ws ++ w ∷ []) (set ws j w)) j 0) (ne_eqb j (length ws) n) ∙ get_or-set_same ws j w 0 (omega arith))

pub put-else : (ws : List ℕ) (j w i : ℕ) → j ≤ length ws → i ≢ j → i < length (put ws j w) → (i < length ws) × (get_or (put ws j w) i 0 ≡ get_or ws i 0)
put-else ws j w i low ne below = dite (ℕ_discrete j (length ws))
    (λ (q : j ≡ length ws).
    let b = eq-eqb j (length ws) q in let l : i < length (ws ++ w ∷ []) = subst (λ c. i < length (cond c (ws ++ w ∷ []) (set ws j w))) b below in let e = length-append ws (w ∷ []) in let within_ws : i < length ws = omega (arith, l, e) in
    (within_ws, ap (λ c. get_or (cond c (ws ++ w ∷ []) (set ws j w)) i 0) b ∙ get_or-snoc ws w i within_ws))
    (λ (n : ¬ (j ≡ length ws)).
    let b = ne_eqb j (length ws) n in let l : i < length (set ws j w) = subst (λ c. i < length (cond c (ws ++ w ∷ []) (set ws j w))) b below in let e = length-set ws j w in
    (omega (arith, l, e), ap (λ c. get_or (cond c (ws ++ w ∷ []) (set ws j w)) i 0) b ∙ get_or-set_other ws j i w 0 ne))

module _ (fits : List ℕ → List ℕ → Type 0) (k : Layout) (ls : List (List ℕ)) (u : SeatView) (j word : ℕ) where
  abbrev v : SeatView
  v = record u { role = Reference; weight = 1; draft = None; sole = true; bare = true }

  abbrev x : ℕ
  x = u.slot

  abbrev wide : ℕ
  wide = k.capacity_words + 2

  abbrev after : List Event → SeatView
  after all = record (recorded v all (Write x j word)) { known = put u.known j word }

  module _ (s : State ℕ SeatView) (r : Holds fits k ls s) (id : ℕ) (at_id : get_elem? s.views id ≡ some v) (low : j ≤ length u.known) (high : j < k.capacity_words) where
    abbrev h : Heap
    h = heap_after k r.all

    seat : SeatOk k ls s.words r.all v
    seat = r.seats id v at_id

    mine_ok : ReferenceOk k h v
    mine_ok = seat.role_is

    here : SlotOk k s.words s.views x (at h x)
    here = r.slots x mine_ok.below

    one_count : count_of (at h x) ≡ 1
    one_count = (mine_ok.sole_is refl).1

    no_side : side_in (at h x) ≡ None
    no_side = (mine_ok.bare_is refl).1

    was_held : at h x ≡ held 1 u.known None
    was_held = held-is (at h x) (let e = one_count in omega arith) ∙ (λ i. held (one_count i) (sym mine_ok.knows i) (no_side i))

    abbrev c : Slot
    c = held 1 (put u.known j word) None

    changes : next h (Write x j word) ≡ set h x c
    changes = ap (λ (z : Slot). set h x (written j word z)) was_held

    at_x : at (set h x c) x ≡ c
    at_x = at-set h x c (subst (λ (m : ℕ). x < m) (sym (length-heap_after k r.all)) mine_ok.below)

    abbrev i : ℕ
    i = x * wide + (3 + j)

    abbrev now : List ℕ
    now = set s.words i word

    at_j : data_place k x j ≡ i
    at_j = omega arith

    slot_x : SlotOk k now (set s.views id (after r.all)) x c
    slot_x = record {
      count = get_or-set_other s.words i (count_place k x) word 0 (λ q. data_not_count k x j x high (at_j ∙ sym q)) ∙ (here.count ∙ one_count);
      side_shown = get_or-set_other s.words i (side_place k x) word 0 (λ q. data_not_side k x j x high (at_j ∙ sym q)) ∙ (here.side_shown ∙ ap side_word no_side);
      content = λ m below. dite (ℕ_discrete m j)
          (λ (q : m ≡ j). ap (λ (z : ℕ). get_or now (data_place k x z) 0) q ∙ (ap (λ (z : ℕ). get_or now z 0) at_j ∙ (get_or-set_same s.words i word 0 (omega (arith, r.wide, within wide k.slots x (3 + j) mine_ok.below (omega arith))) ∙ sym (ap (λ z. get_or (put u.known j word) z 0) q ∙ put-at u.known j word low))))
          (λ (n : ¬ (m ≡ j)). let t = put-else u.known j word m low n below in
          get_or-set_other s.words i (data_place k x m) word 0 (λ q. n (let q' : data_place k x m ≡ i = q in omega arith)) ∙ (here.content m (subst (λ l. m < length l) mine_ok.knows t.0) ∙ (ap (λ l. get_or l m 0) (sym mine_ok.knows) ∙ sym t.1)));
      room = length-put u.known j word k.capacity_words low high (subst (λ l. length l ≤ k.capacity_words) (sym mine_ok.knows) here.room);
      alive = omega arith;
      weights = total_same (weight_on x) s.views id v (after r.all) at_id refl ∙ (here.weights ∙ one_count);
      closings = total_same (closing_on x) s.views id v (after r.all) at_id refl ∙ (here.closings ∙ ap closing_in was_held);
      frees = total_same (free_on x) s.views id v (after r.all) at_id refl ∙ (here.frees ∙ ap idle_in was_held);
    }

    -- no other reference is on the slot, so that what others know stays
    other_like : (m : ℕ) (y : SeatView) → m ≢ id → get_elem? s.views m ≡ some y → ReferenceOk k h y → Like k h (set h x c) y
    other_like m y ne at_m ok =
        let apart_x : y.slot ≢ x = (λ q. let two = total_two (weight_on x) s.views id m v y (λ e. ne (sym e)) at_id at_m in let a = weigh x x 1 refl in let b = weigh x y.slot y.weight (sym q) in let d = ok.weighs.0 in let t = here.weights in let o = one_count in omega (arith, two, a, b, d, t, o)) in
        untouched k h (set h x c) y (at-set_else h x y.slot c apart_x) (λ e side. let was = side_is-side fits k r.all r.legal y.slot e side in
        ap words_of (at-set_else h x e c (λ q. let a : held 1 u.known None ≡ side_of y.slot was.0 = sym was_held ∙ (ap (at h) (sym q) ∙ was.1) in cc)))

    -- a draft's slot is idle, and x is held
    not_theirs : (m : ℕ) (y : SeatView) (z p : ℕ) → get_elem? s.views m ≡ some y → y.draft ≡ Some z → p < k.capacity_words → data_place k z p ≢ i
    not_theirs m y z p at_m drafted below q =
        let in_free : 1 ≤ free_on z y = (let e : in_option z y.draft ≡ 1 = ap (in_option z) drafted ∙ one-same z in omega (arith, e)) in
        let t = total_at (free_on z) s.views m y at_m in
        let z_not_x : z ≢ x = (λ e. let f : total (free_on z) s.views ≡ 0 = ap (λ a. total (free_on a) s.views) e ∙ (here.frees ∙ ap idle_in was_held) in omega (arith, in_free, t, f)) in
        apart wide z x (3 + p) (3 + j) z_not_x (omega arith) (omega arith) (omega arith) (omega arith) (let q' : data_place k z p ≡ i = q in omega arith)

    my_side : (d : Option ℕ) → SideOk k h v d → SideOk k (set h x c) (after r.all) d
    my_side None ok = tt
    my_side (Some e) ok = absurd (let a : None ≡ Some e = sym no_side ∙ ok.1 in cc)

    write_owes : OwesOne fits k ls s r id x (3 + j) word v (after r.all) (Write x j word) c
    write_owes = let same_len : length u.known ≡ length (words_of (at h x)) = ap length mine_ok.knows in record {
      offset = (omega arith, omega arith);
      below = mine_ok.below;
      applies = (mine_ok.below, one_count, no_side, omega arith, high);
      changes = changes;
      front_is = refl;
      active = tt;
      place = refl;
      pays = refl;
      elsewhere = λ y ne. record { weights = refl; closings = refl; frees = refl };
      here = slot_x;
      mine = record {
        front_is = ([], append-nil _);
        told_is = prefix_more u.told r.all _ (prefix_trans u.told u.front r.all seat.told_is seat.front_is);
        places_below = below-adds u.front r.all _ u.places seat.front_is seat.places_below;
        literals_are = seat.literals_are;
        draft_is = tt;
        role_is = subst (λ (g : Heap). ReferenceOk k g (after r.all)) (sym (heap_after-snoc k r.all (Write x j word) ∙ changes)) record {
          layout_is = mine_ok.layout_is;
          below = mine_ok.below;
          weighs = mine_ok.weighs;
          pays = mine_ok.pays;
          knows = sym (ap words_of at_x);
          sole_is = λ _. (refl, ap count_of at_x);
          bare_is = λ _. (refl, ap side_in at_x);
          side_is = my_side u.side mine_ok.side_is;
        };
      };
      others = λ m y ne at_m. let other = r.seats m y at_m in (
        role_kept k h (set h x c) y y.role (λ _ ok. other_like m y ne at_m ok) other.role_is,
        draft_kept k s.words i word y y.draft (λ z p e below. not_theirs m y z p at_m e below) other.draft_is,
      );
    }

    writes_core : Holds fits k ls (turned s i word id (after r.all)) × Legal fits v.layout (r.all ++ Write x j word ∷ [])
    writes_core = (
      turn_one fits k ls s r id x (3 + j) word v (after r.all) (Write x j word) c at_id write_owes,
      still_legal fits k r.all (Write x j word) v.layout mine_ok.layout_is r.legal write_owes.applies,
    )

  -- the step is on word j, which its place tells
  pub told_place : (l : Layout) (i : ℕ) → l ≡ k → i ≡ data_place k x j → word_in i (record u { layout = l }) ≡ j
  told_place l i same at_i = ap (λ (z : Layout). i - data_place z x 0) same ∙ omega (arith, at_i)

  writes_at : (slots id i : ℕ) (cs : List (ℕ × ℕ)) → i ≡ data_place k x j → j ≤ length u.known → j < k.capacity_words → u.layout ≡ k
      → Allows (Holds fits k ls) slots id (v, cs) i (λ _. word) (λ _. Writes fits (step slots i word 0 none) (v, cs) word)
  writes_at slots id i cs at_i low high same s r flat at_id small =
      let done = writes_core s r id at_id low high in let seat = r.seats id v at_id in let j_is : word_in i v ≡ j = told_place u.layout i same at_i in
      let place : x * wide + (3 + j) ≡ i = omega (arith, at_i) in (
        wrote i word (recorded v r.all (writing i word v)),
        keeps,
        tt,
        subst (λ (z : ℕ × SeatView). Holds fits k ls (turned s z.0 word id z.1)) (λ t. (place t, record (recorded v r.all (Write x (sym j_is t) word)) { known = put u.known (sym j_is t) word })) done.0,
        (r.all, seat.front_is, subst (λ (m : ℕ). Legal fits v.layout (r.all ++ Write x m word ∷ [])) (sym j_is) done.1, refl, refl),
      )

pub writes_allowed : (fits : List ℕ → List ℕ → Type 0) (k : Layout) (ls : List (List ℕ)) (slots id i j word : ℕ) (me : Sat) → me.0.layout ≡ k → me.0.role ≡ Reference → me.0.weight ≡ 1 → me.0.draft ≡ None → me.0.sole ≡ true → me.0.bare ≡ true
    → j ≤ length me.0.known → j < k.capacity_words → i ≡ data_place k me.0.slot j → Allows (Holds fits k ls) slots id me i (λ _. word) (λ _. Writes fits (step slots i word 0 none) me word)
writes_allowed fits k ls slots id i j word me same role light no_draft sole bare low high at_i = subst (λ (z : Sat). Allows (Holds fits k ls) slots id z i (λ _. word) (λ _. Writes fits (step slots i word 0 none) z word))
    (λ t. (record me.0 { role = sym role t; weight = sym light t; draft = sym no_draft t; sole = sym sole t; bare = sym bare t }, me.1)) (writes_at fits k ls me.0 j word slots id i me.1 at_i low high same)
