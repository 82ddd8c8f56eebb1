-- A step with an event: what the seat that makes it has to show, and that the rule then holds again.
use Rattle.std.proofs.Common.{◌≡◌, ◌≢◌, ℕ, zero, suc, ◌+◌, ◌*◌, ◌<◌, ◌≤◌, ⊎_elim, List, [], ◌∷◌, ◌++◌, length, set, ltb, cond, Bool, true, false, true≢false, refl, sym, ap, ◌∙◌, subst, arith, append_assoc, length-append, length-set, get_or-set_other, eq-eqb, eqb-true, eqb}
use Rattle.std.proofs.lemmas.Bool.Decides.{nat_tests}
use mathlib.Core.Option.{some, some-injective, some-ne-none}
use mathlib.Core.List.{IsPrefix}
use mathlib.Core.Logic.{dite}
use native.Mathlib.Decide.{ℕ_discrete}
use lib.ListN.{get_elem?}
use Rattle.atomic_table.specs.Table.{State}
use Rattle.atomic_table.proofs.Lists.{at_set, set_here, set_else}
use Rattle.slot_model.specs.declared.event.Event.{Event}
use Rattle.slot_model.specs.declared.layout.Layout.{Layout}
use Rattle.slot_model.specs.History.{Slot, Heap, at, next, Applies, Legal, heap_after}
use Rattle.slot_model.proofs.Runs.{heap_after-snoc, legal-snoc, length-heap_after, at-set, at-set_else}
use Rattle.slot_table.specs.declared.view.SeatView.{SeatView}
use Rattle.slot_table.specs.Addresses.{count_place, side_place, data_place, table_size}
use Rattle.slot_table.specs.Numbers.{total, one, times}
use Rattle.slot_table.specs.Seats.{weight_on, closing_on, free_on, place_on, credits_in}
use Rattle.slot_table.specs.Holdings.{IsActive, Owned, SlotOk, SeatOk, RoleOk, DraftOk, Holds}
use Rattle.slot_table.proofs.Sums.{total_set, total_snoc}
use Rattle.slot_table.proofs.Rows.{apart, within}

pub prefix_more : (xs ys zs : List Event) → IsPrefix xs ys → IsPrefix xs (ys ++ zs)
prefix_more xs ys zs p = (p.0 ++ zs, sym (append_assoc xs p.0 zs) ∙ ap (λ l. l ++ zs) p.1)

pub prefix_trans : (xs ys zs : List Event) → IsPrefix xs ys → IsPrefix ys zs → IsPrefix xs zs
prefix_trans xs ys zs p q = (p.0 ++ q.0, sym (append_assoc xs p.0 q.0) ∙ ap (λ l. l ++ q.0) p.1 ∙ q.1)

-- the history with the event is legal, also by the layout that a view has
pub still_legal : (fits : List ℕ → List ℕ → Type 0) (k : Layout) (all : List Event) (e : Event) (l : Layout) → l ≡ k → Legal fits k all → Applies fits k (heap_after k all) e → Legal fits l (all ++ e ∷ [])
still_legal fits k all e l same legal applies = subst (λ (z : Layout). Legal fits z (all ++ e ∷ [])) (sym same) (legal-snoc fits k all e legal applies)

one_more : (n m : ℕ) → one n m + cond (ltb n m) 1 0 ≡ cond (ltb n (m + 1)) 1 0
one_more n m = grind (arith, nat_tests)

-- the state after a step of the seat id that gives back no slot of the table
abbrev pub turned : State ℕ SeatView → ℕ → ℕ → ℕ → SeatView → State ℕ SeatView
turned s i n id w = record { words = set s.words i n; homes = s.homes; views = set s.views id w }

-- the sums at y are as they were
pub record Same (y : ℕ) (v w : SeatView) : Type 0 where
  pub weights : weight_on y w ≡ weight_on y v
  pub closings : closing_on y w ≡ closing_on y v
  pub frees : free_on y w ≡ free_on y v

-- a sum that neither changes at the seat nor elsewhere
pub total_same : (f : SeatView → ℕ) (vs : List SeatView) (i : ℕ) (v w : SeatView) → get_elem? vs i ≡ some v → f w ≡ f v → total f (set vs i w) ≡ total f vs
total_same f vs i v w e same = let t = total_set f vs i v w e in omega (arith, t, same)

pub listed : (vs : List SeatView) (i : ℕ) (v : SeatView) → get_elem? vs i ≡ some v → i < length vs
listed [] i v e = absurd (some-ne-none v (sym e))
listed (x ∷ xs) zero v e = omega arith
listed (x ∷ xs) (suc i) v e = let t = listed xs i v e in omega arith

-- the seat that knew all, or the seat id in its place
pub owned_set : (all : List Event) (views : List SeatView) (id : ℕ) (v w : SeatView) → get_elem? views id ≡ some v → (IsActive v.role → v.front ≡ all → IsActive w.role × (w.front ≡ all)) → Owned all views → Owned all (set views id w)
owned_set all views id v w at_id keeps own = dite (ℕ_discrete own.0 id)
    (λ (same : own.0 ≡ id). let e : own.1 ≡ v = some-injective own.1 v (sym own.2 ∙ (ap (get_elem? views) same ∙ at_id)) in
    let t = keeps (subst (λ (y : SeatView). IsActive y.role) e own.3) (ap (λ (y : SeatView). y.front) (sym e) ∙ own.4) in (id, w, set_here views id w (listed views id v at_id), t.0, t.1))
    (λ (ne : ¬ (own.0 ≡ id)). (own.0, own.1, set_else views id own.0 w ne ∙ own.2, own.3, own.4))

module _ (fits : List ℕ → List ℕ → Type 0) (k : Layout) (ls : List (List ℕ)) where
  abbrev Rule : State ℕ SeatView → Type 0
  Rule = Holds fits k ls

  abbrev wide : ℕ
  wide = k.capacity_words + 2

  -- the words of y are as they were, where the word that changes is one of x
  pub slot_else : (words : List ℕ) (n : ℕ) (vs ws : List SeatView) (x o y : ℕ) (c : Slot) → x ≢ y → 0 < o → o ≤ wide
      → total (weight_on y) ws ≡ total (weight_on y) vs → total (closing_on y) ws ≡ total (closing_on y) vs → total (free_on y) ws ≡ total (free_on y) vs
      → SlotOk k words vs y c → SlotOk k (set words (x * wide + o) n) ws y c
  slot_else words n vs ws x o y c ne o0 ow sw sc sf ok = record {
    count = get_or-set_other words (x * wide + o) (count_place k y) n 0 (λ e. apart wide x y o 1 ne o0 ow (omega arith) (omega arith) (sym e)) ∙ ok.count;
    side_shown = get_or-set_other words (x * wide + o) (side_place k y) n 0 (λ e. apart wide x y o 2 ne o0 ow (omega arith) (omega arith) (sym e)) ∙ ok.side_shown;
    content = λ i h. get_or-set_other words (x * wide + o) (data_place k y i) n 0 (λ e. apart wide x y o (3 + i) ne o0 ow (omega arith) (omega (arith, ok.room)) (sym (e ∙ refl) ∙ omega arith)) ∙ ok.content i h;
    room = ok.room;
    alive = ok.alive;
    weights = sw ∙ ok.weights;
    closings = sc ∙ ok.closings;
    frees = sf ∙ ok.frees;
  }

  -- what a step with the event e owes, where the heap and the sums change at some slots alone, x among them
  pub record Owes (s : State ℕ SeatView) (r : Rule s) (id x o n : ℕ) (v w : SeatView) (e : Event) (touched : ℕ → Bool) : Type 0 where
    pub offset : (0 < o) × (o ≤ wide)
    pub hits : touched x ≡ true
    pub within_heap : (y : ℕ) → touched y ≡ true → y < k.slots
    pub applies : Applies fits k (heap_after k r.all) e
    pub front_is : w.front ≡ r.all ++ e ∷ []
    pub active : IsActive w.role
    pub place : w.places ≡ v.places ++ length r.all ∷ []
    pub pays : w.credits ≡ v.credits
    pub elsewhere : (y : ℕ) → touched y ≡ false → Same y v w × (at (next (heap_after k r.all) e) y ≡ at (heap_after k r.all) y)
    pub here : (y : ℕ) → touched y ≡ true → SlotOk k (set s.words (x * wide + o) n) (set s.views id w) y (at (next (heap_after k r.all) e) y)
    pub mine : SeatOk k ls (set s.words (x * wide + o) n) (r.all ++ e ∷ []) w
    pub others : (j : ℕ) (u : SeatView) → j ≢ id → get_elem? s.views j ≡ some u → RoleOk k (next (heap_after k r.all) e) u u.role × DraftOk k (set s.words (x * wide + o) n) u u.draft

  abbrev Each : List ℕ → List Event → List SeatView → Type 0
  Each words all views = (j : ℕ) (v : SeatView) → get_elem? views j ≡ some v → SeatOk k ls words all v

  pub seats_after : (words : List ℕ) (all : List Event) (views : List SeatView) (id : ℕ) (w : SeatView)
      → SeatOk k ls words all w → ((j : ℕ) (u : SeatView) → j ≢ id → get_elem? views j ≡ some u → SeatOk k ls words all u) → Each words all (set views id w)
  seats_after words all views id w mine others j u e =
      ⊎_elim
      (λ (t : (j ≡ id) × (w ≡ u)). subst (SeatOk k ls words all) t.1 mine)
      (λ (t : (j ≢ id) × (get_elem? views j ≡ some u)). others j u t.0 t.1)
      (at_set views id j w u e)

  pub turn : (s : State ℕ SeatView) (r : Rule s) (id x o n : ℕ) (v w : SeatView) (e : Event) (touched : ℕ → Bool) → get_elem? s.views id ≡ some v → Owes s r id x o n v w e touched → Rule (turned s (x * wide + o) n id w)
  turn s r id x o n v w e touched at_id owes =
      let h = heap_after k r.all in
      let after : heap_after k (r.all ++ e ∷ []) ≡ next h e = heap_after-snoc k r.all e in
      let i : ℕ = x * wide + o in
      record {
        all = r.all ++ e ∷ [];
        legal = legal-snoc fits k r.all e r.legal owes.applies;
        wide = length-set s.words i n ∙ r.wide;
        zero_is = get_or-set_other s.words i 0 n 0 (λ q. let z : 0 ≡ i = q in let o0 = owes.offset.0 in omega arith) ∙ r.zero_is;
        rows = λ j below. get_or-set_other s.words i (table_size k + j) n 0 (λ q. let z : table_size k + j ≡ i = q in let t = within wide k.slots x o (owes.within_heap x owes.hits) owes.offset.1 in omega (arith, t)) ∙ r.rows j below;
        owner = (id, w, set_here s.views id w (listed s.views id v at_id), owes.active, owes.front_is);
        slots = λ y y_below. subst (SlotOk k (set s.words i n) (set s.views id w) y) (ap (λ (g : Heap). at g y) (sym after)) (by_touch y y_below (touched y) refl);
        frees_below = λ y above. total_same (free_on y) s.views id v w at_id (past y above (touched y) refl) ∙ r.frees_below y above;
        credits = total_same credits_in s.views id v w at_id owes.pays ∙ r.credits;
        places = λ m. placed m;
        seats = seats_after (set s.words i n) (r.all ++ e ∷ []) s.views id w owes.mine (λ j u ne at_j. let was = r.seats j u at_j in let now = owes.others j u ne at_j in record {
          front_is = prefix_more u.front r.all (e ∷ []) was.front_is;
          told_is = was.told_is;
          places_below = was.places_below;
          literals_are = was.literals_are;
          draft_is = now.1;
          role_is = subst (λ (g : Heap). RoleOk k g u u.role) (sym after) now.0;
        });
      }
    where
      by_touch : (y : ℕ) → y < k.slots → (b : Bool) → touched y ≡ b → SlotOk k (set s.words (x * wide + o) n) (set s.views id w) y (at (next (heap_after k r.all) e) y)
      by_touch y below true is = owes.here y is
      by_touch y below false is = let t = owes.elsewhere y is in subst (SlotOk k (set s.words (x * wide + o) n) (set s.views id w) y) (sym t.1)
          (slot_else s.words n s.views (set s.views id w) x o y (at (heap_after k r.all) y) (λ q. let a : true ≡ false = sym owes.hits ∙ (ap touched q ∙ is) in true≢false a) owes.offset.0 owes.offset.1
          (total_same (weight_on y) s.views id v w at_id t.0.weights) (total_same (closing_on y) s.views id v w at_id t.0.closings) (total_same (free_on y) s.views id v w at_id t.0.frees) (r.slots y below))

      past : (y : ℕ) → k.slots ≤ y → (b : Bool) → touched y ≡ b → free_on y w ≡ free_on y v
      past y above true is = absurd (let b = owes.within_heap y is in omega arith)
      past y above false is = (owes.elsewhere y is).0.frees

      placed : (m : ℕ) → total (place_on m) (set s.views id w) ≡ cond (ltb m (length (r.all ++ e ∷ []))) 1 0
      placed m = let t = total_set (place_on m) s.views id v w at_id in let was = r.places m in
          let grew : place_on m w ≡ place_on m v + one m (length r.all) = ap (times m) owes.place ∙ total_snoc (one m) v.places (length r.all) in
          let more = one_more m (length r.all) in let longer : length (r.all ++ e ∷ []) ≡ length r.all + 1 = length-append r.all (e ∷ []) in
          let sums : total (place_on m) (set s.views id w) ≡ one m (length r.all) + cond (ltb m (length r.all)) 1 0 = omega (arith, t, was, grew) in
          sums ∙ more ∙ ap (λ (z : ℕ). cond (ltb m z) 1 0) (sym longer)

  -- what a step with the event e owes, where the heap and the sums change at slot x alone, which becomes c
  pub record OwesOne (s : State ℕ SeatView) (r : Rule s) (id x o n : ℕ) (v w : SeatView) (e : Event) (c : Slot) : Type 0 where
    pub offset : (0 < o) × (o ≤ wide)
    pub below : x < k.slots
    pub applies : Applies fits k (heap_after k r.all) e
    pub changes : next (heap_after k r.all) e ≡ set (heap_after k r.all) x c
    pub front_is : w.front ≡ r.all ++ e ∷ []
    pub active : IsActive w.role
    pub place : w.places ≡ v.places ++ length r.all ∷ []
    pub pays : w.credits ≡ v.credits
    pub elsewhere : (y : ℕ) → y ≢ x → Same y v w
    pub here : SlotOk k (set s.words (x * wide + o) n) (set s.views id w) x c
    pub mine : SeatOk k ls (set s.words (x * wide + o) n) (r.all ++ e ∷ []) w
    pub others : (j : ℕ) (u : SeatView) → j ≢ id → get_elem? s.views j ≡ some u → RoleOk k (set (heap_after k r.all) x c) u u.role × DraftOk k (set s.words (x * wide + o) n) u u.draft

  owes_one : (s : State ℕ SeatView) (r : Rule s) (id x o n : ℕ) (v w : SeatView) (e : Event) (c : Slot) → OwesOne s r id x o n v w e c → Owes s r id x o n v w e (λ y. eqb y x)
  owes_one s r id x o n v w e c owes = record {
    offset = owes.offset;
    hits = eq-eqb x x refl;
    within_heap = λ y is. subst (λ (z : ℕ). z < k.slots) (sym (eqb-true y x is)) owes.below;
    applies = owes.applies;
    front_is = owes.front_is;
    active = owes.active;
    place = owes.place;
    pays = owes.pays;
    elsewhere = λ y is. let ne : y ≢ x = (λ q. true≢false (sym (eq-eqb y x q) ∙ is)) in (owes.elsewhere y ne, ap (λ (g : Heap). at g y) owes.changes ∙ at-set_else (heap_after k r.all) x y c ne);
    here = λ y is. subst (λ (z : ℕ). SlotOk k (set s.words (x * wide + o) n) (set s.views id w) z (at (next (heap_after k r.all) e) z)) (sym (eqb-true y x is))
        (subst (SlotOk k (set s.words (x * wide + o) n) (set s.views id w) x) (sym at_x ∙ ap (λ (g : Heap). at g x) (sym owes.changes)) owes.here);
    mine = owes.mine;
    others = λ j u ne at_j. let now = owes.others j u ne at_j in (subst (λ (g : Heap). RoleOk k g u u.role) (sym owes.changes) now.0, now.1);
  }
    where
      at_x : at (set (heap_after k r.all) x c) x ≡ c
      at_x = at-set (heap_after k r.all) x c (subst (λ (m : ℕ). x < m) (sym (length-heap_after k r.all)) owes.below)

  pub turn_one : (s : State ℕ SeatView) (r : Rule s) (id x o n : ℕ) (v w : SeatView) (e : Event) (c : Slot) → get_elem? s.views id ≡ some v → OwesOne s r id x o n v w e c → Rule (turned s (x * wide + o) n id w)
  turn_one s r id x o n v w e c at_id owes = turn s r id x o n v w e (λ y. eqb y x) at_id (owes_one s r id x o n v w e c owes)
