-- A word is stored into a draft.
use Rattle.std.proofs.Common.{◌≡◌, ◌≢◌, ℕ, zero, suc, ◌+◌, ◌*◌, ◌<◌, List, [], ◌∷◌, ◌++◌, length, get_or, set, Some, refl, sym, ap, ◌∙◌, subst, arith, length-set, length-append, get_or-set_same, get_or-set_other}
use mathlib.Core.Option.{some, none}
use mathlib.Core.Logic.{dite}
use native.Mathlib.Decide.{ℕ_discrete}
use lib.ListN.{get_elem?}
use Rattle.atomic_table.specs.Table.{State, Step, step, keeps, Allows}
use Rattle.slot_model.specs.declared.layout.Layout.{Layout}
use Rattle.slot_model.specs.History.{idle, at, words_of, idle_in, heap_after}
use Rattle.slot_table.specs.declared.view.SeatView.{SeatView}
use Rattle.slot_table.specs.declared.view.Role.TheVariants.{Draft}
use Rattle.slot_table.specs.Addresses.{count_place, side_place, data_place, table_size}
use Rattle.slot_table.specs.Numbers.{total, one, times}
use Rattle.slot_table.specs.Seats.{in_option, weight_on, closing_on, free_on, place_on, credits_in}
use Rattle.slot_table.specs.Holdings.{SlotOk, Holds}
use Rattle.slot_table.specs.Views.{Sat}
use Rattle.slot_table.specs.DraftSteps.{Drafts}
use Rattle.slot_table.proofs.Sums.{total_at, total_two}
use Rattle.slot_table.proofs.Rows.{apart, within, data_not_count, data_not_side}
use Rattle.slot_table.proofs.Turns.{turned, total_same, slot_else, seats_after, owned_set}
use Rattle.slot_table.proofs.Kept.{one-same, idle-is, draft_kept}

-- reading a list that grew by one
pub get_or-snoc : (ws : List ℕ) (x j : ℕ) → j < length ws → get_or (ws ++ x ∷ []) j 0 ≡ get_or ws j 0
get_or-snoc [] x j h = absurd (omega arith)
get_or-snoc (w ∷ ws) x zero h = refl
get_or-snoc (w ∷ ws) x (suc j) h = get_or-snoc ws x j (omega arith)

pub get_or-end : (ws : List ℕ) (x : ℕ) → get_or (ws ++ x ∷ []) (length ws) 0 ≡ x
get_or-end [] x = refl
get_or-end (w ∷ ws) x = get_or-end ws x

module _ (fits : List ℕ → List ℕ → Type 0) (k : Layout) (ls : List (List ℕ)) (u : SeatView) (d n : ℕ) where
  abbrev v : SeatView
  v = record u { role = Draft; draft = Some d }

  abbrev w : SeatView
  w = record v { written = u.written ++ n ∷ [] }

  abbrev wide : ℕ
  wide = k.capacity_words + 2

  abbrev o : ℕ
  o = 3 + length u.written

  fills_core : (s : State ℕ SeatView) → Holds fits k ls s → (id : ℕ) → get_elem? s.views id ≡ some v → length u.written < k.capacity_words → Holds fits k ls (turned s (d * wide + o) n id w)
  fills_core s r id at_id room =
      let seat = r.seats id v at_id in
      let h = heap_after k r.all in
      let i : ℕ = d * wide + o in
      let d_below : d < k.slots = seat.draft_is.0 in
      let here = r.slots d d_below in
      let empty : u.free ≡ [] = seat.role_is.3 in
      let free_here : free_on d v ≡ 1 = ap (λ l. times d l + one d d) empty ∙ (let e = one-same d in omega arith) in
      let free_total = total_at (free_on d) s.views id v at_id in
      let is_idle : at h d ≡ idle = idle-is (at h d) (omega (arith, here.frees)) in
      let one_idle : idle_in (at h d) ≡ 1 = ap idle_in is_idle in
      let in_table : i < length s.words = omega (arith, r.wide, within wide k.slots d o d_below (omega arith)) in
      let same : (f : SeatView → ℕ) → f w ≡ f v → total f (set s.views id w) ≡ total f s.views = λ f e. total_same f s.views id v w at_id e in
      let at_i : data_place k d (length u.written) ≡ i = omega arith in
      let apart_ref : (y : ℕ) → count_place k y ≢ i = λ y e. data_not_count k d (length u.written) y room (at_i ∙ sym e) in
      let apart_side : (y : ℕ) → side_place k y ≢ i = λ y e. data_not_side k d (length u.written) y room (at_i ∙ sym e) in
      record {
        all = r.all;
        legal = r.legal;
        wide = length-set s.words i n ∙ r.wide;
        zero_is = get_or-set_other s.words i 0 n 0 (λ q. let z : 0 ≡ i = q in omega arith) ∙ r.zero_is;
        rows = λ j below. get_or-set_other s.words i (table_size k + j) n 0 (λ q. let z : table_size k + j ≡ i = q in let t = within wide k.slots d o d_below (omega arith) in omega (arith, t)) ∙ r.rows j below;
        owner = owned_set r.all s.views id v w at_id (λ a f. (tt, f)) r.owner;
        slots = λ y y_below. dite (ℕ_discrete y d)
            (λ (is : y ≡ d). subst (λ (z : ℕ). SlotOk k (set s.words i n) (set s.views id w) z (at h z)) (sym is) record {
              count = get_or-set_other s.words i (count_place k d) n 0 (apart_ref d) ∙ here.count;
              side_shown = get_or-set_other s.words i (side_place k d) n 0 (apart_side d) ∙ here.side_shown;
              content = λ j below. absurd (let none_there : length (words_of (at h d)) ≡ 0 = ap (λ c. length (words_of c)) is_idle in omega arith);
              room = here.room;
              alive = here.alive;
              weights = same (weight_on d) refl ∙ here.weights;
              closings = same (closing_on d) refl ∙ here.closings;
              frees = same (free_on d) refl ∙ here.frees;
            })
            (λ (ne : ¬ (y ≡ d)). slot_else fits k ls s.words n s.views (set s.views id w) d o y (at h y) (λ q. ne (sym q)) (omega arith) (omega arith) (same (weight_on y) refl) (same (closing_on y) refl) (same (free_on y) refl) (r.slots y y_below));
        frees_below = λ y above. same (free_on y) refl ∙ r.frees_below y above;
        credits = same credits_in refl ∙ r.credits;
        places = λ m. same (place_on m) refl ∙ r.places m;
        seats = seats_after fits k ls (set s.words i n) r.all s.views id w
            record {
              front_is = seat.front_is;
              told_is = seat.told_is;
              places_below = seat.places_below;
              literals_are = seat.literals_are;
              draft_is = (
                d_below,
                (let longer = length-append u.written (n ∷ []) in omega arith),
                λ j below. dite (ℕ_discrete j (length u.written))
                    (λ (is : j ≡ length u.written). subst (λ (z : ℕ). get_or (set s.words i n) (data_place k d z) 0 ≡ get_or (u.written ++ n ∷ []) z 0) (sym is) (ap (λ (z : ℕ). get_or (set s.words i n) z 0) at_i ∙ (get_or-set_same s.words i n 0 in_table ∙ sym (get_or-end u.written n))))
                    (λ (ne : ¬ (j ≡ length u.written)). let earlier : j < length u.written = (let longer = length-append u.written (n ∷ []) in omega arith) in
                    get_or-set_other s.words i (data_place k d j) n 0 (λ q. ne (let q' : data_place k d j ≡ i = q in omega arith)) ∙ (seat.draft_is.2 j earlier ∙ sym (get_or-snoc u.written n j earlier))),
              );
              role_is = seat.role_is;
            }
            (λ j x ne at_j. let was = r.seats j x at_j in record {
              front_is = was.front_is;
              told_is = was.told_is;
              places_below = was.places_below;
              literals_are = was.literals_are;
              draft_is = draft_kept k s.words i n x x.draft (λ y q drafted below e. let two = total_two (free_on d) s.views id j v x (λ z. ne (sym z)) at_id at_j in
                  let not_d : y ≢ d = (λ z. let there : in_option d x.draft ≡ 1 = ap (in_option d) drafted ∙ (ap (one d) z ∙ one-same d) in omega (arith, two, here.frees, one_idle, free_here, there)) in
                  apart wide y d (3 + q) o not_d (omega arith) (omega arith) (omega arith) (omega arith) (let e' : data_place k y q ≡ i = e in omega arith)) was.draft_is;
              role_is = was.role_is;
            });
      }

  fills_at : (slots id : ℕ) (cs : List (ℕ × ℕ)) (st : Step ℕ) → length u.written < k.capacity_words → Allows (Holds fits k ls) slots id (v, cs) (d * wide + o) (λ _. n) (λ _. Drafts st (v, cs) n)
  fills_at slots id cs st room s r flat at_id small = (w, keeps, tt, fills_core s r id at_id room, (refl, refl))

pub fills_allowed : (fits : List ℕ → List ℕ → Type 0) (k : Layout) (ls : List (List ℕ)) (slots id i n : ℕ) (me : Sat) (d : ℕ) → me.0.role ≡ Draft → me.0.draft ≡ Some d → length me.0.written < k.capacity_words → i ≡ data_place k d (length me.0.written)
    → Allows (Holds fits k ls) slots id me i (λ _. n) (λ _. Drafts (step slots i n 0 none) me n)
fills_allowed fits k ls slots id i n me d role is room at_i =
    let j : d * (k.capacity_words + 2) + (3 + length me.0.written) ≡ i = omega arith in
    subst (λ (z : Sat × ℕ). Allows (Holds fits k ls) slots id z.0 z.1 (λ _. n) (λ _. Drafts (step slots i n 0 none) z.0 n))
    (λ t. ((record me.0 { role = sym role t; draft = sym is t }, me.1), j t)) (fills_at fits k ls me.0 d n slots id me.1 (step slots i n 0 none) room)
