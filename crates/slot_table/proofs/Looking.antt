-- Loads that change nothing, and tell.
use Rattle.std.proofs.Common.{◌≡◌, ℕ, ◌<◌, ◌≤◌, List, length, get_or, refl, sym, ap, ◌∙◌, subst, arith, cond, lt_of_not-le, lt-ltb}
use Rattle.std.proofs.lemmas.List.{set-get_or}
use mathlib.Core.Option.{some, none}
use lib.ListN.{get_elem?}
use Rattle.atomic_table.specs.Table.{State, step, keeps, Allows}
use Rattle.atomic_table.proofs.Lists.{set_again}
use Rattle.slot_model.specs.declared.layout.Layout.{Layout}
use Rattle.slot_model.specs.History.{Slot, idle, held, closing, side_of, idle_in, at, heap_after}
use Rattle.slot_table.specs.declared.view.SeatView.{SeatView}
use Rattle.slot_table.specs.declared.view.Role.TheVariants.{Reference}
use Rattle.slot_table.specs.Addresses.{data_place}
use Rattle.slot_table.specs.Numbers.{times, Once}
use Rattle.slot_table.specs.Seats.{free_on, credits_in}
use Rattle.slot_table.specs.Holdings.{RoleOk, Holds}
use Rattle.slot_table.specs.Views.{Sat}
use Rattle.slot_table.specs.ReferenceSteps.{Reads}
use Rattle.slot_table.specs.PassSteps.{Tells}
use Rattle.slot_table.proofs.Sums.{total_at}
use mathlib.Core.Logic.{dite}
use native.Mathlib.Decide.{dec_le}
use Rattle.slot_table.proofs.Turns.{turned}

idle-most : (c : Slot) → idle_in c ≤ 1
idle-most idle = omega arith
idle-most (held n ws d) = omega arith
idle-most (closing d) = omega arith
idle-most (side_of x ws) = omega arith

module _ (fits : List ℕ → List ℕ → Type 0) (k : Layout) (ls : List (List ℕ)) where
  pub unmoved : (s : State ℕ SeatView) → Holds fits k ls s → (id i : ℕ) (v : SeatView) → get_elem? s.views id ≡ some v → Holds fits k ls (turned s i (get_or s.words i 0) id v)
  unmoved s r id i v at_id = subst (λ (z : List ℕ × List SeatView). Holds fits k ls record { words = z.0; homes = s.homes; views = z.1 })
      (λ j. (sym (set-get_or s.words i 0) j, sym (set_again s.views id v at_id) j)) r

  pub reads_allowed : (slots id i : ℕ) (me : Sat) → me.0.role ≡ Reference → Allows (Holds fits k ls) slots id me i (λ n. n) (Reads (step slots i 0 0 none) me)
  reads_allowed slots id i me role s r flat at_id small =
      let seat = r.seats id me.0 at_id in let ok = subst (RoleOk k (heap_after k r.all) me.0) role seat.role_is in (
        me.0,
        keeps,
        tt,
        unmoved s r id i me.0 at_id,
        (
          refl,
          λ j where_is below.
              let here = (r.slots me.0.slot ok.below).content j (subst (λ l. j < length l) ok.knows below) in
              ap (λ (z : ℕ). get_or s.words z 0) (where_is ∙ ap (λ (l : Layout). data_place l me.0.slot j) ok.layout_is) ∙ (here ∙ ap (λ l. get_or l j 0) (sym ok.knows)),
        ),
      )

  pub once : (s : State ℕ SeatView) → (r : Holds fits k ls s) → (id : ℕ) (v : SeatView) → get_elem? s.views id ≡ some v → Once k.slots v.free
  once s r id v at_id x = let mine = total_at (free_on x) s.views id v at_id in dite (dec_le k.slots x)
      (λ (above : k.slots ≤ x). let none_there = r.frees_below x above in omega (arith, none_there, mine))
      (λ (h : ¬ (k.slots ≤ x)). let below : x < k.slots = lt_of_not-le h in let t = (r.slots x below).frees in let most = idle-most (at (heap_after k r.all) x) in let f : times x v.free ≤ 1 = omega (arith, t, most, mine) in subst (λ b. times x v.free ≤ cond b 1 0) (sym (lt-ltb x k.slots below)) f)

  pub tells_allowed : (slots id i : ℕ) (me : Sat) → me.0.layout ≡ k → Allows (Holds fits k ls) slots id me i (λ n. n) (Tells (step slots i 0 0 none) me)
  tells_allowed slots id i me layout_is s r flat at_id small = (
    me.0,
    keeps,
    tt,
    unmoved s r id i me.0 at_id,
    (
      refl,
      (r.seats id me.0 at_id).told_is,
      subst (λ (l : Layout). Once l.slots me.0.free) (sym layout_is) (once s r id me.0 at_id),
      subst (λ (l : Layout). me.0.credits ≤ l.credits) (sym layout_is) (let mine = total_at credits_in s.views id me.0 at_id in let all_are = r.credits in omega (arith, mine, all_are)),
    ),
  )
