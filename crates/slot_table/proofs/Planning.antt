-- A share is cut from a share, by a plan that was told before.
use Rattle.std.proofs.Common.{◌≡◌, ℕ, ◌+◌, ◌-◌, ◌<◌, ◌≤◌, eqb, List, length, take, drop, get_or, set, None, refl, sym, ap, ◌∙◌, subst, arith, take-append-drop}
use Rattle.std.proofs.lemmas.List.{set-get_or}
use mathlib.Core.Option.{none}
use prog.Atomic.{either}
use Rattle.atomic_table.specs.Table.{step, keeps, Allows, Splits}
use Rattle.atomic_table.proofs.Lists.{exchanged}
use Rattle.slot_model.specs.declared.layout.Layout.{Layout}
use Rattle.slot_table.specs.declared.view.SeatView.{SeatView}
use Rattle.slot_table.specs.declared.view.Role.TheVariants.{Share}
use Rattle.slot_table.specs.Numbers.{times, Once}
use Rattle.slot_table.specs.Holdings.{Holds}
use Rattle.slot_table.specs.Views.{Sat}
use Rattle.slot_table.specs.PassSteps.{Plans, without_share, share, planned}
use Rattle.slot_table.proofs.Kept.{weigh_none}
use Rattle.slot_table.proofs.Cutting.{cut, restate}
use Rattle.slot_table.proofs.Sums.{times_append}

pub times_cut : (x n : ℕ) (fs : List ℕ) → times x (take n fs) + times x (drop n fs) ≡ times x fs
times_cut x n fs = sym (times_append x (take n fs) (drop n fs)) ∙ ap (times x) (take-append-drop n fs)

module _ (fits : List ℕ → List ℕ → Type 0) (k : Layout) (ls : List (List ℕ)) (u : SeatView) where
  abbrev v : SeatView
  v = record u { role = Share; draft = None }

  plans_core : (slots id old new : ℕ) (cs : List (ℕ × ℕ)) → 0 < old → Allows (Holds fits k ls) slots id (v, cs) 0 (λ n. either (eqb n old) new n) (Plans (step slots 0 old new none) (v, cs))
  plans_core slots id old new cs pos s r flat at_id small =
      let w : SeatView = planned new old v in
      let seat = r.seats id v at_id in
      let done = restate fits k ls s r id v w at_id (λ x. refl) (λ x. refl) (λ x. refl) refl (λ m. refl) (λ a. a) refl
      record { front_is = seat.front_is; told_is = seat.told_is; places_below = seat.places_below; literals_are = seat.literals_are; draft_is = tt; role_is = seat.role_is } in (
        w,
        keeps,
        tt,
        exchanged (get_or s.words 0 0) old new (λ n. Holds fits k ls record { words = set s.words 0 n; homes = s.homes; views = set s.views id w }) (λ e. absurd (let z = r.zero_is in let e' : get_or s.words 0 0 ≡ old = e in omega arith))
            (λ _. subst (λ (ws : List ℕ). Holds fits k ls record { words = ws; homes = s.homes; views = set s.views id w }) (sym (set-get_or s.words 0 0)) done),
        (refl, refl),
      )

  module _ (c m : ℕ) where
    abbrev p : SeatView
    p = planned m c v

    cuts_core : (id : ℕ) → m ≤ length u.free → 1 ≤ c → c + 1 ≤ u.credits → Splits (Holds fits k ls) id p (without_share p) (share p)
    cuts_core id enough pos paid s r at_id =
        let seat = r.seats id p at_id in
        cut fits k ls s r id p (without_share p) (share p) at_id record {
          weights = λ x. let z = weigh_none x 0 0 refl in omega (arith, z);
          closings = λ x. let z = weigh_none x 0 0 refl in omega (arith, z);
          frees = λ x. let t = times_cut x (length u.free - m) u.free in omega (arith, t);
          credits = omega arith;
          places = λ n. omega arith;
        } (λ a. a) refl
        record { front_is = seat.front_is; told_is = seat.told_is; places_below = seat.places_below; literals_are = seat.literals_are; draft_is = tt; role_is = (seat.role_is.0, seat.role_is.1, omega arith, refl) }
        record { front_is = seat.front_is; told_is = (u.front, refl); places_below = λ n past. omega arith; literals_are = seat.literals_are; draft_is = tt; role_is = (seat.role_is.0, record { light = refl; shared = refl; not_bare = refl; no_side = refl }, pos, refl) }

pub plans_allowed : (fits : List ℕ → List ℕ → Type 0) (k : Layout) (ls : List (List ℕ)) (slots id old new : ℕ) (me : Sat) → me.0.role ≡ Share → me.0.draft ≡ None → 0 < old → Allows (Holds fits k ls) slots id me 0 (λ n. either (eqb n old) new n) (Plans (step slots 0 old new none) me)
plans_allowed fits k ls slots id old new me role no_draft pos = subst (λ (z : Sat). Allows (Holds fits k ls) slots id z 0 (λ n. either (eqb n old) new n) (Plans (step slots 0 old new none) z))
    (λ t. (record me.0 { role = sym role t; draft = sym no_draft t }, me.1)) (plans_core fits k ls me.0 slots id old new me.1 pos)

pub cuts_allowed : (fits : List ℕ → List ℕ → Type 0) (k : Layout) (ls : List (List ℕ)) (id c m : ℕ) (v : SeatView) → v.role ≡ Share → v.draft ≡ None → v.planned_slots ≡ m → v.planned_credits ≡ c → m ≤ length v.free → 1 ≤ c → c + 1 ≤ v.credits → Splits (Holds fits k ls) id v (without_share v) (share v)
cuts_allowed fits k ls id c m v role no_draft slots_are credits_are enough pos paid = subst (λ (z : SeatView). Splits (Holds fits k ls) id z (without_share z) (share z))
    (λ t. record v { role = sym role t; draft = sym no_draft t; planned_slots = sym slots_are t; planned_credits = sym credits_are t }) (cuts_core fits k ls v c m id enough pos paid)

pub once_cut : (n m : ℕ) (fs : List ℕ) → Once n fs → Once n (take m fs) × Once n (drop m fs)
once_cut n m fs once = ((λ x. let t = times_cut x m fs in let o = once x in omega (arith, t, o)), (λ x. let t = times_cut x m fs in let o = once x in omega (arith, t, o)))
