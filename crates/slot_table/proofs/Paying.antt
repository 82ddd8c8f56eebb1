-- A credit is cut from a pass and joined into a reference, and a reference of weight 2 is cut in two.
use Rattle.std.proofs.Common.{◌≡◌, ℕ, ◌≤◌, false, true≢false, List, [], None, Option, Some, refl, sym, ◌∙◌, subst, arith, inl, inr}
use mathlib.Core.Logic.{dite}
use native.Mathlib.Decide.{ℕ_discrete}
use Rattle.atomic_table.specs.Table.{Splits, Joins}
use Rattle.atomic_table.proofs.Lists.{set_else}
use Rattle.slot_model.specs.declared.layout.Layout.{Layout}
use Rattle.slot_model.specs.History.{heap_after}
use Rattle.slot_table.specs.declared.view.SeatView.{SeatView}
use Rattle.slot_table.specs.declared.view.Role.TheVariants.{Share, Reference}
use Rattle.slot_table.specs.Holdings.{SideOk, Holds}
use Rattle.slot_table.specs.Views.{spent, longer}
use Rattle.slot_table.specs.PassSteps.{without_credit, credit}
use Rattle.slot_table.specs.ReferenceSteps.{paid, half, other_half}
use Rattle.slot_table.proofs.Kept.{weigh, weigh_not, weigh_none}
use Rattle.slot_table.proofs.Fronts.{longer_prefix, longer_whole, both_prefix}
use Rattle.slot_table.proofs.Cutting.{cut, merge}
use Rattle.slot_table.proofs.Below.{below-more}

module _ (fits : List ℕ → List ℕ → Type 0) (k : Layout) (ls : List (List ℕ)) where
  module _ (u : SeatView) where
    abbrev v : SeatView
    v = record u { role = Share; draft = None }

    credit_core : (id : ℕ) → 2 ≤ u.credits → Splits (Holds fits k ls) id v (without_credit v) (credit v)
    credit_core id rich s r at_id =
        let seat = r.seats id v at_id in
        cut fits k ls s r id v (without_credit v) (credit v) at_id record {
          weights = λ x. let z = weigh_none x 0 0 refl in omega (arith, z);
          closings = λ x. let z = weigh_none x 0 0 refl in omega (arith, z);
          frees = λ x. omega arith;
          credits = omega arith;
          places = λ m. omega arith;
        } (λ a. a) refl
        record { front_is = seat.front_is; told_is = seat.told_is; places_below = seat.places_below; literals_are = seat.literals_are; draft_is = tt; role_is = (seat.role_is.0, seat.role_is.1, omega arith, refl) }
        record { front_is = seat.front_is; told_is = (u.front, refl); places_below = λ n past. omega arith; literals_are = seat.literals_are; draft_is = tt; role_is = (seat.role_is.0, record { light = refl; shared = refl; not_bare = refl; no_side = refl }, omega arith, refl) }

  module _ (u u' : SeatView) where
    abbrev ref : SeatView
    ref = record u { role = Reference; draft = None }

    abbrev coin : SeatView
    coin = record u' { role = Share; draft = None; free = []; places = [] }

    pays_core : (id other : ℕ) → Joins (Holds fits k ls) id ref other coin (paid ref coin) spent
    pays_core id other s r at_id apart at_other =
        let seat = r.seats id ref at_id in
        let seat' = r.seats other coin (sym (set_else s.views id other (paid ref coin) apart) ∙ at_other) in
        let known = seat.role_is in
        let fronts = longer_prefix u.front u'.front r.all seat.front_is seat'.front_is in
        let each = both_prefix u.front u'.front fronts.1 in
        merge fits k ls s r id other ref coin (paid ref coin) spent at_id apart at_other record {
          weights = λ x. let a = weigh_none x u'.slot u'.weight seat'.role_is.1.light in let b = weigh_none x 0 0 refl in omega (arith, a, b);
          closings = λ x. let a = weigh_none x u'.slot 0 refl in let b = weigh_none x 0 0 refl in omega (arith, a, b);
          frees = λ x. omega arith;
          credits = omega arith;
          places = λ m. omega arith;
        } tt (λ e. longer_whole u.front u'.front r.all seat.front_is seat'.front_is (inl e)) (λ e. longer_whole u.front u'.front r.all seat.front_is seat'.front_is (inr e))
        record {
          front_is = fronts.0;
          told_is = fronts.1;
          places_below = below-more u.front (longer u.front u'.front) u.places each.0 seat.places_below;
          literals_are = seat.literals_are;
          draft_is = tt;
          role_is = record { layout_is = known.layout_is; below = known.below; weighs = known.weighs; pays = (let p = known.pays in omega (arith, p)); knows = known.knows; sole_is = known.sole_is; bare_is = known.bare_is; side_is = known.side_is };
        }
        record { front_is = (r.all, refl); told_is = ([], refl); places_below = λ n past. omega arith; literals_are = tt; draft_is = tt; role_is = (record { light = refl; shared = refl; not_bare = refl; no_side = refl }, refl, refl, refl, refl) }

  -- cut in two, each with weight 1
  module _ (u : SeatView) where
    abbrev twice : SeatView
    twice = record u { role = Reference; weight = 2; draft = None; sole = false; bare = false }

    halves_core : (id : ℕ) → 2 ≤ u.credits → Splits (Holds fits k ls) id twice (half twice) (other_half twice)
    halves_core id rich s r at_id =
        let seat = r.seats id twice at_id in let ok = seat.role_is in
        cut fits k ls s r id twice (half twice) (other_half twice) at_id record {
          weights = λ y. dite (ℕ_discrete y u.slot) (λ (q : y ≡ u.slot). let a = weigh y u.slot 1 q in let b = weigh y u.slot 2 q in omega (arith, a, b)) (λ (n : ¬ (y ≡ u.slot)). let a = weigh_not y u.slot 1 n in let b = weigh_not y u.slot 2 n in omega (arith, a, b));
          closings = λ y. let a = weigh_none y u.slot 0 refl in omega (arith, a);
          frees = λ y. omega arith;
          credits = omega arith;
          places = λ m. omega arith;
        } (λ a. a) refl
        record { front_is = seat.front_is; told_is = seat.told_is; places_below = seat.places_below; literals_are = seat.literals_are; draft_is = tt; role_is = record { layout_is = ok.layout_is; below = ok.below; weighs = (omega arith, omega arith); pays = omega arith; knows = ok.knows; sole_is = λ b. absurd (true≢false (sym b)); bare_is = λ b. absurd (true≢false (sym b)); side_is = half_side u.side ok.side_is } }
        record { front_is = seat.front_is; told_is = seat.told_is; places_below = λ n past. omega arith; literals_are = seat.literals_are; draft_is = tt; role_is = record { layout_is = ok.layout_is; below = ok.below; weighs = (omega arith, omega arith); pays = omega arith; knows = ok.knows; sole_is = λ b. absurd (true≢false (sym b)); bare_is = λ b. absurd (true≢false (sym b)); side_is = other_side u.side ok.side_is } }
      where
        half_side : (d : Option ℕ) → SideOk k (heap_after k r.all) twice d → SideOk k (heap_after k r.all) (half twice) d
        half_side None ok = tt
        half_side (Some e) ok = ok

        other_side : (d : Option ℕ) → SideOk k (heap_after k r.all) twice d → SideOk k (heap_after k r.all) (other_half twice) d
        other_side None ok = tt
        other_side (Some e) ok = ok

pub credit_allowed : (fits : List ℕ → List ℕ → Type 0) (k : Layout) (ls : List (List ℕ)) (id : ℕ) (v : SeatView) → v.role ≡ Share → v.draft ≡ None → 2 ≤ v.credits → Splits (Holds fits k ls) id v (without_credit v) (credit v)
credit_allowed fits k ls id v role no_draft rich = subst (λ (z : SeatView). Splits (Holds fits k ls) id z (without_credit z) (credit z)) (λ t. record v { role = sym role t; draft = sym no_draft t }) (credit_core fits k ls v id rich)

pub pays_allowed : (fits : List ℕ → List ℕ → Type 0) (k : Layout) (ls : List (List ℕ)) (id other : ℕ) (v w : SeatView) → v.role ≡ Reference → v.draft ≡ None → w.role ≡ Share → w.draft ≡ None → w.free ≡ [] → w.places ≡ []
    → Joins (Holds fits k ls) id v other w (paid v w) spent
pays_allowed fits k ls id other v w role no_draft role' no_draft' no_slots no_places = subst (λ (z : SeatView × SeatView). Joins (Holds fits k ls) id z.0 other z.1 (paid z.0 z.1) spent)
    (λ t. (record v { role = sym role t; draft = sym no_draft t }, record w { role = sym role' t; draft = sym no_draft' t; free = sym no_slots t; places = sym no_places t })) (pays_core fits k ls v w id other)

pub halves_allowed : (fits : List ℕ → List ℕ → Type 0) (k : Layout) (ls : List (List ℕ)) (id : ℕ) (v : SeatView) → v.role ≡ Reference → v.weight ≡ 2 → v.draft ≡ None → v.sole ≡ false → v.bare ≡ false → 2 ≤ v.credits
    → Splits (Holds fits k ls) id v (half v) (other_half v)
halves_allowed fits k ls id v role light no_draft not_sole not_bare rich = subst (λ (z : SeatView). Splits (Holds fits k ls) id z (half z) (other_half z))
    (λ t. record v { role = sym role t; weight = sym light t; draft = sym no_draft t; sole = sym not_sole t; bare = sym not_bare t }) (halves_core fits k ls v id rich)
