-- A draft is joined into a reference, and what is left is cut off again as a share.
use Rattle.std.proofs.Common.{◌≡◌, ℕ, ◌≤◌, inl, inr, List, [], Some, None, refl, sym, ◌∙◌, subst, arith}
use Rattle.atomic_table.specs.Table.{Splits, Joins}
use Rattle.atomic_table.proofs.Lists.{set_else}
use Rattle.slot_model.specs.declared.layout.Layout.{Layout}
use Rattle.slot_table.specs.declared.view.SeatView.{SeatView}
use Rattle.slot_table.specs.declared.view.Role.TheVariants.{Draft, Reference}
use Rattle.slot_table.specs.Holdings.{Holds}
use Rattle.slot_table.specs.Views.{spent, longer}
use Rattle.slot_table.specs.SideSteps.{armed, unarmed, change}
use Rattle.slot_table.proofs.Kept.{weigh_none}
use Rattle.slot_table.proofs.Fronts.{longer_prefix, longer_whole, both_prefix}
use Rattle.slot_table.proofs.Cutting.{cut, merge}
use Rattle.slot_table.proofs.Sums.{times_append}
use Rattle.slot_table.proofs.Sharing.{times_frees}
use Rattle.slot_table.proofs.Below.{below-both}

module _ (fits : List ℕ → List ℕ → Type 0) (k : Layout) (ls : List (List ℕ)) where
  module _ (u u' : SeatView) (d : ℕ) where
    abbrev v : SeatView
    v = record u { role = Reference; draft = None; weight = 1; credits = 1 }

    abbrev w : SeatView
    w = record u' { role = Draft; draft = Some d; credits = 1; free = [] }

    arms_core : (id other : ℕ) → Joins (Holds fits k ls) id v other w (armed v w) spent
    arms_core id other s r at_id apart at_other =
        let seat = r.seats id v at_id in
        let seat' = r.seats other w (sym (set_else s.views id other (armed v w) apart) ∙ at_other) in
        let known = seat.role_is in
        let fronts = longer_prefix u.front u'.front r.all seat.front_is seat'.front_is in
        let each = both_prefix u.front u'.front fronts.1 in
        merge fits k ls s r id other v w (armed v w) spent at_id apart at_other record {
          weights = λ x. let a = weigh_none x u'.slot u'.weight seat'.role_is.1.light in let b = weigh_none x 0 0 refl in omega (arith, a, b);
          closings = λ x. let a = weigh_none x u'.slot 0 refl in let b = weigh_none x 0 0 refl in omega (arith, a, b);
          frees = λ x. omega arith;
          credits = omega arith;
          places = λ m. let t = times_append m u.places u'.places in omega (arith, t);
        } tt (λ e. longer_whole u.front u'.front r.all seat.front_is seat'.front_is (inl e)) (λ e. longer_whole u.front u'.front r.all seat.front_is seat'.front_is (inr e))
        record {
          front_is = fronts.0;
          told_is = fronts.1;
          places_below = below-both u.front u'.front (longer u.front u'.front) u.places u'.places each.0 each.1 seat.places_below seat'.places_below;
          literals_are = seat.literals_are;
          draft_is = seat'.draft_is;
          role_is = record { layout_is = known.layout_is; below = known.below; weighs = known.weighs; pays = omega arith; knows = known.knows; sole_is = known.sole_is; bare_is = known.bare_is; side_is = known.side_is };
        }
        record { front_is = (r.all, refl); told_is = ([], refl); places_below = λ n past. omega arith; literals_are = tt; draft_is = tt; role_is = (record { light = refl; shared = refl; not_bare = refl; no_side = refl }, refl, refl, refl, refl) }

  module _ (u : SeatView) where
    abbrev b : SeatView
    b = record u { role = Reference; weight = 1 }

    changes_core : (id : ℕ) → 2 ≤ u.credits → Splits (Holds fits k ls) id b (unarmed b) (change b)
    changes_core id rich s r at_id =
        let seat = r.seats id b at_id in let known = seat.role_is in
        cut fits k ls s r id b (unarmed b) (change b) at_id record {
          weights = λ x. let z = weigh_none x 0 0 refl in omega (arith, z);
          closings = λ x. let z = weigh_none x 0 0 refl in let y = weigh_none x u.slot 0 refl in omega (arith, z, y);
          frees = λ x. let t = times_frees x u.draft u.free in omega (arith, t);
          credits = omega arith;
          places = λ m. omega arith;
        } (λ a. a) refl
        record {
          front_is = seat.front_is;
          told_is = seat.told_is;
          places_below = seat.places_below;
          literals_are = seat.literals_are;
          draft_is = tt;
          role_is = record { layout_is = known.layout_is; below = known.below; weighs = known.weighs; pays = omega arith; knows = known.knows; sole_is = known.sole_is; bare_is = known.bare_is; side_is = known.side_is };
        }
        record { front_is = seat.front_is; told_is = (u.front, refl); places_below = λ n past. omega arith; literals_are = seat.literals_are; draft_is = tt; role_is = (known.layout_is, record { light = refl; shared = refl; not_bare = refl; no_side = refl }, omega arith, refl) }

pub arms_allowed : (fits : List ℕ → List ℕ → Type 0) (k : Layout) (ls : List (List ℕ)) (id other d : ℕ) (v w : SeatView) → v.role ≡ Reference → v.draft ≡ None → v.weight ≡ 1 → v.credits ≡ 1 → w.role ≡ Draft → w.draft ≡ Some d → w.credits ≡ 1 → w.free ≡ []
    → Joins (Holds fits k ls) id v other w (armed v w) spent
arms_allowed fits k ls id other d v w role no_draft light paid role' draft' paid' no_slots = subst (λ (z : SeatView × SeatView). Joins (Holds fits k ls) id z.0 other z.1 (armed z.0 z.1) spent)
    (λ t. (record v { role = sym role t; draft = sym no_draft t; weight = sym light t; credits = sym paid t }, record w { role = sym role' t; draft = sym draft' t; credits = sym paid' t; free = sym no_slots t })) (arms_core fits k ls v w d id other)

pub changes_allowed : (fits : List ℕ → List ℕ → Type 0) (k : Layout) (ls : List (List ℕ)) (id : ℕ) (v : SeatView) → v.role ≡ Reference → v.weight ≡ 1 → 2 ≤ v.credits → Splits (Holds fits k ls) id v (unarmed v) (change v)
changes_allowed fits k ls id v role light rich = subst (λ (z : SeatView). Splits (Holds fits k ls) id z (unarmed z) (change z)) (λ t. record v { role = sym role t; weight = sym light t }) (changes_core fits k ls v id rich)
