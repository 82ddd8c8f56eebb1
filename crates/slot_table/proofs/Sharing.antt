-- A draft is cut from a share, and two shares are made one.
use Rattle.std.proofs.Common.{◌≡◌, ℕ, ◌+◌, ◌<◌, ◌≤◌, inl, inr, List, [], ◌∷◌, length, None, refl, sym, ◌∙◌, subst, arith, lt_of_not-le, Option, Some, ⊎_elim, ◌⊎◌}
use mathlib.Core.Logic.{dite}
use native.Mathlib.Decide.{dec_le}
use Rattle.atomic_table.specs.Table.{Splits, Joins}
use Rattle.atomic_table.proofs.Lists.{set_else}
use Rattle.slot_model.specs.declared.layout.Layout.{Layout}
use Rattle.slot_table.specs.declared.view.SeatView.{SeatView}
use Rattle.slot_table.specs.declared.view.Role.TheVariants.{Share, Draft}
use Rattle.slot_table.specs.Numbers.{times, one}
use Rattle.slot_table.specs.Seats.{free_on, closes, in_option}
use Rattle.slot_table.specs.Holdings.{Holds, LiteralsOk, Plain, RoleOk}
use Rattle.slot_table.specs.PassSteps.{last_of, but_last, without_draft, drafted, joined}
use Rattle.slot_table.specs.Views.{spent, frees_of, longer}
use Rattle.slot_table.proofs.Sums.{total_at, times_append}
use Rattle.slot_table.proofs.Kept.{one-same, weigh_none}
use Rattle.slot_table.proofs.Fronts.{longer_prefix, longer_whole, both_prefix}
use Rattle.slot_table.proofs.Below.{below-both}
use Rattle.slot_table.proofs.Cutting.{cut, merge}
use Rattle.slot_model.specs.History.{Heap, heap_after}
use Rattle.slot_table.specs.declared.view.Role.{Role}

times_last : (x : ℕ) (fs : List ℕ) → 0 < length fs → times x (but_last fs) + one x (last_of fs) ≡ times x fs
times_last x [] h = absurd (omega arith)
times_last x (f ∷ []) h = omega arith
times_last x (f ∷ g ∷ fs) h = let tail = times_last x (g ∷ fs) (omega arith) in omega (arith, tail)

pub times_frees : (x : ℕ) (o : Option ℕ) (fs : List ℕ) → times x (frees_of o fs) ≡ times x fs + in_option x o
times_frees x None fs = omega arith
times_frees x (Some d) fs = omega arith

module _ (fits : List ℕ → List ℕ → Type 0) (k : Layout) (ls : List (List ℕ)) where
  module _ (u : SeatView) where
    abbrev v : SeatView
    v = record u { role = Share; draft = None }

    drafts_core : (id : ℕ) → 0 < length u.free → 2 ≤ u.credits → Splits (Holds fits k ls) id v (without_draft v) (drafted v)
    drafts_core id some_free paid s r at_id =
        let seat = r.seats id v at_id in let d = last_of u.free in
        let last_is = times_last d u.free some_free in let one_is = one-same d in let in_total = total_at (free_on d) s.views id v at_id in
        let below : d < k.slots = dite (dec_le k.slots d) (λ (above : k.slots ≤ d). absurd (let none_there = r.frees_below d above in omega (arith, last_is, one_is, in_total, none_there))) (λ (h : ¬ (k.slots ≤ d)). lt_of_not-le h) in
        cut fits k ls s r id v (without_draft v) (drafted v) at_id record {
          weights = λ x. let z = weigh_none x 0 0 refl in omega (arith, z);
          closings = λ x. let z = weigh_none x 0 0 refl in omega (arith, z);
          frees = λ x. let t = times_last x u.free some_free in omega (arith, t);
          credits = omega arith;
          places = λ m. omega arith;
        } (λ a. a) refl
        record { front_is = seat.front_is; told_is = seat.told_is; places_below = seat.places_below; literals_are = seat.literals_are; draft_is = tt; role_is = (seat.role_is.0, seat.role_is.1, omega arith, refl) }
        record {
          front_is = seat.front_is;
          told_is = (u.front, refl);
          places_below = λ n past. omega arith;
          literals_are = seat.literals_are;
          draft_is = (below, omega arith, λ i h. absurd (omega arith));
          role_is = (seat.role_is.0, record { light = refl; shared = refl; not_bare = refl; no_side = refl }, omega arith, refl);
        }

    -- a share takes in what is left of another seat: a share, or a draft
    module _ (u' : SeatView) (ρ : Role) (left : Option ℕ) where
      abbrev w : SeatView
      w = record u' { role = ρ; draft = left }

      -- such a seat has no weight, is no closing seat, and has a credit
      pub record Loose : Type 0 where
        pub plain : (h : Heap) → RoleOk k h w ρ → Plain w × (1 ≤ u'.credits)
        pub opens : closes ρ ≡ 0
        pub knows : LiteralsOk ls w ρ → u'.literals ≡ ls

      joins_core : Loose → (id other : ℕ) → Joins (Holds fits k ls) id v other w (joined v w) spent
      joins_core loose id other s r at_id apart at_other =
          let seat = r.seats id v at_id in
          let seat' = r.seats other w (sym (set_else s.views id other (joined v w) apart) ∙ at_other) in
          let plain = (loose.plain (heap_after k r.all) seat'.role_is).0 in
          let fronts = longer_prefix u.front u'.front r.all seat.front_is seat'.front_is in
          let each = both_prefix u.front u'.front fronts.1 in
          merge fits k ls s r id other v w (joined v w) spent at_id apart at_other record {
            weights = λ x. let a = weigh_none x u'.slot u'.weight plain.light in let b = weigh_none x 0 0 refl in omega (arith, a, b);
            closings = λ x. let a = weigh_none x u'.slot (closes ρ) loose.opens in let b = weigh_none x 0 0 refl in let c = weigh_none x u.slot 0 refl in omega (arith, a, b, c);
            frees = λ x. let t = times_append x u.free (frees_of left u'.free) in let f = times_frees x left u'.free in omega (arith, t, f);
            credits = omega arith;
            places = λ m. let t = times_append m u.places u'.places in omega (arith, t);
          } tt (λ e. longer_whole u.front u'.front r.all seat.front_is seat'.front_is (inl e)) (λ e. longer_whole u.front u'.front r.all seat.front_is seat'.front_is (inr e))
          record {
            front_is = fronts.0;
            told_is = fronts.1;
            places_below = below-both u.front u'.front (longer u.front u'.front) u.places u'.places each.0 each.1 seat.places_below seat'.places_below;
            literals_are = seat.literals_are;
            draft_is = tt;
            role_is = (seat.role_is.0, seat.role_is.1, (let one_credit = seat.role_is.2 in omega arith), refl);
          }
          record { front_is = (r.all, refl); told_is = ([], refl); places_below = λ n past. omega arith; literals_are = tt; draft_is = tt; role_is = (record { light = refl; shared = refl; not_bare = refl; no_side = refl }, refl, refl, refl, refl) }

-- the same, for views that are known by equations
pub drafts_allowed : (fits : List ℕ → List ℕ → Type 0) (k : Layout) (ls : List (List ℕ)) (id : ℕ) (v : SeatView) → v.role ≡ Share → v.draft ≡ None → 0 < length v.free → 2 ≤ v.credits → Splits (Holds fits k ls) id v (without_draft v) (drafted v)
drafts_allowed fits k ls id v role no_draft some_free paid = subst (λ (z : SeatView). Splits (Holds fits k ls) id z (without_draft z) (drafted z)) (λ t. record v { role = sym role t; draft = sym no_draft t }) (drafts_core fits k ls v id some_free paid)

-- a share, or a draft of slot d
abbrev pub IsLeft : SeatView → Type 0
IsLeft w = ((w.role ≡ Share) × (w.draft ≡ None)) ⊎ ((d : ℕ) × (w.role ≡ Draft) × (w.draft ≡ Some d))

pub joins_allowed : (fits : List ℕ → List ℕ → Type 0) (k : Layout) (ls : List (List ℕ)) (id other : ℕ) (v w : SeatView) → v.role ≡ Share → v.draft ≡ None → IsLeft w → Joins (Holds fits k ls) id v other w (joined v w) spent
joins_allowed fits k ls id other v w role no_draft left = ⊎_elim
    (λ (t : (w.role ≡ Share) × (w.draft ≡ None)). lifted Share None t.0 t.1 record { plain = λ h ok. (ok.1, ok.2); opens = refl; knows = λ e. e })
    (λ (t : (d : ℕ) × (w.role ≡ Draft) × (w.draft ≡ Some d)). lifted Draft (Some t.0) t.1 t.2 record { plain = λ h ok. (ok.1, ok.2); opens = refl; knows = λ e. e })
    left
  where
    lifted : (ρ : Role) (o : Option ℕ) → w.role ≡ ρ → w.draft ≡ o → Loose fits k ls v w ρ o → Joins (Holds fits k ls) id v other w (joined v w) spent
    lifted ρ o role' draft' loose = subst (λ (z : SeatView × SeatView). Joins (Holds fits k ls) id z.0 other z.1 (joined z.0 z.1) spent)
        (λ t. (record v { role = sym role t; draft = sym no_draft t }, record w { role = sym role' t; draft = sym draft' t })) (joins_core fits k ls v w ρ o loose id other)
