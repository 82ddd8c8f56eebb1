-- What a reference's value says of its seat goes from step to step.
use Rattle.std.proofs.Common.{◌≡◌, ◌<◌, ◌≤◌, inl, ℕ, zero, suc, ◌-◌, Bool, true, false, true≢false, eqb, List, [], ◌∷◌, ◌++◌, length, Option, Some, None, refl, sym, ap, ◌∙◌, subst, arith, eq-eqb}
use Rattle.std.specs.Prelude.{IfSome}
use mathlib.Core.List.{IsPrefix}
use Rattle.slot_model.specs.declared.event.Event.{Event}
use Rattle.slot_model.specs.declared.layout.Layout.{Layout}
use Rattle.slot_model.specs.History.{put}
use Rattle.slot_table.specs.declared.view.SeatView.{SeatView}
use Rattle.slot_table.specs.Numbers.{Below, Once}
use Rattle.slot_table.specs.Views.{recorded, frees_of}
use Rattle.slot_table.specs.Addresses.{found_in}
use Rattle.slot_table.specs.PassSteps.{beside, met_share, met_reference, without_credit, credit}
use Rattle.slot_table.specs.SideSteps.{IsSideKnown, looked, armed, placed, unarmed, change, sideless}
use Rattle.slot_table.specs.ReferenceSteps.{paid, doubled, half, other_half, asked, wrote, word_in}
use Rattle.slot_table.specs.Ties.{IsPass, IsDraft, IsRef, IsLoose}
use Rattle.slot_table.proofs.Below.{below-adds, below-more, below-both}
use Rattle.slot_table.proofs.Writing.{length-put}

-- a pass that gave a credit
pub pass_without_credit : (v : SeatView) (fs : List ℕ) (room credits : ℕ) → 2 ≤ credits → IsPass v fs room credits → IsPass (without_credit v) fs room (credits - 1)
pass_without_credit v fs room credits rich i = let most = i.most in record {
  role = i.role;
  no_draft = i.no_draft;
  stake = omega arith;
  most = omega (arith, most);
  credits_are = ap (λ (z : ℕ). z - 1) i.credits_are;
  free_is = i.free_is;
  once = i.once;
  roomy = i.roomy;
  below_front = i.below_front;
}

-- what is so of the value, if there is one
pub if_some : (o : Option ℕ) (P : ℕ → Type 0) → ((d : ℕ) → o ≡ Some d → P d) → IfSome o P
if_some None P each = tt
if_some (Some d) P each = each d refl

module _ (fits : List ℕ → List ℕ → Type 0) where
  -- a known side of a view with the same words
  pub known_on : (v w : SeatView) (side : Option ℕ) → w.layout ≡ v.layout → w.known ≡ v.known → w.side_words ≡ v.side_words → IfSome side (IsSideKnown fits v) → IfSome side (IsSideKnown fits w)
  known_on v w None layout known words ok = tt
  known_on v w (Some d) layout known words ok = record {
    below = subst (λ (l : Layout). d < l.slots) (sym layout) ok.below;
    room = subst (λ (z : List ℕ × Layout). length z.0 ≤ z.1.capacity_words) (λ t. (sym words t, sym layout t)) ok.room;
    fit = subst (λ (z : List ℕ × List ℕ). fits z.0 z.1) (λ t. (sym known t, sym words t)) ok.fit;
  }

  module _ (v : SeatView) (slot : ℕ) (sole bare : Bool) (side : Option ℕ) (all : List Event) (e : Event) where
    -- it asked whether it is the only one
    pub ref_asked : (n : ℕ) → IsPrefix v.front all → (v.sole ≡ true → n ≡ 1) → IsRef fits v slot sole bare side → IsRef fits (asked n (recorded v all e)) slot (eqb n 1) bare side
    ref_asked n begins knew i = record {
      role = i.role;
      slot_is = i.slot_is;
      below = i.below;
      room = i.room;
      one_credit = i.one_credit;
      no_slots = i.no_slots;
      no_draft = i.no_draft;
      light = i.light;
      sole_is = refl;
      bare_is = i.bare_is;
      side_is = i.side_is;
      bare_sole = λ b. eq-eqb n 1 (knew (i.sole_is ∙ i.bare_sole b));
      bare_alone = i.bare_alone;
      side_known = known_on v (asked n (recorded v all e)) side refl refl refl i.side_known;
      below_front = below-adds v.front all e v.places begins i.below_front;
    }

    -- it wrote a word
    pub ref_wrote : (place word j : ℕ) → IsPrefix v.front all → bare ≡ true → word_in place v ≡ j → j ≤ length v.known → j < v.layout.capacity_words → IsRef fits v slot sole bare side → IsRef fits (wrote place word (recorded v all e)) slot sole bare side
    ref_wrote place word j begins is_bare place_is low high i = record {
      role = i.role;
      slot_is = i.slot_is;
      below = i.below;
      room = subst (λ (m : ℕ). length (put v.known m word) ≤ v.layout.capacity_words) (sym place_is) (length-put v.known j word v.layout.capacity_words low high i.room);
      one_credit = i.one_credit;
      no_slots = i.no_slots;
      no_draft = i.no_draft;
      light = i.light;
      sole_is = i.sole_is;
      bare_is = i.bare_is;
      side_is = i.side_is;
      bare_sole = i.bare_sole;
      bare_alone = i.bare_alone;
      side_known = subst (λ (o : Option ℕ). IfSome o (IsSideKnown fits (wrote place word (recorded v all e)))) (sym (i.bare_alone is_bare)) tt;
      below_front = below-adds v.front all e v.places begins i.below_front;
    }

    -- it looked for its slot's side
    pub ref_looked : (n : ℕ) → IsPrefix v.front all → (v.bare ≡ true → n ≡ 0) → IfSome (found_in n) (IsSideKnown fits (looked n (recorded v all e))) → IsRef fits v slot sole bare side → IsRef fits (looked n (recorded v all e)) slot sole bare (found_in n)
    ref_looked n begins bare_none known i = record {
      role = i.role;
      slot_is = i.slot_is;
      below = i.below;
      room = i.room;
      one_credit = i.one_credit;
      no_slots = i.no_slots;
      no_draft = i.no_draft;
      light = i.light;
      sole_is = i.sole_is;
      bare_is = i.bare_is;
      side_is = refl;
      bare_sole = i.bare_sole;
      bare_alone = λ b. ap found_in (bare_none (i.bare_is ∙ b));
      side_known = known;
      below_front = below-adds v.front all e v.places begins i.below_front;
    }

    -- it was given a second time, and a credit of the pass p went to it
    module _ (p : SeatView) (begins : IsPrefix (paid v (credit p)).front all) (goes_on : IsPrefix v.front (paid v (credit p)).front) (i : IsRef fits v slot sole bare side) where
      abbrev twice : SeatView
      twice = doubled (recorded (paid v (credit p)) all e)

      pub ref_half : IsRef fits (half twice) slot false false side
      ref_half = let light = i.one_credit in record {
        role = i.role;
        slot_is = i.slot_is;
        below = i.below;
        room = i.room;
        one_credit = omega (arith, light);
        no_slots = i.no_slots;
        no_draft = i.no_draft;
        light = refl;
        sole_is = refl;
        bare_is = refl;
        side_is = i.side_is;
        bare_sole = λ b. absurd (true≢false (sym b));
        bare_alone = λ b. absurd (true≢false (sym b));
        side_known = known_on v (half twice) side refl refl refl i.side_known;
        below_front = below-adds (paid v (credit p)).front all e v.places begins (below-more v.front (paid v (credit p)).front v.places goes_on i.below_front);
      }

      pub ref_other_half : IsRef fits (other_half twice) slot false false side
      ref_other_half = record {
        role = i.role;
        slot_is = i.slot_is;
        below = i.below;
        room = i.room;
        one_credit = refl;
        no_slots = refl;
        no_draft = i.no_draft;
        light = refl;
        sole_is = refl;
        bare_is = refl;
        side_is = i.side_is;
        bare_sole = λ b. absurd (true≢false (sym b));
        bare_alone = λ b. absurd (true≢false (sym b));
        side_known = known_on v (other_half twice) side refl refl refl i.side_known;
        below_front = λ n past. omega arith;
      }

    -- a draft was offered as its slot's side
    module _ (w : SeatView) (d count : ℕ) (begins : IsPrefix (armed v w).front all) (first : IsPrefix v.front (armed v w).front) (second : IsPrefix w.front (armed v w).front) (i : IsRef fits v slot sole bare side) (draft : IsDraft w d count) where
      abbrev pub offered : ℕ → SeatView
      offered n = placed n (recorded (armed v w) all e)

      offered_below : Below (all ++ e ∷ []) ((v.places ++ w.places) ++ length all ∷ [])
      offered_below = below-adds (armed v w).front all e (v.places ++ w.places) begins (below-both v.front w.front (armed v w).front v.places w.places first second i.below_front draft.below_front)

      pub ref_won : IfSome (offered 0).side (IsSideKnown fits (offered 0)) → IsRef fits (unarmed (offered 0)) slot sole false (Some d)
      ref_won known = record {
        role = i.role;
        slot_is = i.slot_is;
        below = i.below;
        room = i.room;
        one_credit = refl;
        no_slots = refl;
        no_draft = refl;
        light = i.light;
        sole_is = i.sole_is;
        bare_is = refl;
        side_is = draft.draft_is;
        bare_sole = λ b. absurd (true≢false (sym b));
        bare_alone = λ b. absurd (true≢false (sym b));
        side_known = known_on (offered 0) (unarmed (offered 0)) (Some d) refl refl refl (subst (λ (o : Option ℕ). IfSome o (IsSideKnown fits (offered 0))) draft.draft_is known);
        below_front = offered_below;
      }

      pub ref_lost : (f : ℕ) → IfSome (offered (suc f)).side (IsSideKnown fits (offered (suc f))) → IsRef fits (unarmed (offered (suc f))) slot sole false (Some f)
      ref_lost f known = record {
        role = i.role;
        slot_is = i.slot_is;
        below = i.below;
        room = i.room;
        one_credit = refl;
        no_slots = refl;
        no_draft = refl;
        light = i.light;
        sole_is = i.sole_is;
        bare_is = refl;
        side_is = refl;
        bare_sole = λ b. absurd (true≢false (sym b));
        bare_alone = λ b. absurd (true≢false (sym b));
        side_known = known_on (offered (suc f)) (unarmed (offered (suc f))) (Some f) refl refl refl known;
        below_front = offered_below;
      }

      pub change_won : IsLoose (change (offered 0)) [] 1
      change_won = let mine = i.one_credit in let theirs = draft.one_credit in record { left = inl (refl, refl); credits_are = omega (arith, mine, theirs); free_is = i.no_slots; below_front = λ n past. omega arith }

      pub change_lost : (f : ℕ) → IsLoose (change (offered (suc f))) (d ∷ []) 1
      change_lost f = let mine = i.one_credit in let theirs = draft.one_credit in record {
        left = inl (refl, refl);
        credits_are = omega (arith, mine, theirs);
        free_is = (λ t. frees_of (draft.draft_is t) (i.no_slots t));
        below_front = λ n past. omega arith;
      }

    -- it met a pass, and its slot lost the side
    module _ (p : SeatView) (same : v.layout ≡ p.layout) (fs : List ℕ) (room credits : ℕ) (begins : IsPrefix (beside p v).front all) (first : IsPrefix p.front (beside p v).front) (second : IsPrefix v.front (beside p v).front) (o : IsPass p fs room credits) (i : IsRef fits v slot sole bare side) where
      abbrev pub parted : ℕ → SeatView
      parted n = sideless n (recorded (beside p v) all e)

      parted_below : Below (all ++ e ∷ []) ((p.places ++ v.places) ++ length all ∷ [])
      parted_below = below-adds (beside p v).front all e (p.places ++ v.places) begins (below-both p.front v.front (beside p v).front p.places v.places first second o.below_front i.below_front)

      pub ref_sideless : (n : ℕ) → sole ≡ true → IsRef fits (met_reference (parted n)) slot sole true None
      ref_sideless zero is_sole = record {
        role = refl;
        slot_is = i.slot_is;
        below = subst (λ (l : Layout). slot < l.slots) same i.below;
        room = subst (λ (l : Layout). length v.known ≤ l.capacity_words) same i.room;
        one_credit = refl;
        no_slots = refl;
        no_draft = o.no_draft;
        light = i.light;
        sole_is = i.sole_is;
        bare_is = refl;
        side_is = refl;
        bare_sole = λ _. is_sole;
        bare_alone = λ _. refl;
        side_known = tt;
        below_front = λ n past. omega arith;
      }
      ref_sideless (suc d) is_sole = record {
        role = refl;
        slot_is = i.slot_is;
        below = subst (λ (l : Layout). slot < l.slots) same i.below;
        room = subst (λ (l : Layout). length v.known ≤ l.capacity_words) same i.room;
        one_credit = refl;
        no_slots = refl;
        no_draft = o.no_draft;
        light = i.light;
        sole_is = i.sole_is;
        bare_is = refl;
        side_is = refl;
        bare_sole = λ _. is_sole;
        bare_alone = λ _. refl;
        side_known = tt;
        below_front = λ n past. omega arith;
      }

      pub pass_bare : IsPass (met_share (parted 0)) fs room credits
      pass_bare = let mine = o.credits_are in let theirs = i.one_credit in record {
        role = refl;
        no_draft = refl;
        stake = o.stake;
        most = o.most;
        credits_are = omega (arith, mine, theirs);
        free_is = o.free_is;
        once = o.once;
        roomy = o.roomy;
        below_front = parted_below;
      }

      pub pass_sideless : (d : ℕ) → Once p.layout.slots (parted (suc d)).free → IsPass (met_share (parted (suc d))) (fs ++ d ∷ []) room credits
      pass_sideless d once = let mine = o.credits_are in let theirs = i.one_credit in let list : p.free ++ d ∷ [] ≡ fs ++ d ∷ [] = ap (λ (l : List ℕ). l ++ d ∷ []) o.free_is in record {
        role = refl;
        no_draft = refl;
        stake = o.stake;
        most = o.most;
        credits_are = omega (arith, mine, theirs);
        free_is = list;
        once = subst (Once p.layout.slots) list once;
        roomy = o.roomy;
        below_front = parted_below;
      }
