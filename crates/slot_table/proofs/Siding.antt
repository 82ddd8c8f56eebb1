-- What contracts see of a reference and a pass after an install, and after a side was taken away.
use Rattle.std.proofs.Common.{◌≡◌, ℕ, zero, suc, ◌+◌, ◌-◌, List, [], ◌∷◌, ◌++◌, Some, None, refl, sym, ap, ◌∙◌, subst, arith, append-nil}
use mathlib.Core.List.{IsPrefix}
use Rattle.slot_model.specs.declared.event.Event.{Event}
use Rattle.slot_model.specs.declared.layout.Layout.{Layout}
use Rattle.slot_model.specs.History.{at, words_of, heap_after, Legal}
use Rattle.slot_table.specs.declared.view.SeatView.{SeatView}
use Rattle.slot_table.specs.Owners.{HeapId, PassSeen, DraftSeen, RefSeen, Joined, Offered, TakenAway}
use Rattle.slot_table.specs.Views.{recorded}
use Rattle.slot_table.specs.Addresses.{found_in}
use Rattle.slot_table.specs.ReferenceSteps.{opening}
use Rattle.slot_table.specs.PassSteps.{beside, met_share, met_reference}
use Rattle.slot_table.specs.SideSteps.{armed, installing, placed, unarmed, change, sideless}
use Rattle.slot_table.specs.Ties.{pass_seen, draft_seen, ref_seen, loose_seen}
use Rattle.slot_table.proofs.Fronts.{both_prefix, longer_one}

module _ (fits : List ℕ → List ℕ → Type 0) (z y y' : HeapId) (p q : PassSeen) (v w' : SeatView) (d : ℕ) (all : List Event) (layout : v.layout ≡ z.layout) where
  abbrev w : SeatView
  w = record w' { draft = Some d }

  abbrev after : ℕ → SeatView
  after n = placed n (recorded (armed v w) all (installing n (armed v w)))

  -- a pass takes in a share with a credit and no places
  takes_in : (m : ℕ) → m ≡ 1 → (f : List Event) (back : List ℕ) → Joined p (record { heap = y'; front = f; places = []; free = back; credits = m }) q → q ≡ record p { front = q.front; free = p.free ++ back; credits = p.credits + 1 }
  takes_in m one_is f back joined = joined.pass_is ∙ (λ t. record p { front = q.front; places = append-nil p.places t; free = p.free ++ back; credits = p.credits + one_is t })

  module _ (tells : IsPrefix (armed v w).told (armed v w).front) (begins : IsPrefix (armed v w).front all) where
    was_won : (m : ℕ) → m ≡ 1 → Legal fits v.layout (all ++ installing 0 (armed v w) ∷ []) → Joined p (record { heap = y'; front = all ++ installing 0 (armed v w) ∷ []; places = []; free = []; credits = m }) q
        → Offered fits (ref_seen z v) (draft_seen y w d) p None (ref_seen z (unarmed (after 0))) q
    was_won m one_is legal joined = let each = both_prefix v.front w.front tells in record {
      seen = (armed v w).front;
      fronts = record { one = longer_one v.front w.front; first = each.0; second = each.1 };
      event = (all, begins, refl, refl, subst (λ (k : Layout). Legal fits k (all ++ installing 0 (armed v w) ∷ [])) layout legal);
      reference_is = refl;
      passes = joined.fronts;
      pass_is = takes_in m one_is (all ++ installing 0 (armed v w) ∷ []) [] joined;
    }

    was_lost : (m : ℕ) → m ≡ 1 → (f : ℕ) → Legal fits v.layout (all ++ installing (suc f) (armed v w) ∷ []) → Joined p (record { heap = y'; front = all ++ installing (suc f) (armed v w) ∷ []; places = []; free = d ∷ []; credits = m }) q
        → Offered fits (ref_seen z v) (draft_seen y w d) p (Some f) (ref_seen z (unarmed (after (suc f)))) q
    was_lost m one_is f legal joined = let each = both_prefix v.front w.front tells in record {
      seen = (armed v w).front;
      fronts = record { one = longer_one v.front w.front; first = each.0; second = each.1 };
      event = (all, begins, refl, refl, subst (λ (k : Layout). Legal fits k (all ++ installing (suc f) (armed v w) ∷ [])) layout legal);
      reference_is = ap (λ (k : Layout). let s : RefSeen = record (ref_seen z (unarmed (after (suc f)))) { side_words = words_of (at (heap_after k (all ++ installing (suc f) (armed v w) ∷ [])) f) } in s) layout;
      passes = joined.fronts;
      pass_is = takes_in m one_is (all ++ installing (suc f) (armed v w) ∷ []) (d ∷ []) joined;
    }

-- the same by what the steps told
module _ (fits : List ℕ → List ℕ → Type 0) (z y y' : HeapId) (p q : PassSeen) (r : RefSeen) (dr : DraftSeen) (v w l s : SeatView) (d : ℕ) (all : List Event) where
  abbrev offer : ℕ → SeatView
  offer n = placed n (recorded (armed v w) all (installing n (armed v w)))

  pub offered_won : ref_seen z v ≡ r → draft_seen y w d ≡ dr → v.layout ≡ z.layout → w.draft ≡ Some d → IsPrefix (armed v w).told (armed v w).front → IsPrefix (armed v w).front all → Legal fits v.layout (all ++ installing 0 (armed v w) ∷ [])
      → l ≡ unarmed (offer 0) → s ≡ change (offer 0) → v.credits + w.credits - 1 ≡ 1 → Joined p (loose_seen y' s []) q → Offered fits r dr p None (ref_seen z l) q
  offered_won seen seen' layout draft tells begins legal l_is s_is paid joined = subst (λ (t : RefSeen × DraftSeen × SeatView). Offered fits t.0 t.1 p None (ref_seen z t.2) q) (λ j. (seen j, seen' j, sym l_is j))
      (subst (λ (x : SeatView). IsPrefix (armed v x).told (armed v x).front → IsPrefix (armed v x).front all → Legal fits v.layout (all ++ installing 0 (armed v x) ∷ []) → Joined p (loose_seen y' (change (placed 0 (recorded (armed v x) all (installing 0 (armed v x))))) []) q
      → Offered fits (ref_seen z v) (draft_seen y x d) p None (ref_seen z (unarmed (placed 0 (recorded (armed v x) all (installing 0 (armed v x)))))) q) (λ j. record w { draft = sym draft j })
      (λ a b c e. was_won fits z y y' p q v w d all layout a b (v.credits + w.credits - 1) paid c e) tells begins legal (subst (λ (x : SeatView). Joined p (loose_seen y' x []) q) s_is joined))

  pub offered_lost : (f : ℕ) → ref_seen z v ≡ r → draft_seen y w d ≡ dr → v.layout ≡ z.layout → w.draft ≡ Some d → IsPrefix (armed v w).told (armed v w).front → IsPrefix (armed v w).front all → Legal fits v.layout (all ++ installing (suc f) (armed v w) ∷ [])
      → l ≡ unarmed (offer (suc f)) → s ≡ change (offer (suc f)) → v.credits + w.credits - 1 ≡ 1 → Joined p (loose_seen y' s (d ∷ [])) q → Offered fits r dr p (Some f) (ref_seen z l) q
  offered_lost f seen seen' layout draft tells begins legal l_is s_is paid joined = subst (λ (t : RefSeen × DraftSeen × SeatView). Offered fits t.0 t.1 p (Some f) (ref_seen z t.2) q) (λ j. (seen j, seen' j, sym l_is j))
      (subst (λ (x : SeatView). IsPrefix (armed v x).told (armed v x).front → IsPrefix (armed v x).front all → Legal fits v.layout (all ++ installing (suc f) (armed v x) ∷ []) → Joined p (loose_seen y' (change (placed (suc f) (recorded (armed v x) all (installing (suc f) (armed v x))))) (d ∷ [])) q
      → Offered fits (ref_seen z v) (draft_seen y x d) p (Some f) (ref_seen z (unarmed (placed (suc f) (recorded (armed v x) all (installing (suc f) (armed v x)))))) q) (λ j. record w { draft = sym draft j })
      (λ a b c e. was_lost fits z y y' p q v w d all layout a b (v.credits + w.credits - 1) paid f c e) tells begins legal (subst (λ (x : SeatView). Joined p (loose_seen y' x (d ∷ [])) q) s_is joined))

-- a side was taken away
module _ (fits : List ℕ → List ℕ → Type 0) (z y : HeapId) (r : RefSeen) (q : PassSeen) (v p l m : SeatView) (all : List Event) where
  abbrev away : ℕ → SeatView
  away n = sideless n (recorded (beside p v) all (opening n (beside p v)))

  pub taken_away : (n : ℕ) → ref_seen z v ≡ r → pass_seen y p ≡ q → p.layout ≡ z.layout → v.credits ≡ 1 → IsPrefix (beside p v).told (beside p v).front → IsPrefix (beside p v).front all → Legal fits p.layout (all ++ opening n (beside p v) ∷ [])
      → m ≡ met_share (away n) → l ≡ met_reference (away n) → TakenAway fits r q (found_in n) (ref_seen z l) (pass_seen y m)
  taken_away n seen seen' layout paid tells begins legal m_is l_is = subst (λ (t : RefSeen × PassSeen × SeatView × SeatView). TakenAway fits t.0 t.1 (found_in n) (ref_seen z t.2) (pass_seen y t.3)) (λ j. (seen j, seen' j, sym l_is j, sym m_is j)) (by_word n legal)
    where
      same_credits : p.credits + v.credits - 1 ≡ p.credits
      same_credits = omega (arith, paid)

      by_word : (n : ℕ) → Legal fits p.layout (all ++ opening n (beside p v) ∷ []) → TakenAway fits (ref_seen z v) (pass_seen y p) (found_in n) (ref_seen z (met_reference (away n))) (pass_seen y (met_share (away n)))
      by_word zero legal = let each = both_prefix p.front v.front tells in record {
        seen = (beside p v).front;
        fronts = record { one = longer_one p.front v.front; first = each.0; second = each.1 };
        event = (all, begins, refl, refl, subst (λ (k : Layout). Legal fits k (all ++ opening 0 (beside p v) ∷ [])) layout legal);
        reference_is = refl;
        pass_is = λ t. record (pass_seen y (met_share (away 0))) { free = sym (append-nil p.free) t; credits = same_credits t };
      }
      by_word (suc d) legal = let each = both_prefix p.front v.front tells in record {
        seen = (beside p v).front;
        fronts = record { one = longer_one p.front v.front; first = each.0; second = each.1 };
        event = (all, begins, refl, refl, subst (λ (k : Layout). Legal fits k (all ++ opening (suc d) (beside p v) ∷ [])) layout legal);
        reference_is = refl;
        pass_is = λ t. record (pass_seen y (met_share (away (suc d)))) { credits = same_credits t };
      }
