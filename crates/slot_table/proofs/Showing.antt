-- What contracts see of owners after a cut or a join, by what their seats know.
use Rattle.std.proofs.Common.{◌≡◌, ℕ, ◌+◌, ◌≤◌, Bool, List, [], ◌∷◌, ◌++◌, length, refl, sym, ap, ◌∙◌, subst, arith, None, Option, Some, false, suc, true, zero}
use Rattle.slot_model.specs.declared.event.Event.{Event}
use Rattle.slot_table.specs.declared.view.SeatView.{SeatView}
use Rattle.slot_table.specs.PassSteps.{but_last, without_draft, drafted, joined, without_credit, credit}
use Rattle.slot_table.specs.ReferenceSteps.{LeftBy, freed_by, opened, opening, with_found, paid, retaining, doubled, half, other_half}
use Rattle.slot_table.specs.Addresses.{found_in}
use Rattle.slot_table.specs.Views.{recorded}
use Rattle.slot_table.specs.Owners.{HeapId, PassSeen, RefSeen, Drafted, GivesUp, Joined, Released, Retained, with_side}
use Rattle.slot_table.specs.Ties.{IsPass, pass_seen, draft_seen, ref_seen, loose_seen}
use mathlib.Core.List.{IsPrefix}
use Rattle.slot_table.proofs.Counting.{but_last-snoc}
use Rattle.slot_table.proofs.Fronts.{both_prefix, longer_one}
use Rattle.slot_model.specs.declared.event.Event.TheVariants.{Retain, Detach}
use Rattle.slot_model.specs.declared.layout.Layout.{Layout}
use Rattle.slot_model.specs.History.{Legal}

pub draft_taken : (z : HeapId) (p : PassSeen) (v l r : SeatView) (fs : List ℕ) (n room credits : ℕ) → pass_seen z v ≡ p → l ≡ without_draft v → r ≡ drafted v → 2 ≤ credits → IsPass v (fs ++ n ∷ []) room credits → Drafted p (pass_seen z l) (draft_seen z r n)
draft_taken z p v l r fs n room credits seen left right rich i =
    let paid = i.credits_are in
    let here : Drafted (pass_seen z v) (pass_seen z (without_draft v)) (draft_seen z (drafted v) n) = record {
      free_are = i.free_is ∙ ap (λ (ys : List ℕ). ys ++ n ∷ []) (sym (ap but_last i.free_is ∙ but_last-snoc fs n));
      credits_are = omega (arith, paid, rich);
      pass_is = refl;
      draft_is = refl;
    } in subst (λ (t : PassSeen × SeatView × SeatView). Drafted t.0 (pass_seen z t.1) (draft_seen z t.2 n)) (λ j. (seen j, sym left j, sym right j)) here

-- it was the last
abbrev pub is_last : Option ℕ → Bool
is_last None = false
is_last (Some n) = true

-- the opening of a slot leaves the front and the places
opened_is : (n : ℕ) (v : SeatView) → ((opened n v).front ≡ v.front) × ((opened n v).places ≡ v.places)
opened_is zero v = (refl, refl)
opened_is (suc d) v = (refl, refl)

as_side : (x n : ℕ) → with_found x n ≡ with_side x (found_in n)
as_side x zero = refl
as_side x (suc d) = refl

-- a reference that was given up, and what it left is with a pass
pub was_released : (fits : List ℕ → List ℕ → Type 0) (z y : HeapId) (p q : PassSeen) (r : RefSeen) (v w : SeatView) (o : Option ℕ) (freed : List ℕ) → ref_seen z v ≡ r → v.layout ≡ z.layout → w.credits ≡ 1 → freed ≡ freed_by v.slot o → LeftBy fits v w o
    → Joined p (loose_seen y w freed) q → Released fits p r (is_last o) q
was_released fits z y p q r v w o freed seen layout one_credit freed_is left joined = subst (λ (s : RefSeen). Released fits p s (is_last o) q) seen record {
  front = w.front;
  places = w.places;
  freed = freed;
  events = by_found o left freed_is;
  fronts = joined.fronts;
  pass_is = joined.pass_is ∙ ap (λ (n : ℕ). let s : PassSeen = record p { front = q.front; places = p.places ++ w.places; free = p.free ++ freed; credits = p.credits + n } in s) one_credit;
}
  where
    at_layout : (es : List Event) (l : Layout) → l ≡ v.layout → Legal fits l es → Legal fits z.layout es
    at_layout es l same = subst (λ (k : Layout). Legal fits k es) (same ∙ layout)

    by_found : (o : Option ℕ) → LeftBy fits v w o → freed ≡ freed_by v.slot o → GivesUp fits z.layout v.front v.places v.slot (is_last o) w.front w.places freed
    by_found None left freed_is = let e = left.3 in (w.front, w.places, (left.0, left.1, ap (λ (y : SeatView). y.front) e, ap (λ (y : SeatView). y.places) e, subst (λ (es : List Event). Legal fits z.layout es) (ap (λ (y : SeatView). y.front) (sym e)) (at_layout _ _ refl left.2)), (refl, refl, freed_is))
    by_found (Some n) left freed_is = let m = left.0 in let first = left.1 in let then = left.2 in let e = first.3 in
        let slot_is : m.slot ≡ v.slot = ap (λ (y : SeatView). y.slot) e in let l : m.layout ≡ v.layout = ap (λ (y : SeatView). y.layout) e in
        let two = opened_is n (recorded m then.0 (opening n m)) in
        let front : w.front ≡ then.0 ++ Detach m.slot (found_in n) ∷ [] = ap (λ (y : SeatView). y.front) then.3 ∙ two.0 in
        let places : w.places ≡ m.places ++ length then.0 ∷ [] = ap (λ (y : SeatView). y.places) then.3 ∙ two.1 in (
          m.front,
          m.places,
          (first.0, first.1, ap (λ (y : SeatView). y.front) e, ap (λ (y : SeatView). y.places) e, subst (λ (es : List Event). Legal fits z.layout es) (ap (λ (y : SeatView). y.front) (sym e)) (at_layout _ _ refl first.2)),
          (
            found_in n,
            (then.0, then.1, front ∙ ap (λ (x : ℕ). then.0 ++ Detach x (found_in n) ∷ []) slot_is, places, subst (λ (es : List Event). Legal fits z.layout es) (sym front) (at_layout _ _ l then.2)),
            freed_is ∙ as_side v.slot n,
          ),
        )

-- a reference that was given a second time: a credit of the pass went to it
pub was_retained : (fits : List ℕ → List ℕ → Type 0) (z y : HeapId) (r : RefSeen) (q : PassSeen) (v p l m s : SeatView) (all : List Event) → ref_seen z v ≡ r → pass_seen y p ≡ q → v.layout ≡ z.layout → 2 ≤ p.credits
    → IsPrefix (paid v (credit p)).told (paid v (credit p)).front → IsPrefix (paid v (credit p)).front all → Legal fits v.layout (all ++ Retain v.slot ∷ [])
    → l ≡ half (doubled (recorded (paid v (credit p)) all (retaining v))) → m ≡ without_credit p → s ≡ other_half (doubled (recorded (paid v (credit p)) all (retaining v)))
    → Retained fits r q (ref_seen z l) (pass_seen y m) (ref_seen z s)
was_retained fits z y r q v p l m s all seen seen' layout rich tells begins legal l_is m_is s_is =
    let each = both_prefix v.front p.front tells in let twice : SeatView = doubled (recorded (paid v (credit p)) all (retaining v)) in
    let here : Retained fits (ref_seen z v) (pass_seen y p) (ref_seen z (half twice)) (pass_seen y (without_credit p)) (ref_seen z (other_half twice)) = record {
      seen = (paid v (credit p)).front;
      fronts = record { one = longer_one v.front p.front; first = each.0; second = each.1 };
      event = (all, begins, refl, refl, subst (λ (k : Layout). Legal fits k (all ++ Retain v.slot ∷ [])) layout legal);
      reference_is = refl;
      new_is = refl;
      credits_are = omega (arith, rich);
      pass_is = refl;
    } in subst (λ (t : RefSeen × PassSeen × SeatView × SeatView × SeatView). Retained fits t.0 t.1 (ref_seen z t.2) (pass_seen y t.3) (ref_seen z t.4)) (λ j. (seen j, seen' j, sym l_is j, sym m_is j, sym s_is j)) here
