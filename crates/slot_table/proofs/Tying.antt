-- A seat stays tied to its heap, and what an owner's value says of its seat goes from step to step.
use Rattle.std.proofs.Common.{inl, Option, zero, suc, ◌≡◌, ◌≤◌, ℕ, ◌+◌, ◌-◌, Bool, List, [], ◌∷◌, ◌++◌, length, Some, None, true, refl, sym, ap, ◌∙◌, subst, arith, drop, take}
use mathlib.Core.List.{IsPrefix}
use Rattle.atomic_table.specs.declared.shared.Seat.{Seat}
use Rattle.slot_model.specs.declared.event.Event.{Event}
use Rattle.slot_table.specs.declared.view.SeatView.{SeatView}
use Rattle.slot_table.specs.Numbers.{Once, Below}
use Rattle.slot_table.specs.ReferenceSteps.{LeftBy, freed_by, with_found, opening, opened}
use Rattle.slot_table.specs.PassSteps.{last_of, but_last, without_draft, drafted, joined, beside, met_share, planned, share, without_share}
use Rattle.slot_table.specs.Views.{frees_of, recorded, number_in, longer}
use Rattle.slot_table.specs.DraftSteps.{published}
use Rattle.slot_table.specs.Owners.{HeapId}
use Rattle.slot_table.specs.Ties.{IsTied, IsPass, IsDraft, IsRef, IsLoose}
use Rattle.slot_table.proofs.Below.{below-adds, below-both}
use Rattle.slot_table.proofs.Counting.{last_of-snoc, but_last-snoc, once_front, once_end}
use Rattle.slot_table.proofs.Ending.{begins}
use Rattle.slot_table.proofs.Planning.{once_cut}

pub tied_on : (z : HeapId) (s s' : Seat ℕ SeatView) → s'.table_id ≡ s.table_id → s'.me.1 ≡ [] → s'.me.0.layout ≡ s.me.0.layout → s'.me.0.literals ≡ s.me.0.literals → IsTied z s → IsTied z s'
tied_on z s s' same empty layout literals i = record { same = same ∙ i.same; empty = empty; layout_is = layout ∙ i.layout_is; literals_are = literals ∙ i.literals_are; laid = i.laid }

-- the same of a view that is known by an equation
pub is_pass_by : (v w : SeatView) (fs gs : List ℕ) (room room' credits : ℕ) → v ≡ w → fs ≡ gs → room ≡ room' → IsPass w gs room' credits → IsPass v fs room credits
is_pass_by v w fs gs room room' credits e f r i = record {
  role = ap (λ (z : SeatView). z.role) e ∙ i.role;
  no_draft = ap (λ (z : SeatView). z.draft) e ∙ i.no_draft;
  stake = i.stake;
  most = subst (λ (z : SeatView). credits ≤ z.layout.credits) (sym e) i.most;
  credits_are = ap (λ (z : SeatView). z.credits) e ∙ i.credits_are;
  free_is = ap (λ (z : SeatView). z.free) e ∙ (i.free_is ∙ sym f);
  once = subst (λ (z : SeatView). Once z.layout.slots fs) (sym e) (subst (Once w.layout.slots) (sym f) i.once);
  roomy = subst (λ (z : SeatView). z.layout.slots ≤ room) (sym e) (subst (λ (m : ℕ). w.layout.slots ≤ m) (sym r) i.roomy);
  below_front = subst (λ (z : SeatView). Below z.front z.places) (sym e) i.below_front;
}

-- a pass that gave its last slot, and a credit, to a draft
pub pass_without_draft : (v : SeatView) (fs : List ℕ) (n room credits : ℕ) → 2 ≤ credits → IsPass v (fs ++ n ∷ []) room credits → IsPass (without_draft v) fs room (credits - 1)
pass_without_draft v fs n room credits rich i = let most = i.most in record {
  role = i.role;
  no_draft = i.no_draft;
  stake = omega arith;
  most = omega (arith, most);
  credits_are = ap (λ (z : ℕ). z - 1) i.credits_are;
  free_is = ap but_last i.free_is ∙ but_last-snoc fs n;
  once = once_front _ fs n i.once;
  roomy = i.roomy;
  below_front = i.below_front;
}

pub draft_from : (v : SeatView) (fs : List ℕ) (n room credits : ℕ) → IsPass v (fs ++ n ∷ []) room credits → IsDraft (drafted v) n 0
draft_from v fs n room credits i = record {
  role = refl;
  draft_is = ap (λ (z : ℕ). Some z) (ap last_of i.free_is ∙ last_of-snoc fs n);
  below = once_end _ fs n i.once;
  count_is = refl;
  room = omega arith;
  one_credit = refl;
  no_slots = refl;
  below_front = λ m past. omega arith;
}

-- the same of a view that is known by an equation
pub is_draft_by : (v w : SeatView) (slot count : ℕ) → v ≡ w → IsDraft w slot count → IsDraft v slot count
is_draft_by v w slot count e = subst (λ (z : SeatView). IsDraft z slot count) (sym e)

pub is_ref_by : (fits : List ℕ → List ℕ → Type 0) (v w : SeatView) (slot : ℕ) (sole bare : Bool) (side : Option ℕ) → v ≡ w → IsRef fits w slot sole bare side → IsRef fits v slot sole bare side
is_ref_by fits v w slot sole bare side e = subst (λ (z : SeatView). IsRef fits z slot sole bare side) (sym e)

-- a draft that was published
pub ref_from : (fits : List ℕ → List ℕ → Type 0) (v : SeatView) (slot count : ℕ) (all : List Event) (e : Event) → IsPrefix v.front all → IsDraft v slot count → IsRef fits (published (recorded v all e)) slot true true None
ref_from fits v slot count all e begins i = let words = i.count_is in let room = i.room in record {
  role = refl;
  slot_is = ap number_in i.draft_is;
  below = i.below;
  room = omega (arith, words, room);
  one_credit = i.one_credit;
  no_slots = i.no_slots;
  no_draft = refl;
  light = refl;
  sole_is = refl;
  bare_is = refl;
  side_is = refl;
  bare_sole = λ _. refl;
  bare_alone = λ _. refl;
  side_known = tt;
  below_front = below-adds v.front all e v.places begins i.below_front;
}

-- a pass that took in a share or a draft, once a load has told that the fronts were of one history, and that no slot stands twice
pub pass_joined : (v w : SeatView) (fs gs : List ℕ) (room credits more : ℕ) → IsPrefix v.front (longer v.front w.front) → IsPrefix w.front (longer v.front w.front) → Once v.layout.slots (v.free ++ frees_of w.draft w.free) → v.credits + w.credits ≤ v.layout.credits
    → IsLoose w gs more → IsPass v fs room credits → IsPass (joined v w) (fs ++ gs) room (credits + more)
pass_joined v w fs gs room credits more first second once most o i = let mine = i.credits_are in let theirs = o.credits_are in let stake = i.stake in
    let list : v.free ++ frees_of w.draft w.free ≡ fs ++ gs = (λ t. i.free_is t ++ o.free_is t) in record {
      role = i.role;
      no_draft = i.no_draft;
      stake = omega (arith, stake);
      most = omega (arith, mine, theirs, most);
      credits_are = λ t. mine t + theirs t;
      free_is = list;
      once = subst (Once v.layout.slots) list once;
      roomy = i.roomy;
      below_front = below-both v.front w.front (longer v.front w.front) v.places w.places first second i.below_front o.below_front;
    }

-- a reference that was given up leaves a share with its credit, and with the slots that it freed
pub loose_after : (fits : List ℕ → List ℕ → Type 0) (v w : SeatView) (slot : ℕ) (sole bare : Bool) (side : Option ℕ) (o : Option ℕ) → LeftBy fits v w o → IsRef fits v slot sole bare side → IsLoose w (freed_by slot o) 1
loose_after fits v w slot sole bare side None left i = subst (λ (z : SeatView). IsLoose z [] 1) (sym left.3) record {
  left = inl (refl, i.no_draft);
  credits_are = i.one_credit;
  free_is = ap (λ (d : Option ℕ). frees_of d v.free) i.no_draft ∙ i.no_slots;
  below_front = below-adds v.front left.0 _ v.places left.1 i.below_front;
}
loose_after fits v w slot sole bare side (Some n) left i =
    let first = left.1 in let then = left.2 in
    let middle : Below left.0.front left.0.places = subst (λ (z : SeatView). Below z.front z.places) (sym first.3) (below-adds v.front first.0 _ v.places first.1 i.below_front) in
    let below = below-adds left.0.front then.0 (opening n left.0) left.0.places then.1 middle in
    let slot_is : left.0.slot ≡ slot = ap (λ (z : SeatView). z.slot) first.3 ∙ i.slot_is in
    let no_draft : left.0.draft ≡ None = ap (λ (z : SeatView). z.draft) first.3 ∙ i.no_draft in
    let no_slots : left.0.free ≡ [] = ap (λ (z : SeatView). z.free) first.3 ∙ i.no_slots in
    let one_credit : left.0.credits ≡ 1 = ap (λ (z : SeatView). z.credits) first.3 ∙ i.one_credit in
    subst (λ (z : SeatView). IsLoose z (with_found slot n) 1) (sym then.3) (by_word n left.0 then.0 (opening n left.0) slot_is no_draft no_slots one_credit below)
  where
    by_word : (n : ℕ) (m : SeatView) (all : List Event) (e : Event) → m.slot ≡ slot → m.draft ≡ None → m.free ≡ [] → m.credits ≡ 1 → Below (all ++ e ∷ []) (m.places ++ length all ∷ []) → IsLoose (opened n (recorded m all e)) (with_found slot n) 1
    by_word zero m all e slot_is no_draft no_slots one_credit below = record {
      left = inl (refl, no_draft);
      credits_are = one_credit;
      free_is = ap (λ (d : Option ℕ). frees_of d (m.slot ∷ m.free)) no_draft ∙ (λ t. slot_is t ∷ no_slots t);
      below_front = below;
    }
    by_word (suc d) m all e slot_is no_draft no_slots one_credit below = record {
      left = inl (refl, no_draft);
      credits_are = one_credit;
      free_is = ap (λ (o : Option ℕ). frees_of o (m.slot ∷ d ∷ m.free)) no_draft ∙ (λ t. slot_is t ∷ d ∷ no_slots t);
      below_front = below;
    }

-- the seat's layout and literals are as they were
pub left_layout : (fits : List ℕ → List ℕ → Type 0) (v w : SeatView) (o : Option ℕ) → LeftBy fits v w o → (w.layout ≡ v.layout) × (w.literals ≡ v.literals)
left_layout fits v w None left = (ap (λ (z : SeatView). z.layout) left.3, ap (λ (z : SeatView). z.literals) left.3)
left_layout fits v w (Some zero) left = (ap (λ (z : SeatView). z.layout) left.2.3 ∙ ap (λ (z : SeatView). z.layout) left.1.3, ap (λ (z : SeatView). z.literals) left.2.3 ∙ ap (λ (z : SeatView). z.literals) left.1.3)
left_layout fits v w (Some (suc d)) left = (ap (λ (z : SeatView). z.layout) left.2.3 ∙ ap (λ (z : SeatView). z.layout) left.1.3, ap (λ (z : SeatView). z.literals) left.2.3 ∙ ap (λ (z : SeatView). z.literals) left.1.3)

-- a pass that was cut from another, as planned, and what is left of that
pub pass_shared : (v : SeatView) (fs : List ℕ) (m c room room' credits : ℕ) → 1 ≤ c → c ≤ credits → v.layout.slots ≤ room → IsPass v fs room' credits → IsPass (share (planned m c v)) (drop (length fs - m) fs) room c
pass_shared v fs m c room room' credits pos few roomy i = let most = i.most in record {
  role = refl;
  no_draft = refl;
  stake = pos;
  most = omega (arith, few, most);
  credits_are = refl;
  free_is = ap (λ (l : List ℕ). drop (length l - m) l) i.free_is;
  once = (once_cut v.layout.slots (length fs - m) fs i.once).1;
  roomy = roomy;
  below_front = λ n past. omega arith;
}

pub pass_without_share : (v : SeatView) (fs : List ℕ) (m c room credits : ℕ) → c + 1 ≤ credits → IsPass v fs room credits → IsPass (without_share (planned m c v)) (take (length fs - m) fs) room (credits - c)
pass_without_share v fs m c room credits few i = let most = i.most in record {
  role = i.role;
  no_draft = i.no_draft;
  stake = omega arith;
  most = omega (arith, most);
  credits_are = ap (λ (z : ℕ). z - c) i.credits_are;
  free_is = ap (λ (l : List ℕ). take (length l - m) l) i.free_is;
  once = (once_cut v.layout.slots (length fs - m) fs i.once).0;
  roomy = i.roomy;
  below_front = i.below_front;
}

-- a pass that met a reference
pub pass_met : (v w : SeatView) (fs : List ℕ) (room credits : ℕ) → IsPrefix v.front (longer v.front w.front) → IsPrefix w.front (longer v.front w.front) → w.credits ≡ 1 → Below w.front w.places → IsPass v fs room credits → IsPass (met_share (beside v w)) fs room credits
pass_met v w fs room credits first second light below i = let mine = i.credits_are in record {
  role = refl;
  no_draft = refl;
  stake = i.stake;
  most = i.most;
  credits_are = omega (arith, mine, light);
  free_is = i.free_is;
  once = i.once;
  roomy = i.roomy;
  below_front = below-both v.front w.front (longer v.front w.front) v.places w.places first second i.below_front below;
}

pub above_zero : (n : ℕ) → (n ≡ 0 → ⊥) → n ≡ suc (n - 1)
above_zero zero not_zero = absurd (not_zero refl)
above_zero (suc n) not_zero = omega arith
