use Rattle.std.proofs.Common.{rules, List, ◌≡◌, ◌+◌, ℕ, zero, suc, Some, None, true, [], ◌∷◌, ◌++◌, length, refl, sym, ap, ◌∙◌, subst, arith, length-append}
use Rattle.std.specs.Prelude.{IfSome}
use mathlib.Core.List.{IsPrefix}
use Rattle.slot_model.specs.declared.layout.Layout.{Layout}
use Rattle.slot_model.specs.declared.event.Event.{Event}
use Rattle.slot_model.specs.History.{Legal}
use Rattle.slot_table.specs.Ties.{IsTied}
use Rattle.slot_table.specs.declared.view.SeatView.{SeatView}
use Rattle.slot_table.specs.Addresses.{side_place}
use Rattle.slot_table.specs.Numbers.{Once}
use Rattle.slot_table.specs.Owners.{HeapId, PassSeen, RefSeen}
use Rattle.slot_table.specs.Views.{recorded}
use Rattle.slot_table.specs.ReferenceSteps.{opening}
use Rattle.slot_table.specs.PassSteps.{beside, met_share, met_reference}
use Rattle.slot_table.specs.SideSteps.{sideless}
use Rattle.slot_table.proofs.Reciting.{literal_allowed}
use Rattle.slot_table.proofs.Meeting.{meets_allowed, parts_allowed}
use Rattle.slot_table.proofs.Detaching.{detaches_allowed, sideless-keeps}
use Rattle.slot_table.proofs.Counting.{once_length}
use Rattle.slot_table.proofs.Offering.{found_none, found_some}
use Rattle.slot_table.proofs.Fronts.{both_prefix}
use Rattle.slot_table.proofs.Tying.{tied_on, is_pass_by}
use Rattle.slot_table.proofs.Referring.{pass_bare, pass_sideless, if_some}
use Rattle.slot_table.proofs.Siding.{taken_away}
use Rattle.slot_table.proofs.reference.Ref.detach.Given.{Over}
use Rattle.slot_table.proofs.reference.Ref.detach.Goals as goal
use Rattle.slot_table.proofs.reference.Ref.detach.Goals.{After-join_seat, After-split_seat-back}

-- the heap is one, and the reference's seat joined to the pass's is both
heaps_are : {a b y z : HeapId} → a ≡ y → y ≡ z → b ≡ z → a ≡ b
heaps_are mine same own = mine ∙ same ∙ sym own

beside_is : {a b w : SeatView} (p v : SeatView) → a ≡ p → b ≡ v → w ≡ beside a b → w ≡ beside p v
beside_is p v left mine joined = joined ∙ (λ t. beside (left t) (mine t))

-- the seat stays of its heap where the side is taken away
of_heap : (n : ℕ) (w : SeatView) → ((sideless n w).layout ≡ w.layout) × ((sideless n w).literals ≡ w.literals)
of_heap zero w = (refl, refl)
of_heap (suc d) w = (refl, refl)

-- ---- once the reference's seat is joined to the pass's
module _ (g : Over) (c : After-join_seat g) where
  one_heap : c.pass.inside.heap.now ≡ c.self.inside.heap.now
  one_heap = heaps_are (ap (λ (p : PassSeen). p.heap) c.pass.view_is) c.requires.heap (ap (λ (r : RefSeen). r.heap) c.self.view_is)

  both : c.join_seat.new.seat.me.0 ≡ beside c.pass.inside.seat.me.0 c.self.inside.seat.me.0
  both = beside_is _ _ (ap (λ m. m.0) c.split_seat-spare.ensures.2) (ap (λ s. s.me.0) c.replace-own.ensures.value) (ap (λ m. m.0) c.join_seat.ensures.2)

  same_table : c.join_seat.new.seat.table_id ≡ c.heap.inside.table.shared.table_id
  same_table = c.join_seat.ensures.0 ∙ c.split_seat-spare.ensures.0 ∙ c.pass.invariant.0.same ∙ ap (λ (z : HeapId). z.table) (one_heap ∙ sym c.heap.view_is)

-- ---- once the two are parted again: the word n showed the side
module _ (g : Over) (c : After-split_seat-back g) where
  abbrev v : SeatView
  v = c.self.inside.seat.me.0

  abbrev p : SeatView
  p = c.pass.inside.seat.me.0

  abbrev all : List Event
  all = c.swap-found.ensures.2.3.0

  joined_is : c.join_seat.new.seat.me.0 ≡ beside p v
  joined_is = beside_is _ _ (ap (λ m. m.0) c.split_seat-spare.ensures.2) (ap (λ s. s.me.0) c.replace-own.ensures.value) (ap (λ m. m.0) c.join_seat.ensures.2)

  begins : IsPrefix (beside p v).front all
  begins = subst (λ (z : SeatView). IsPrefix z.front all) joined_is c.swap-found.ensures.2.3.1

  joint : IsPrefix (beside p v).told (beside p v).front
  joint = subst (λ (z : SeatView). IsPrefix z.told z.front) joined_is c.swap-found.ensures.2.0

  each : IsPrefix p.front (beside p v).front × IsPrefix v.front (beside p v).front
  each = both_prefix p.front v.front joint

  pass_layout : p.layout ≡ c.self.inside.heap.now.layout
  pass_layout =
      let same : c.pass.inside.heap.now ≡ c.self.inside.heap.now = heaps_are (ap (λ (q : PassSeen). q.heap) c.pass.view_is) c.requires.heap (ap (λ (r : RefSeen). r.heap) c.self.view_is) in
      c.pass.invariant.0.layout_is ∙ ap (λ (z : HeapId). z.layout) same

  same_layout : v.layout ≡ p.layout
  same_layout = c.self.invariant.0.layout_is ∙ sym pass_layout

  module _ (n : ℕ) (is : c.swap-found.result ≡ n) where
    now : c.swap-found.new.seat.me.0 ≡ sideless n (recorded (beside p v) all (opening n (beside p v)))
    now = c.swap-found.ensures.2.3.3 ∙ (λ t. sideless (is t) (recorded (joined_is t) all (opening (is t) (joined_is t))))

    share : c.split_seat-back.new.seat.me.0 ≡ met_share (sideless n (recorded (beside p v) all (opening n (beside p v))))
    share = ap (λ m. m.0) c.split_seat-back.ensures.2 ∙ ap met_share now

    reference : c.split_seat-back.result.me.0 ≡ met_reference (sideless n (recorded (beside p v) all (opening n (beside p v))))
    reference = ap (λ m. m.0) c.split_seat-back.ensures.4 ∙ ap met_reference now

    legal : Legal g.A.Attach.fits (beside p v).layout (all ++ opening n (beside p v) ∷ [])
    legal = subst (λ (t : SeatView × ℕ). Legal g.A.Attach.fits t.0.layout (all ++ opening t.1 t.0 ∷ [])) (λ t. (joined_is t, is t)) c.swap-found.ensures.2.3.2

    tied : IsTied c.pass.inside.heap.now c.split_seat-back.new.seat
    tied =
        tied_on _ c.pass.inside.seat _ (c.split_seat-back.ensures.0 ∙ c.swap-found.ensures.0 ∙ c.join_seat.ensures.0 ∙ c.split_seat-spare.ensures.0)
        (ap (λ m. m.1) c.split_seat-back.ensures.2 ∙ c.swap-found.ensures.2.3.4 ∙ ap (λ m. m.1) c.join_seat.ensures.2 ∙ ap (λ m. m.1) c.split_seat-spare.ensures.2 ∙ c.pass.invariant.0.empty)
        (ap (λ (z : SeatView). z.layout) share ∙ (of_heap n _).0) (ap (λ (z : SeatView). z.literals) share ∙ (of_heap n _).1) c.pass.invariant.0

  -- the slot that the word shows comes behind the others
  once : (d : ℕ) → c.swap-found.result ≡ suc d → Once p.layout.slots (p.free ++ d ∷ [])
  once d is = subst (λ (z : SeatView × SeatView). Once z.0.layout.slots z.1.free) (λ t. (joined_is t, now (suc d) is t)) c.swap-found.ensures.2.2

pub split_seat-spare-requires : goal.split_seat-spare-requires
split_seat-spare-requires g c = let o = c.pass.invariant in
    let heaps : c.pass.inside.heap.now ≡ c.self.inside.heap.now = ap (λ (p : PassSeen). p.heap) c.pass.view_is ∙ (c.requires.heap ∙ sym (ap (λ (r : RefSeen). r.heap) c.self.view_is)) in
    let here = heaps ∙ sym c.heap.view_is in (
      o.0.same ∙ ap (λ (z : HeapId). z.table) here,
      search rules,
      literal_allowed g.A.Attach.fits _ _ _ _ (o.0.layout_is ∙ (ap (λ (z : HeapId). z.layout) here ∙ sym c.heap.invariant.layout_is)) (o.0.literals_are ∙ (ap (λ (z : HeapId). z.literals) here ∙ sym c.heap.invariant.literals_are)),
    )

pub join_seat-requires : goal.join_seat-requires
join_seat-requires g c = let i = c.self.invariant in let o = c.pass.invariant in let own = c.replace-own.ensures.value in let e = c.split_seat-spare.ensures in
    let heaps : c.pass.inside.heap.now ≡ c.self.inside.heap.now = ap (λ (p : PassSeen). p.heap) c.pass.view_is ∙ (c.requires.heap ∙ sym (ap (λ (r : RefSeen). r.heap) c.self.view_is)) in
    let left : c.split_seat-spare.new.seat.me.0 ≡ c.pass.inside.seat.me.0 = ap (λ m. m.0) e.2 in
    let mine : c.replace-own.result.me.0 ≡ c.self.inside.seat.me.0 = ap (λ s. s.me.0) own in (
      e.0 ∙ (o.0.same ∙ ap (λ (z : HeapId). z.table) (heaps ∙ sym c.heap.view_is)),
      ap (λ s. s.table_id) own ∙ (i.0.same ∙ sym (ap (λ (z : HeapId). z.table) c.heap.view_is)),
      ap (λ s. s.me.1) own ∙ i.0.empty,
      search rules,
      meets_allowed g.A.Attach.fits _ _ _ _ _ _ (ap (λ (v : SeatView). v.role) left ∙ o.1.role) (ap (λ (v : SeatView). v.draft) left ∙ o.1.no_draft)
          (ap (λ (v : SeatView). v.role) mine ∙ i.1.role) (ap (λ (v : SeatView). v.draft) mine ∙ i.1.no_draft) (ap (λ (v : SeatView). v.weight) mine ∙ i.1.light) (ap (λ (v : SeatView). v.credits) mine ∙ i.1.one_credit) (ap (λ (v : SeatView). v.free) mine ∙ i.1.no_slots),
    )

pub swap-found-requires : goal.swap-found-requires
swap-found-requires g c =
    let j = (goal.at.swap-found-requires g c).After-join_seat in
    let i = c.self.invariant in
    let o = c.pass.invariant in
    let same = c.heap.invariant.layout_is in
    let k = c.heap.inside.table.shared.key.layout in
    let joined = both g j in
    let place : c.side_place-place.result ≡ side_place k c.join_seat.new.seat.me.0.slot =
    c.side_place-place.ensures.0 ∙ (λ t. side_place (sym same t) ((sym i.1.slot_is ∙ sym (ap (λ (v : SeatView). v.slot) joined)) t)) in
    let is_sole : c.self.inside.seat.me.0.sole ≡ true = ap (λ (r : RefSeen). r.sole) c.self.view_is ∙ c.requires.sole in (
      same_table g j,
      search rules,
      detaches_allowed g.A.Attach.fits k _ _ _ _ _ (ap (λ (v : SeatView). v.role) joined) (ap (λ (v : SeatView). v.weight) joined ∙ i.1.light)
          (ap (λ (v : SeatView). v.draft) joined ∙ o.1.no_draft) (ap (λ (v : SeatView). v.sole) joined ∙ is_sole) place,
    )

pub split_seat-back-requires : goal.split_seat-back-requires
split_seat-back-requires g c =
    let j = (goal.at.split_seat-back-requires g c).After-join_seat in
    let i = c.self.invariant in
    let o = c.pass.invariant in
    let told = c.swap-found.ensures.2.3 in
    let joined = both g j in
    let keeps = sideless-keeps c.swap-found.result (recorded c.join_seat.new.seat.me.0 told.0 (opening c.swap-found.result c.join_seat.new.seat.me.0)) in
    let stake = o.1.stake in
    let are = o.1.credits_are in
    let one_more = i.1.one_credit in
    let rich : c.swap-found.new.seat.me.0.credits ≡ c.pass.inside.seat.me.0.credits + c.self.inside.seat.me.0.credits =
    ap (λ (v : SeatView). v.credits) told.3 ∙ keeps.2 ∙ ap (λ (v : SeatView). v.credits) joined in (
      c.swap-found.ensures.0 ∙ same_table g j,
      search rules,
      parts_allowed g.A.Attach.fits _ _ _ _ (ap (λ (v : SeatView). v.role) told.3 ∙ keeps.0 ∙ ap (λ (v : SeatView). v.role) joined)
          (ap (λ (v : SeatView). v.draft) told.3 ∙ keeps.3 ∙ ap (λ (v : SeatView). v.draft) joined ∙ o.1.no_draft)
          (ap (λ (v : SeatView). v.weight) told.3 ∙ keeps.1 ∙ ap (λ (v : SeatView). v.weight) joined ∙ i.1.light) (omega (arith, rich, stake, are, one_more)),
    )

pub found_in-requires : goal.found_in-requires
found_in-requires g c =
    let o = c.pass.invariant in
    let few = c.swap-found.ensures.2.1.0 in
    let slots = o.0.laid.slots_most in
    let same = ap (λ (v : SeatView). v.layout.slots) (both g (goal.at.found_in-requires g c).After-join_seat) ∙ ap (λ (l : Layout). l.slots) o.0.layout_is in
    omega (arith, few, slots, same)

-- ---- there was no side
pub invariant_of-pass : goal.invariant_of-pass
invariant_of-pass g c =
    let at = goal.at.invariant_of-pass g c in
    let s = at.After-split_seat-back in
    let is : c.swap-found.result ≡ 0 = found_none _ (sym c.found_in.ensures ∙ c.in_default.is) in (
      tied g s 0 is,
      is_pass_by _ _ _ _ _ _ _ (share g s 0 is) refl refl
          (pass_bare g.A.Attach.fits (v g s) _ _ _ _ (all g s) _ (p g s) (same_layout g s) _ _ _ (begins g s) (each g s).0 (each g s).1 c.pass.invariant.1 c.self.invariant.1),
    )

pub returns-in_default-clause-taken : goal.returns-in_default-clause-taken
returns-in_default-clause-taken g c =
    let at = goal.at.returns-in_default-clause-taken g c in
    let s = at.After-split_seat-back in
    let is : c.swap-found.result ≡ 0 = found_none _ (sym c.found_in.ensures ∙ c.in_default.is) in
    taken_away g.A.Attach.fits _ _ _ _ (v g s) (p g s) _ _ (all g s) 0 c.self.view_is c.pass.view_is
    (pass_layout g s) c.self.invariant.1.one_credit (joint g s) (begins g s) (legal g s 0 is)
    (share g s 0 is) (ap (λ x. x.me.0) c.replace.ensures.after ∙ reference g s 0 is)

-- ---- the side's slot comes behind the others
pub append_all-requires : goal.append_all-requires
append_all-requires g c =
    let at = goal.at.append_all-requires g c in
    let s = at.After-split_seat-back in
    let d : ℕ = c.in-Some.slot in
    let few = once_length _ _ (once g s d (found_some _ d (sym c.found_in.ensures ∙ c.in-Some.is))) in
    let sum = length-append c.pass.inside.seat.me.0.free (d ∷ []) in
    let list = ap length c.pass.invariant.1.free_is in
    let room = c.pass.invariant.1.roomy in
    omega (arith, few, sum, list, room)

pub invariant_of-pass-2 : goal.invariant_of-pass-2
invariant_of-pass-2 g c =
    let at = goal.at.invariant_of-pass-2 g c in
    let s = at.After-split_seat-back in
    let d : ℕ = c.in-Some.slot in
    let is : c.swap-found.result ≡ suc d = found_some _ d (sym c.found_in.ensures ∙ c.in-Some.is) in (
      tied g s (suc d) is,
      is_pass_by _ _ _ _ _ _ _ (share g s (suc d) is) c.append_all.ensures.items c.append_all.ensures.capacity
          (pass_sideless g.A.Attach.fits (v g s) _ _ _ _ (all g s) _ (p g s) (same_layout g s) _ _ _ (begins g s) (each g s).0 (each g s).1 c.pass.invariant.1 c.self.invariant.1 d (once g s d is)),
    )

pub returns-clause-taken : goal.returns-clause-taken
returns-clause-taken g c =
    let at = goal.at.returns-clause-taken g c in
    let s = at.After-split_seat-back in
    let d : ℕ = c.in-Some.slot in
    let is : c.swap-found.result ≡ suc d = found_some _ d (sym c.found_in.ensures ∙ c.in-Some.is) in
    taken_away g.A.Attach.fits _ _ _ _ (v g s) (p g s) _ _ (all g s) (suc d) c.self.view_is c.pass.view_is
    (pass_layout g s) c.self.invariant.1.one_credit (joint g s) (begins g s) (legal g s (suc d) is)
    (share g s (suc d) is) (ap (λ x. x.me.0) c.replace.ensures.after ∙ reference g s (suc d) is)

-- ---- a side that was known was there
pub returns-in_default-clause-agrees : goal.returns-in_default-clause-agrees
returns-in_default-clause-agrees g c =
    let joined = both g (goal.at.returns-in_default-clause-agrees g c).After-join_seat in
    subst (λ (r : RefSeen). IfSome r.side (λ d. None ≡ Some d)) c.self.view_is (if_some c.self.inside.seat.me.0.side (λ d. None ≡ Some d)
    (λ d is. sym (sym c.found_in.ensures ∙ c.in_default.is) ∙ c.swap-found.ensures.2.1.1.1 d (ap (λ (z : SeatView). z.side) joined ∙ is)))

pub returns-clause-agrees : goal.returns-clause-agrees
returns-clause-agrees g c =
    let joined = both g (goal.at.returns-clause-agrees g c).After-join_seat in
    let e : ℕ = c.in-Some.slot in
    subst (λ (r : RefSeen). IfSome r.side (λ d. Some e ≡ Some d)) c.self.view_is (if_some c.self.inside.seat.me.0.side (λ d. Some e ≡ Some d)
    (λ d is. sym (sym c.found_in.ensures ∙ c.in-Some.is) ∙ c.swap-found.ensures.2.1.1.1 d (ap (λ (z : SeatView). z.side) joined ∙ is)))

-- a bare reference's slot had none
pub returns-clause-bare : goal.returns-clause-bare
returns-clause-bare g c bare =
    let joined = both g (goal.at.returns-clause-bare g c).After-join_seat in
    let d : ℕ = c.in-Some.slot in
    let is : c.swap-found.result ≡ suc d = found_some _ d (sym c.found_in.ensures ∙ c.in-Some.is) in
    let none_is : c.swap-found.result ≡ 0 = c.swap-found.ensures.2.1.1.0 (ap (λ (z : SeatView). z.bare) joined ∙ ap (λ (r : RefSeen). r.bare) c.self.view_is ∙ bare) in
    absurd (omega (arith, is, none_is))
