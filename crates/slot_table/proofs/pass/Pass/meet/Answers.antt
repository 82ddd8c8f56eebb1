use Rattle.std.proofs.Common.{rules, ◌≡◌, ◌+◌, ◌≤◌, refl, sym, ap, ◌∙◌, subst, arith}
use mathlib.Core.List.{IsPrefix}
use Rattle.slot_table.specs.declared.view.SeatView.{SeatView}
use Rattle.slot_table.specs.Numbers.{Below}
use Rattle.slot_table.specs.Owners.{HeapId, PassSeen, RefSeen}
use Rattle.slot_table.specs.PassSteps.{beside, met_share}
use Rattle.slot_table.proofs.Meeting.{meets_allowed, parts_allowed}
use Rattle.slot_table.proofs.Looking.{tells_allowed}
use Rattle.slot_table.proofs.Fronts.{both_prefix}
use Rattle.slot_table.proofs.Tying.{tied_on, is_pass_by, pass_met}
use Rattle.slot_table.proofs.pass.Pass.meet.Goals as goal

pub join_seat-requires : goal.join_seat-requires
join_seat-requires g c = let i = c.self.invariant in let o = c.reference.invariant in
    let same : c.reference.inside.seat.table_id ≡ c.heap.inside.table.shared.table_id =
    o.0.same ∙ (ap (λ (h : RefSeen). h.heap.table) c.reference.view_is ∙ (ap (λ (z : HeapId). z.table) c.requires ∙ (sym (ap (λ (h : PassSeen). h.heap.table) c.self.view_is) ∙ sym (ap (λ (z : HeapId). z.table) c.heap.view_is)))) in
    (search rules, same, search rules, search rules, meets_allowed g.A.Attach.fits _ _ _ _ _ _ i.1.role i.1.no_draft o.1.role o.1.no_draft o.1.light o.1.one_credit o.1.no_slots)

pub load-requires : goal.load-requires
load-requires g c = let i = c.self.invariant in let both : c.join_seat.new.seat.me.0 ≡ beside c.self.inside.seat.me.0 c.reference.inside.seat.me.0 = ap (λ m. m.0) c.join_seat.ensures.2 in
    (search rules, search rules, tells_allowed g.A.Attach.fits _ _ _ _ _ _ (ap (λ (v : SeatView). v.layout) both ∙ (i.0.layout_is ∙ sym (c.heap.invariant.layout_is ∙ ap (λ (z : HeapId). z.layout) c.heap.view_is))))

pub split_seat-seat-requires : goal.split_seat-seat-requires
split_seat-seat-requires g c = let i = c.self.invariant in let o = c.reference.invariant in
    let now : c.load.new.seat.me.0 ≡ beside c.self.inside.seat.me.0 c.reference.inside.seat.me.0 = ap (λ m. m.0) c.load.ensures.2.0 ∙ ap (λ m. m.0) c.join_seat.ensures.2 in
    let paid : 2 ≤ c.self.inside.seat.me.0.credits + c.reference.inside.seat.me.0.credits = (let a = i.1.stake in let b = i.1.credits_are in let d = o.1.one_credit in omega arith) in
    (search rules, search rules, parts_allowed g.A.Attach.fits _ _ _ _ (ap (λ (v : SeatView). v.role) now) (ap (λ (v : SeatView). v.draft) now ∙ i.1.no_draft) (ap (λ (v : SeatView). v.weight) now ∙ o.1.light) (subst (λ (v : SeatView). 2 ≤ v.credits) (sym now) paid))

pub invariant_of-self : goal.invariant_of-self
invariant_of-self g c = let i = c.self.invariant in let o = c.reference.invariant in let e = c.split_seat-seat.ensures in
    let now : c.load.new.seat.me.0 ≡ beside c.self.inside.seat.me.0 c.reference.inside.seat.me.0 = ap (λ m. m.0) c.load.ensures.2.0 ∙ ap (λ m. m.0) c.join_seat.ensures.2 in
    let old : c.split_seat-seat.new.seat.me.0 ≡ met_share (beside c.self.inside.seat.me.0 c.reference.inside.seat.me.0) = ap (λ m. m.0) e.2 ∙ ap met_share now in
    let told = subst (λ (v : SeatView). IsPrefix v.told v.front) (ap (λ m. m.0) c.join_seat.ensures.2) c.load.ensures.2.1 in
    let fronts = both_prefix c.self.inside.seat.me.0.front c.reference.inside.seat.me.0.front told in (
      tied_on _ c.self.inside.seat _ (e.0 ∙ (c.load.ensures.0 ∙ c.join_seat.ensures.0)) (ap (λ m. m.1) e.2 ∙ (ap (λ m. m.1) c.load.ensures.2.0 ∙ (ap (λ m. m.1) c.join_seat.ensures.2 ∙ i.0.empty))) (ap (λ (v : SeatView). v.layout) old) (ap (λ (v : SeatView). v.literals) old) i.0,
      is_pass_by _ _ _ _ _ _ _ old refl refl (pass_met c.self.inside.seat.me.0 c.reference.inside.seat.me.0 _ _ _ fronts.0 fronts.1 o.1.one_credit o.1.below_front i.1),
    )

pub returns-clause-below : goal.returns-clause-below
returns-clause-below g c = let i = c.self.invariant in let o = c.reference.invariant in let e = c.split_seat-seat.ensures in
    let now : c.load.new.seat.me.0 ≡ beside c.self.inside.seat.me.0 c.reference.inside.seat.me.0 = ap (λ m. m.0) c.load.ensures.2.0 ∙ ap (λ m. m.0) c.join_seat.ensures.2 in
    let old : c.split_seat-seat.new.seat.me.0 ≡ met_share (beside c.self.inside.seat.me.0 c.reference.inside.seat.me.0) = ap (λ m. m.0) e.2 ∙ ap met_share now in
    let told = subst (λ (v : SeatView). IsPrefix v.told v.front) (ap (λ m. m.0) c.join_seat.ensures.2) c.load.ensures.2.1 in
    let fronts = both_prefix c.self.inside.seat.me.0.front c.reference.inside.seat.me.0.front told in
    subst (λ (v : SeatView). Below v.front v.places) (sym old) (pass_met c.self.inside.seat.me.0 c.reference.inside.seat.me.0 _ _ _ fronts.0 fronts.1 o.1.one_credit o.1.below_front i.1).below_front
