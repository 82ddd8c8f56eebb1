use Rattle.std.proofs.Common.{rules, ◌≡◌, ◌<◌, [], ◌∷◌, length, vec_capacity, refl, ap, ◌∙◌, subst, arith, length-append}
use Rattle.slot_table.specs.declared.view.SeatView.{SeatView}
use Rattle.slot_table.specs.PassSteps.{without_draft, drafted}
use Rattle.slot_table.specs.Ties.{IsPass}
use Rattle.slot_table.proofs.Sharing.{drafts_allowed}
use Rattle.slot_table.proofs.Tying.{tied_on, is_pass_by, is_draft_by, pass_without_draft, draft_from}
use Rattle.slot_table.proofs.Showing.{draft_taken}
use Rattle.slot_table.proofs.pass.Pass.draft.Goals as goal

pub split_seat-seat-requires : goal.split_seat-seat-requires
split_seat-seat-requires g c = let i = c.self.invariant in let list = i.1.free_is ∙ c.in_ok-slot.ensures.items in
    let some_free : 0 < length c.self.inside.seat.me.0.free = (let e = ap length list in omega (arith, e, length-append c.pop.new.self.items (c.in_ok-slot.slot ∷ []))) in
    let stake = i.1.stake in let not_one = c.if-self-eq1.false in let are = i.1.credits_are in
    (search rules, search rules, drafts_allowed g.A.Attach.fits _ _ _ _ i.1.role i.1.no_draft some_free (omega arith))

pub invariant_of-result : goal.invariant_of-result
invariant_of-result g c = let i = c.self.invariant in let e = c.split_seat-seat.ensures in
    let new : c.split_seat-seat.result.me.0 ≡ drafted c.self.inside.seat.me.0 = ap (λ m. m.0) e.4 in
    let was = subst (λ fs. IsPass c.self.inside.seat.me.0 fs (vec_capacity c.self.inside.free) c.self.inside.credits) c.in_ok-slot.ensures.items i.1 in (
      tied_on _ c.self.inside.seat _ e.3 (ap (λ m. m.1) e.4) (ap (λ (v : SeatView). v.layout) new) (ap (λ (v : SeatView). v.literals) new) i.0,
      is_draft_by _ _ _ _ new (draft_from c.self.inside.seat.me.0 c.pop.new.self.items c.in_ok-slot.slot _ _ was),
    )

pub invariant_of-self-2 : goal.invariant_of-self-2
invariant_of-self-2 g c = let i = c.self.invariant in let e = c.split_seat-seat.ensures in
    let old : c.split_seat-seat.new.seat.me.0 ≡ without_draft c.self.inside.seat.me.0 = ap (λ m. m.0) e.2 in
    let was = subst (λ fs. IsPass c.self.inside.seat.me.0 fs (vec_capacity c.self.inside.free) c.self.inside.credits) c.in_ok-slot.ensures.items i.1 in
    let stake = i.1.stake in let not_one = c.if-self-eq1.false in (
      tied_on _ c.self.inside.seat _ e.0 (ap (λ m. m.1) e.2 ∙ i.0.empty) (ap (λ (v : SeatView). v.layout) old) (ap (λ (v : SeatView). v.literals) old) i.0,
      is_pass_by _ _ _ _ _ _ _ old refl c.in_ok-slot.ensures.capacity (pass_without_draft c.self.inside.seat.me.0 c.pop.new.self.items c.in_ok-slot.slot _ _ (omega arith) was),
    )

pub returns-clause-draft : goal.returns-clause-draft
returns-clause-draft g c = let i = c.self.invariant in let e = c.split_seat-seat.ensures in
    let was = subst (λ fs. IsPass c.self.inside.seat.me.0 fs (vec_capacity c.self.inside.free) c.self.inside.credits) c.in_ok-slot.ensures.items i.1 in
    let stake = i.1.stake in let not_one = c.if-self-eq1.false in
    draft_taken _ _ c.self.inside.seat.me.0 _ _ c.pop.new.self.items c.in_ok-slot.slot (vec_capacity c.self.inside.free) c.self.inside.credits c.self.view_is (ap (λ m. m.0) e.2) (ap (λ m. m.0) e.4) (omega arith) was
