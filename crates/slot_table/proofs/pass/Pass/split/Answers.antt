use Rattle.std.proofs.Common.{rules, ◌≡◌, ℕ, ◌+◌, ◌≤◌, List, length, vec_capacity, refl, sym, ap, ◌∙◌, subst, arith}
use Rattle.slot_model.specs.declared.layout.Layout.{Layout}
use Rattle.slot_table.specs.declared.view.SeatView.{SeatView}
use Rattle.slot_table.specs.Owners.{HeapId, PassSeen}
use Rattle.slot_table.specs.PassSteps.{planned, share, without_share}
use Rattle.slot_table.proofs.Planning.{plans_allowed, cuts_allowed}
use Rattle.slot_table.proofs.Counting.{once_length}
use Rattle.slot_table.proofs.Tying.{tied_on, is_pass_by, pass_shared, pass_without_share}
use Rattle.slot_table.proofs.pass.Pass.split.Goals as goal

pub hand_over-requires : goal.hand_over-requires
hand_over-requires g c = let i = c.self.invariant in
    let asked = subst (λ (h : PassSeen). c.args.slots ≤ length h.free) (sym c.self.view_is) c.requires.slots in
    (subst (λ (l : List ℕ). c.args.slots ≤ length l) i.1.free_is asked, subst (λ (l : Layout). length c.self.inside.free.items ≤ l.slots) (i.0.layout_is ∙ sym (ap (λ (z : HeapId). z.layout) c.heap.view_is)) (once_length _ _ i.1.once))

pub compare_exchange-requires : goal.compare_exchange-requires
compare_exchange-requires g c = let i = c.self.invariant in (search rules, search rules, plans_allowed g.A.Attach.fits _ _ _ _ _ _ _ i.1.role i.1.no_draft (omega arith))

pub split_seat-seat-requires : goal.split_seat-seat-requires
split_seat-seat-requires g c = let i = c.self.invariant in let now = c.compare_exchange.ensures.2.0 in
    let slots = subst (λ (h : PassSeen). c.args.slots ≤ length h.free) (sym c.self.view_is) c.requires.slots in
    let credits = subst (λ (h : PassSeen). c.args.credits + 2 ≤ h.credits) (sym c.self.view_is) c.requires.credits in (
      search rules,
      search rules,
      cuts_allowed g.A.Attach.fits _ _ _ (c.args.credits + 1) c.args.slots _ (ap (λ (v : SeatView). v.role) now ∙ i.1.role) (ap (λ (v : SeatView). v.draft) now ∙ i.1.no_draft) (ap (λ (v : SeatView). v.planned_slots) now) (ap (λ (v : SeatView). v.planned_credits) now)
          (subst (λ (v : SeatView). c.args.slots ≤ length v.free) (sym now) slots) (omega arith) (subst (λ (v : SeatView). c.args.credits + 1 + 1 ≤ v.credits) (sym now) (omega arith)),
    )

pub invariant_of-result : goal.invariant_of-result
invariant_of-result g c = let i = c.self.invariant in let e = c.split_seat-seat.ensures in let now = c.compare_exchange.ensures.2.0 in
    let credits = subst (λ (h : PassSeen). c.args.credits + 2 ≤ h.credits) (sym c.self.view_is) c.requires.credits in
    let new : c.split_seat-seat.result.me.0 ≡ share (planned c.args.slots (c.args.credits + 1) c.self.inside.seat.me.0) = ap (λ m. m.0) e.4 ∙ ap share now in
    let got = c.in_ok-free.ensures.ok in
    let room : c.self.inside.seat.me.0.layout.slots ≤ vec_capacity c.in_ok-free.free = subst (λ (l : Layout). l.slots ≤ vec_capacity c.in_ok-free.free) (sym (i.0.layout_is ∙ sym (ap (λ (z : HeapId). z.layout) c.heap.view_is))) got.1 in (
      tied_on _ c.self.inside.seat _ (e.3 ∙ c.compare_exchange.ensures.0) (ap (λ m. m.1) e.4) (ap (λ (v : SeatView). v.layout) new) (ap (λ (v : SeatView). v.literals) new) i.0,
      is_pass_by _ _ _ _ _ _ _ new got.0 refl (pass_shared c.self.inside.seat.me.0 c.self.inside.free.items c.args.slots (c.args.credits + 1) _ _ c.self.inside.credits (omega arith) (let a = i.1.credits_are in omega arith) room i.1),
    )

pub invariant_of-self-2 : goal.invariant_of-self-2
invariant_of-self-2 g c = let i = c.self.invariant in let e = c.split_seat-seat.ensures in let now = c.compare_exchange.ensures.2.0 in
    let credits = subst (λ (h : PassSeen). c.args.credits + 2 ≤ h.credits) (sym c.self.view_is) c.requires.credits in
    let old : c.split_seat-seat.new.seat.me.0 ≡ without_share (planned c.args.slots (c.args.credits + 1) c.self.inside.seat.me.0) = ap (λ m. m.0) e.2 ∙ ap without_share now in
    let got = c.in_ok-free.ensures.ok in (
      tied_on _ c.self.inside.seat _ (e.0 ∙ c.compare_exchange.ensures.0) (ap (λ m. m.1) e.2 ∙ (c.compare_exchange.ensures.2.1 ∙ i.0.empty)) (ap (λ (v : SeatView). v.layout) old) (ap (λ (v : SeatView). v.literals) old) i.0,
      is_pass_by _ _ _ _ _ _ _ old got.2 c.in_ok-free.ensures.capacity (pass_without_share c.self.inside.seat.me.0 c.self.inside.free.items c.args.slots (c.args.credits + 1) _ c.self.inside.credits (let a = i.1.credits_are in omega arith) i.1),
    )
