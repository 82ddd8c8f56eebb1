use Rattle.std.proofs.Common.{rules, ◌≡◌, ◌≤◌, ◌++◌, length, sym, ap, ◌∙◌, subst, arith, length-append}
use mathlib.Core.List.{IsPrefix}
use Rattle.slot_table.specs.declared.view.SeatView.{SeatView}
use Rattle.slot_table.specs.Numbers.{Once}
use Rattle.slot_table.specs.Owners.{HeapId, PassSeen}
use Rattle.slot_table.specs.PassSteps.{joined}
use Rattle.slot_table.proofs.Sharing.{joins_allowed}
use Rattle.slot_table.proofs.Looking.{tells_allowed}
use Rattle.slot_table.proofs.Counting.{once_length}
use Rattle.slot_table.proofs.Fronts.{both_prefix}
use Rattle.slot_table.proofs.Tying.{tied_on, is_pass_by, pass_joined}
use Rattle.slot_table.proofs.pass.Pass.absorb.Goals as goal

pub join_seat-requires : goal.join_seat-requires
join_seat-requires g c = let i = c.self.invariant in let o = c.requires in
    let same : c.args.seat.table_id ≡ c.heap.inside.table.shared.table_id = o.tied.same ∙ (sym (ap (λ (h : PassSeen). h.heap.table) c.self.view_is) ∙ sym (ap (λ (z : HeapId). z.table) c.heap.view_is)) in
    (search rules, same, search rules, search rules, joins_allowed g.A.Attach.fits _ _ _ _ _ _ i.1.role i.1.no_draft o.loose.left)

pub load-requires : goal.load-requires
load-requires g c = let i = c.self.invariant in let both : c.join_seat.new.seat.me.0 ≡ joined c.self.inside.seat.me.0 c.args.seat.me.0 = ap (λ m. m.0) c.join_seat.ensures.2 in
    (search rules, search rules, tells_allowed g.A.Attach.fits _ _ _ _ _ _ (ap (λ (v : SeatView). v.layout) both ∙ (i.0.layout_is ∙ sym (c.heap.invariant.layout_is ∙ ap (λ (z : HeapId). z.layout) c.heap.view_is))))

pub append_all-requires : goal.append_all-requires
append_all-requires g c = let i = c.self.invariant in let o = c.requires.loose in let v : SeatView = c.self.inside.seat.me.0 in let w : SeatView = c.args.seat.me.0 in
    let both : c.join_seat.new.seat.me.0 ≡ joined v w = ap (λ m. m.0) c.join_seat.ensures.2 in
    let once = subst (λ (z : SeatView). Once z.layout.slots z.free) both c.load.ensures.2.2 in
    let list : (joined v w).free ≡ c.self.inside.free.items ++ c.args.free.now = (λ t. i.1.free_is t ++ o.free_is t) in
    let few = once_length _ _ once in let longer = ap length list in let sum = length-append c.self.inside.free.items c.args.free.now in let room = i.1.roomy in omega (arith, few, longer, sum, room)

pub invariant_of-self : goal.invariant_of-self
invariant_of-self g c = let i = c.self.invariant in let o = c.requires.loose in let v : SeatView = c.self.inside.seat.me.0 in let w : SeatView = c.args.seat.me.0 in
    let both : c.join_seat.new.seat.me.0 ≡ joined v w = ap (λ m. m.0) c.join_seat.ensures.2 in
    let now : c.load.new.seat.me.0 ≡ joined v w = ap (λ m. m.0) c.load.ensures.2.0 ∙ both in
    let told = subst (λ (z : SeatView). IsPrefix z.told z.front) both c.load.ensures.2.1 in let fronts = both_prefix v.front w.front told in
    let once = subst (λ (z : SeatView). Once z.layout.slots z.free) both c.load.ensures.2.2 in let most = subst (λ (z : SeatView). z.credits ≤ z.layout.credits) both c.load.ensures.2.3 in (
      tied_on _ c.self.inside.seat _ (c.load.ensures.0 ∙ c.join_seat.ensures.0) (ap (λ m. m.1) c.load.ensures.2.0 ∙ (ap (λ m. m.1) c.join_seat.ensures.2 ∙ i.0.empty)) (ap (λ (z : SeatView). z.layout) now) (ap (λ (z : SeatView). z.literals) now) i.0,
      is_pass_by _ _ _ _ _ _ _ now c.append_all.ensures.items c.append_all.ensures.capacity (pass_joined v w _ _ _ _ _ fronts.0 fronts.1 once most o i.1),
    )
