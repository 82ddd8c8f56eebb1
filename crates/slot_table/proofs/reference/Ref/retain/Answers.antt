use Rattle.std.proofs.Common.{rules, ◌≡◌, ◌+◌, ◌≤◌, ℕ, [], ◌∷◌, ◌++◌, sym, ap, ◌∙◌, subst, arith}
use mathlib.Core.List.{IsPrefix}
use Rattle.slot_model.specs.declared.event.Event.TheVariants.{Retain}
use Rattle.slot_model.specs.declared.layout.Layout.{Layout}
use Rattle.slot_model.specs.History.{Legal}
use Rattle.slot_table.specs.declared.view.SeatView.{SeatView}
use Rattle.slot_table.specs.Addresses.{count_place}
use Rattle.slot_table.specs.Owners.{HeapId, PassSeen, RefSeen}
use Rattle.slot_table.specs.PassSteps.{credit}
use Rattle.slot_table.specs.ReferenceSteps.{paid, retaining, doubled, half, other_half}
use Rattle.slot_table.specs.Views.{recorded}
use Rattle.slot_table.proofs.Retaining.{retains_allowed}
use Rattle.slot_table.proofs.Paying.{credit_allowed, pays_allowed, halves_allowed}
use Rattle.slot_table.proofs.Fronts.{both_prefix}
use Rattle.slot_table.proofs.Tying.{tied_on, is_ref_by}
use Rattle.slot_table.proofs.Referring.{ref_half}
use Rattle.slot_table.proofs.Showing.{was_retained}
use Rattle.slot_table.proofs.reference.Ref.retain.Goals as goal

-- the pass has a credit besides its stake
pub split_seat-credit-requires : goal.split_seat-credit-requires
split_seat-credit-requires g c = let p = c.pass.invariant in let stake = p.1.stake in let not_one = c.if-pass-eq1.false in let are = p.1.credits_are in
    let same : c.pass.inside.seat.table_id ≡ c.heap.inside.table.shared.table_id = p.0.same ∙ (ap (λ (h : PassSeen). h.heap.table) c.pass.view_is ∙ (sym (ap (λ (z : HeapId). z.table) c.requires) ∙ (sym (ap (λ (r : RefSeen). r.heap.table) c.self.view_is) ∙ sym (ap (λ (z : HeapId). z.table) c.heap.view_is)))) in
    (same, search rules, credit_allowed g.A.Attach.fits _ _ _ _ p.1.role p.1.no_draft (omega arith))

pub join_seat-requires : goal.join_seat-requires
join_seat-requires g c = let i = c.self.invariant in let p = c.pass.invariant in let e = c.split_seat-credit.ensures in
    let new : c.split_seat-credit.result.me.0 ≡ credit c.pass.inside.seat.me.0 = ap (λ m. m.0) e.4 in
    let same : c.pass.inside.seat.table_id ≡ c.heap.inside.table.shared.table_id = p.0.same ∙ (ap (λ (h : PassSeen). h.heap.table) c.pass.view_is ∙ (sym (ap (λ (z : HeapId). z.table) c.requires) ∙ (sym (ap (λ (r : RefSeen). r.heap.table) c.self.view_is) ∙ sym (ap (λ (z : HeapId). z.table) c.heap.view_is)))) in (
      search rules,
      e.3 ∙ same,
      ap (λ m. m.1) e.4,
      search rules,
      pays_allowed g.A.Attach.fits _ _ _ _ _ _ i.1.role i.1.no_draft (ap (λ (v : SeatView). v.role) new) (ap (λ (v : SeatView). v.draft) new) (ap (λ (v : SeatView). v.free) new) (ap (λ (v : SeatView). v.places) new),
    )

pub fetch_add-requires : goal.fetch_add-requires
fetch_add-requires g c = let i = c.self.invariant in let e = c.split_seat-credit.ensures in let same = c.heap.invariant.layout_is in let k = c.heap.inside.table.shared.key.layout in
    let new : c.split_seat-credit.result.me.0 ≡ credit c.pass.inside.seat.me.0 = ap (λ m. m.0) e.4 in
    let both : c.join_seat.new.seat.me.0 ≡ paid c.self.inside.seat.me.0 (credit c.pass.inside.seat.me.0) = ap (λ m. m.0) c.join_seat.ensures.2 ∙ ap (paid c.self.inside.seat.me.0) new in
    let rich : c.join_seat.new.seat.me.0.credits ≡ 2 = ap (λ (v : SeatView). v.credits) both ∙ ap (λ (n : ℕ). n + 1) i.1.one_credit in
    let place : c.count_place-place.result ≡ count_place k c.join_seat.new.seat.me.0.slot = c.count_place-place.ensures.0 ∙ (λ t. count_place (sym same t) ((sym i.1.slot_is ∙ sym (ap (λ (v : SeatView). v.slot) both)) t)) in
    let most : k.credits ≤ 1048576 = subst (λ (l : Layout). l.credits ≤ 1048576) (sym (same ∙ ap (λ (z : HeapId). z.layout) c.heap.view_is)) i.0.laid.credits_most in (
      search rules,
      search rules,
      retains_allowed g.A.Attach.fits k _ _ _ _ _ most (ap (λ (v : SeatView). v.role) both ∙ i.1.role) (ap (λ (v : SeatView). v.weight) both ∙ i.1.light) (ap (λ (v : SeatView). v.draft) both ∙ i.1.no_draft) (omega (arith, rich)) place,
    )

pub split_seat-seat-requires : goal.split_seat-seat-requires
split_seat-seat-requires g c = let i = c.self.invariant in let e = c.split_seat-credit.ensures in
    let new : c.split_seat-credit.result.me.0 ≡ credit c.pass.inside.seat.me.0 = ap (λ m. m.0) e.4 in
    let both : c.join_seat.new.seat.me.0 ≡ paid c.self.inside.seat.me.0 (credit c.pass.inside.seat.me.0) = ap (λ m. m.0) c.join_seat.ensures.2 ∙ ap (paid c.self.inside.seat.me.0) new in
    let now = c.fetch_add.ensures.2.1.3 in
    let rich : c.fetch_add.new.seat.me.0.credits ≡ 2 = ap (λ (v : SeatView). v.credits) now ∙ (ap (λ (v : SeatView). v.credits) both ∙ ap (λ (n : ℕ). n + 1) i.1.one_credit) in (
      search rules,
      search rules,
      halves_allowed g.A.Attach.fits _ _ _ _ (ap (λ (v : SeatView). v.role) now ∙ (ap (λ (v : SeatView). v.role) both ∙ i.1.role)) (ap (λ (v : SeatView). v.weight) now) (ap (λ (v : SeatView). v.draft) now ∙ (ap (λ (v : SeatView). v.draft) both ∙ i.1.no_draft)) (ap (λ (v : SeatView). v.sole) now) (ap (λ (v : SeatView). v.bare) now) (omega (arith, rich)),
    )

pub invariant_of-self : goal.invariant_of-self
invariant_of-self g c = let i = c.self.invariant in let v : SeatView = c.self.inside.seat.me.0 in let p : SeatView = c.pass.inside.seat.me.0 in let told = c.fetch_add.ensures in let e = c.split_seat-seat.ensures in
    let both : c.join_seat.new.seat.me.0 ≡ paid v (credit p) = ap (λ m. m.0) c.join_seat.ensures.2 ∙ ap (paid v) (ap (λ m. m.0) c.split_seat-credit.ensures.4) in
    let begins = subst (λ (z : SeatView). IsPrefix z.front told.2.1.0) both told.2.1.1 in
    let goes_on = (both_prefix v.front p.front (subst (λ (z : SeatView). IsPrefix z.told z.front) both told.2.0)).0 in
    let now : c.split_seat-seat.new.seat.me.0 ≡ half (doubled (recorded (paid v (credit p)) told.2.1.0 (retaining (paid v (credit p))))) =
    ap (λ m. m.0) e.2 ∙ ap half (told.2.1.3 ∙ ap (λ (z : SeatView). doubled (recorded z told.2.1.0 (retaining z))) both) in (
      tied_on _ c.self.inside.seat _ (e.0 ∙ (told.0 ∙ c.join_seat.ensures.0)) (ap (λ m. m.1) e.2 ∙ (told.2.1.4 ∙ (ap (λ m. m.1) c.join_seat.ensures.2 ∙ i.0.empty))) (ap (λ (z : SeatView). z.layout) now) (ap (λ (z : SeatView). z.literals) now) i.0,
      is_ref_by g.A.Attach.fits _ _ _ _ _ _ now (ref_half g.A.Attach.fits v _ _ _ _ told.2.1.0 _ p begins goes_on i.1),
    )

pub returns-clause-retained : goal.returns-clause-retained
returns-clause-retained g c = let i = c.self.invariant in let o = c.pass.invariant in let v : SeatView = c.self.inside.seat.me.0 in let p : SeatView = c.pass.inside.seat.me.0 in let told = c.fetch_add.ensures in let e = c.split_seat-seat.ensures in
    let both : c.join_seat.new.seat.me.0 ≡ paid v (credit p) = ap (λ m. m.0) c.join_seat.ensures.2 ∙ ap (paid v) (ap (λ m. m.0) c.split_seat-credit.ensures.4) in
    let begins = subst (λ (z : SeatView). IsPrefix z.front told.2.1.0) both told.2.1.1 in
    let tells = subst (λ (z : SeatView). IsPrefix z.told z.front) both told.2.0 in
    let legal = subst (λ (z : SeatView). Legal g.A.Attach.fits z.layout (told.2.1.0 ++ Retain z.slot ∷ [])) both told.2.1.2 in
    let now : c.fetch_add.new.seat.me.0 ≡ doubled (recorded (paid v (credit p)) told.2.1.0 (retaining (paid v (credit p)))) = told.2.1.3 ∙ ap (λ (z : SeatView). doubled (recorded z told.2.1.0 (retaining z))) both in
    let stake = o.1.stake in let not_one = c.if-pass-eq1.false in let are = o.1.credits_are in
    was_retained g.A.Attach.fits _ _ _ _ v p _ _ _ told.2.1.0 c.self.view_is c.pass.view_is i.0.layout_is (omega arith) tells begins legal (ap (λ m. m.0) e.2 ∙ ap half now) (ap (λ m. m.0) c.split_seat-credit.ensures.2) (ap (λ m. m.0) e.4 ∙ ap other_half now)
