use Rattle.std.proofs.Common.{◌≡◌, ◌-◌, ℕ, suc, [], ◌∷◌, Some, None, sym, ap, ◌∙◌, subst}
use Rattle.slot_table.specs.declared.view.SeatView.{SeatView}
use Rattle.slot_table.specs.ReferenceSteps.{LeftBy}
use Rattle.slot_table.proofs.Tying.{loose_after, above_zero}
use Rattle.slot_table.proofs.Showing.{was_released}
use Rattle.slot_table.proofs.reference.Ref.release.Goals as goal

-- others are left: no slot is freed
pub absorb-requires-clause-loose : goal.absorb-requires-clause-loose
absorb-requires-clause-loose g c = let v : SeatView = c.self.inside.seat.me.0 in let w : SeatView = c.give_up.new.seat.me.0 in
    loose_after g.A.Attach.fits v w _ _ _ _ None (subst (LeftBy g.A.Attach.fits v w) c.in-None.is c.give_up.ensures.left) c.self.invariant.1

-- the slot had no side
pub absorb-requires-in-Some-eq0-clause-loose : goal.absorb-requires-in-Some-eq0-clause-loose
absorb-requires-in-Some-eq0-clause-loose g c = let v : SeatView = c.self.inside.seat.me.0 in let w : SeatView = c.give_up.new.seat.me.0 in
    let is : c.give_up.result ≡ Some 0 = c.in-Some-eq0.is ∙ ap (λ (n : ℕ). Some n) c.in-Some-eq0.field-0-test in
    loose_after g.A.Attach.fits v w _ _ _ _ (Some 0) (subst (LeftBy g.A.Attach.fits v w) is c.give_up.ensures.left) c.self.invariant.1

-- the slot had a side, which its word shows
pub absorb-requires-in-Some-clause-loose : goal.absorb-requires-in-Some-clause-loose
absorb-requires-in-Some-clause-loose g c = let v : SeatView = c.self.inside.seat.me.0 in let w : SeatView = c.give_up.new.seat.me.0 in
    let not_none = c.in-Some.shown-test.1 in let up : c.in-Some.shown ≡ suc (c.in-Some.shown - 1) = above_zero c.in-Some.shown not_none in
    let is : c.give_up.result ≡ Some (suc (c.in-Some.shown - 1)) = c.in-Some.is ∙ ap (λ (n : ℕ). Some n) up in
    loose_after g.A.Attach.fits v w _ _ _ _ (Some (suc (c.in-Some.shown - 1))) (subst (LeftBy g.A.Attach.fits v w) is c.give_up.ensures.left) c.self.invariant.1

pub returns-in-Some-eq0-clause-released : goal.returns-in-Some-eq0-clause-released
returns-in-Some-eq0-clause-released g c = let i = c.self.invariant in let v : SeatView = c.self.inside.seat.me.0 in let w : SeatView = c.give_up.new.seat.me.0 in
    let is : c.give_up.result ≡ Some 0 = c.in-Some-eq0.is ∙ ap (λ (n : ℕ). Some n) c.in-Some-eq0.field-0-test in
    let left = subst (LeftBy g.A.Attach.fits v w) is c.give_up.ensures.left in
    was_released g.A.Attach.fits _ _ _ _ _ v w (Some 0) _ c.self.view_is i.0.layout_is (loose_after g.A.Attach.fits v w _ _ _ _ (Some 0) left i.1).credits_are (ap (λ (x : ℕ). x ∷ []) (sym i.1.slot_is)) left c.absorb-in-Some-eq0.ensures

pub returns-in-Some-clause-released : goal.returns-in-Some-clause-released
returns-in-Some-clause-released g c = let i = c.self.invariant in let v : SeatView = c.self.inside.seat.me.0 in let w : SeatView = c.give_up.new.seat.me.0 in
    let not_none = c.in-Some.shown-test.1 in let up : c.in-Some.shown ≡ suc (c.in-Some.shown - 1) = above_zero c.in-Some.shown not_none in
    let is : c.give_up.result ≡ Some (suc (c.in-Some.shown - 1)) = c.in-Some.is ∙ ap (λ (n : ℕ). Some n) up in
    let left = subst (LeftBy g.A.Attach.fits v w) is c.give_up.ensures.left in
    was_released g.A.Attach.fits _ _ _ _ _ v w (Some (suc (c.in-Some.shown - 1))) _ c.self.view_is i.0.layout_is (loose_after g.A.Attach.fits v w _ _ _ _ (Some (suc (c.in-Some.shown - 1))) left i.1).credits_are
    (ap (λ (x : ℕ). x ∷ (c.in-Some.shown - 1) ∷ []) (sym i.1.slot_is)) left c.absorb-in-Some.ensures
