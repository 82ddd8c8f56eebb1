use Rattle.std.proofs.Common.{rules, ◌≡◌, ℕ, Option, Some, sym, ap, ◌∙◌, subst, arith}
use Rattle.std.specs.Prelude.{IfSome}
use Rattle.slot_model.specs.declared.layout.Layout.{Layout}
use Rattle.slot_table.specs.declared.view.SeatView.{SeatView}
use Rattle.slot_table.specs.Addresses.{side_place, found_in}
use Rattle.slot_table.specs.SideSteps.{IsSideKnown}
use Rattle.slot_table.specs.Owners.{RefSeen}
use Rattle.slot_table.specs.Ties.{IsRef}
use Rattle.slot_table.proofs.Seeing.{looks_allowed}
use Rattle.slot_table.proofs.Tying.{tied_on, is_ref_by}
use Rattle.slot_table.proofs.Referring.{ref_looked, if_some}
use Rattle.slot_table.proofs.reference.Ref.look.Goals as goal

pub load-found-requires : goal.load-found-requires
load-found-requires g c = let i = c.self.invariant in let same = c.heap.invariant.layout_is in let k = c.heap.inside.table.shared.key.layout in
    let place : c.side_place-place.result ≡ side_place k c.self.inside.seat.me.0.slot = c.side_place-place.ensures.0 ∙ (λ t. side_place (sym same t) (sym i.1.slot_is t)) in
    (search rules, search rules, looks_allowed g.A.Attach.fits k _ _ _ _ _ i.1.role i.1.light i.1.no_draft place)

pub found_in-side-requires : goal.found_in-side-requires
found_in-side-requires g c = let i = c.self.invariant in let few = c.load-found.ensures.2.1 in let slots = i.0.laid.slots_most in let same = ap (λ (l : Layout). l.slots) i.0.layout_is in omega (arith, few, slots, same)

pub invariant_of-self : goal.invariant_of-self
invariant_of-self g c = let i = c.self.invariant in let told = c.load-found.ensures in let e = told.2.4.3 in let v : SeatView = c.self.inside.seat.me.0 in let w : SeatView = c.load-found.new.seat.me.0 in (
  tied_on _ c.self.inside.seat _ told.0 (told.2.4.4 ∙ i.0.empty) (ap (λ (z : SeatView). z.layout) e) (ap (λ (z : SeatView). z.literals) e) i.0,
  subst (λ (o : Option ℕ). IsRef g.A.Attach.fits w c.self.inside.slot c.self.inside.sole c.self.inside.bare o) (sym c.found_in-side.ensures)
      (is_ref_by g.A.Attach.fits _ _ _ _ _ _ e (ref_looked g.A.Attach.fits v _ _ _ _ told.2.4.0 _ c.load-found.result told.2.4.1 told.2.0 (subst (λ (z : SeatView). IfSome (found_in c.load-found.result) (IsSideKnown g.A.Attach.fits z)) e told.2.2) i.1)),
)

pub returns-clause-agrees : goal.returns-clause-agrees
returns-clause-agrees g c = let v : SeatView = c.self.inside.seat.me.0 in let w : SeatView = c.load-found.new.seat.me.0 in
    subst (λ (r : RefSeen). IfSome r.side (λ d. (c.found_in-side.result ≡ Some d) × (w.side_words ≡ r.side_words))) c.self.view_is
    (if_some v.side (λ d. (c.found_in-side.result ≡ Some d) × (w.side_words ≡ v.side_words)) (λ d is. let t = c.load-found.ensures.2.3 d is in (c.found_in-side.ensures ∙ t.0, t.1)))
