use Rattle.std.proofs.Common.{rules, ◌≡◌, sym, ap, ◌∙◌}
use Rattle.slot_table.specs.declared.view.SeatView.{SeatView}
use Rattle.slot_table.specs.Addresses.{count_place}
use Rattle.slot_table.proofs.Soling.{soles_allowed}
use Rattle.slot_table.proofs.Tying.{tied_on, is_ref_by}
use Rattle.slot_table.proofs.Referring.{ref_asked}
use Rattle.slot_table.proofs.reference.Ref.sole.Goals as goal

pub load-found-requires : goal.load-found-requires
load-found-requires g c = let i = c.self.invariant in let same = c.heap.invariant.layout_is in let k = c.heap.inside.table.shared.key.layout in
    let place : c.count_place-place.result ≡ count_place k c.self.inside.seat.me.0.slot = c.count_place-place.ensures.0 ∙ (λ t. count_place (sym same t) (sym i.1.slot_is t)) in
    (search rules, search rules, soles_allowed g.A.Attach.fits k _ _ _ _ _ i.1.role i.1.light i.1.no_draft place)

pub invariant_of-self : goal.invariant_of-self
invariant_of-self g c = let i = c.self.invariant in let told = c.load-found.ensures in let e = told.2.1.3 in (
  tied_on _ c.self.inside.seat _ told.0 (told.2.1.4 ∙ i.0.empty) (ap (λ (v : SeatView). v.layout) e) (ap (λ (v : SeatView). v.literals) e) i.0,
  is_ref_by g.A.Attach.fits _ _ _ _ _ _ e (ref_asked g.A.Attach.fits c.self.inside.seat.me.0 _ _ _ _ told.2.1.0 _ c.load-found.result told.2.1.1 told.2.0 i.1),
)
