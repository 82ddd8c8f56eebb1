use Rattle.std.proofs.Common.{rules, ◌≡◌, ◌<◌, length, sym, ap, ◌∙◌, subst}
use Rattle.slot_model.specs.declared.layout.Layout.{Layout}
use Rattle.slot_table.specs.declared.view.SeatView.{SeatView}
use Rattle.slot_table.specs.Addresses.{count_place}
use Rattle.slot_table.specs.Owners.{DraftSeen}
use Rattle.slot_table.proofs.Publishing.{publish_allowed}
use Rattle.slot_table.proofs.Tying.{tied_on, is_ref_by, ref_from}
use Rattle.slot_table.proofs.draft.Draft.publish.Goals as goal

pub store-requires : goal.store-requires
store-requires g c = let i = c.self.invariant in let k = c.heap.inside.table.shared.key.layout in
    let place : c.count_place-place.result ≡ count_place k c.self.inside.slot = c.count_place-place.ensures.0 ∙ ap (λ (l : Layout). count_place l c.self.inside.slot) (sym c.heap.invariant.layout_is) in
    let some_words : 0 < length c.self.inside.seat.me.0.written = subst (λ (z : DraftSeen). 0 < length z.written) (sym c.self.view_is) c.requires in
    (search rules, search rules, publish_allowed g.A.Attach.fits k _ _ _ _ _ c.self.inside.slot i.1.role i.1.draft_is some_words place)

pub invariant_of-result : goal.invariant_of-result
invariant_of-result g c = let i = c.self.invariant in let told = c.store.ensures in let e = told.2.3 in (
  tied_on _ c.self.inside.seat _ told.0 (told.2.4 ∙ i.0.empty) (ap (λ (v : SeatView). v.layout) e) (ap (λ (v : SeatView). v.literals) e) i.0,
  is_ref_by g.A.Attach.fits _ _ _ _ _ _ e (ref_from g.A.Attach.fits c.self.inside.seat.me.0 _ _ told.2.0 _ told.2.1 i.1),
)
