use Rattle.std.proofs.Common.{rules, ◌≡◌, ◌<◌, length, sym, ap, ◌∙◌, subst}
use Rattle.slot_model.specs.declared.layout.Layout.{Layout}
use Rattle.slot_table.specs.Addresses.{data_place}
use Rattle.slot_table.specs.Owners.{HeapId, DraftSeen}
use Rattle.slot_table.proofs.Filling.{fills_allowed}
use Rattle.slot_table.proofs.draft.Draft.write.Goals as goal

pub store-requires : goal.store-requires
store-requires g c = let i = c.self.invariant in let k = c.heap.inside.table.shared.key.layout in
    let same : k ≡ c.heap.inside.layout = c.heap.invariant.layout_is in
    let place : c.data_place-place.result ≡ data_place k c.self.inside.slot (length c.self.inside.seat.me.0.written) = c.data_place-place.ensures.0 ∙ (λ t. data_place (sym same t) c.self.inside.slot (i.1.count_is t)) in
    let room : length c.self.inside.seat.me.0.written < c.self.inside.heap.now.layout.capacity_words = subst (λ (z : DraftSeen). length z.written < z.heap.layout.capacity_words) (sym c.self.view_is) c.requires in
    let here : c.self.inside.heap.now.layout ≡ k = sym (same ∙ ap (λ (z : HeapId). z.layout) c.heap.view_is) in
    (search rules, search rules, fills_allowed g.A.Attach.fits k _ _ _ _ _ _ c.self.inside.slot i.1.role i.1.draft_is (subst (λ (l : Layout). length c.self.inside.seat.me.0.written < l.capacity_words) here room) place)
