use Rattle.std.proofs.Common.{rules, ◌≡◌, ◌<◌, ◌≤◌, true, [], length, sym, ap, ◌∙◌, subst}
use Rattle.slot_model.specs.declared.layout.Layout.{Layout}
use Rattle.slot_table.specs.declared.view.SeatView.{SeatView}
use Rattle.slot_table.specs.Addresses.{data_place}
use Rattle.slot_table.specs.Owners.{HeapId, RefSeen}
use Rattle.slot_table.specs.ReferenceSteps.{word_in}
use Rattle.slot_table.proofs.Writing.{writes_allowed, told_place}
use Rattle.slot_table.proofs.Tying.{tied_on, is_ref_by}
use Rattle.slot_table.proofs.Referring.{ref_wrote}
use Rattle.slot_table.proofs.reference.Ref.write.Goals as goal

pub store-requires : goal.store-requires
store-requires g c = let i = c.self.invariant in let k = c.heap.inside.table.shared.key.layout in let same : k ≡ c.heap.inside.layout = c.heap.invariant.layout_is in
    let place : c.data_place-place.result ≡ data_place k c.self.inside.seat.me.0.slot c.args.k = c.data_place-place.ensures.0 ∙ (λ t. data_place (sym same t) (sym i.1.slot_is t) c.args.k) in
    let is_bare : c.self.inside.seat.me.0.bare ≡ true = subst (λ (r : RefSeen). r.bare ≡ true) (sym c.self.view_is) c.requires.bare in
    let is_sole : c.self.inside.seat.me.0.sole ≡ true = i.1.sole_is ∙ i.1.bare_sole (sym i.1.bare_is ∙ is_bare) in
    let low : c.args.k ≤ length c.self.inside.seat.me.0.known = subst (λ (r : RefSeen). c.args.k ≤ length r.known) (sym c.self.view_is) c.requires.place.0 in
    let high : c.args.k < c.self.inside.heap.now.layout.capacity_words = subst (λ (r : RefSeen). c.args.k < r.heap.layout.capacity_words) (sym c.self.view_is) c.requires.place.1 in
    let here : c.self.inside.heap.now.layout ≡ k = sym (same ∙ ap (λ (z : HeapId). z.layout) c.heap.view_is) in
    (search rules, search rules, writes_allowed g.A.Attach.fits k _ _ _ _ c.args.k _ _ (i.0.layout_is ∙ here) i.1.role i.1.light i.1.no_draft is_sole is_bare low (subst (λ (l : Layout). c.args.k < l.capacity_words) here high) place)

pub invariant_of-self : goal.invariant_of-self
invariant_of-self g c = let i = c.self.invariant in let told = c.store.ensures in let e = told.2.3 in let k = c.heap.inside.table.shared.key.layout in let same : k ≡ c.heap.inside.layout = c.heap.invariant.layout_is in
    let is_bare : c.self.inside.seat.me.0.bare ≡ true = subst (λ (r : RefSeen). r.bare ≡ true) (sym c.self.view_is) c.requires.bare in
    let low : c.args.k ≤ length c.self.inside.seat.me.0.known = subst (λ (r : RefSeen). c.args.k ≤ length r.known) (sym c.self.view_is) c.requires.place.0 in
    let high : c.args.k < c.self.inside.heap.now.layout.capacity_words = subst (λ (r : RefSeen). c.args.k < r.heap.layout.capacity_words) (sym c.self.view_is) c.requires.place.1 in
    let here : c.self.inside.heap.now.layout ≡ k = sym (same ∙ ap (λ (z : HeapId). z.layout) c.heap.view_is) in
    let place : c.data_place-place.result ≡ data_place k c.self.inside.seat.me.0.slot c.args.k = c.data_place-place.ensures.0 ∙ (λ t. data_place (sym same t) (sym i.1.slot_is t) c.args.k) in
    let word_is : word_in c.data_place-place.result c.self.inside.seat.me.0 ≡ c.args.k = told_place g.A.Attach.fits k [] c.self.inside.seat.me.0 c.args.k c.args.word c.self.inside.seat.me.0.layout _ (i.0.layout_is ∙ here) place in (
      tied_on _ c.self.inside.seat _ told.0 (told.2.4 ∙ i.0.empty) (ap (λ (v : SeatView). v.layout) e) (ap (λ (v : SeatView). v.literals) e) i.0,
      is_ref_by g.A.Attach.fits _ _ _ _ _ _ e (ref_wrote g.A.Attach.fits c.self.inside.seat.me.0 _ _ _ _ told.2.0 _ _ c.args.word c.args.k told.2.1 (sym i.1.bare_is ∙ is_bare) word_is low (subst (λ (l : Layout). c.args.k < l.capacity_words) (sym i.0.layout_is) high) i.1),
    )
