use Rattle.std.proofs.Common.{rules, ◌≡◌, cond, sym, ap, ◌∙◌, eq-eqb}
use Rattle.slot_table.specs.declared.view.SeatView.{SeatView}
use Rattle.slot_table.specs.declared.view.Role.{Role}
use Rattle.slot_table.specs.declared.view.Role.TheVariants.{Share, Closing}
use Rattle.slot_table.specs.Addresses.{count_place, side_place}
use Rattle.slot_table.proofs.Releasing.{releases_allowed}
use Rattle.slot_table.proofs.GivingBack.{gives_back_allowed}
use Rattle.slot_table.proofs.reference.give_up.Goals as goal

pub fetch_sub-found-requires : goal.fetch_sub-found-requires
fetch_sub-found-requires g c = let i = c.requires.is.3 in let same = c.heap.invariant.layout_is in let k = c.heap.inside.table.shared.key.layout in
    let place : c.count_place-place.result ≡ count_place k c.args.seat.now.me.0.slot = c.count_place-place.ensures.0 ∙ (λ t. count_place (sym same t) (sym i.slot_is t)) in
    (search rules, search rules, releases_allowed g.A.Attach.fits k _ _ _ _ _ i.role i.light i.no_draft place)

pub swap-requires : goal.swap-requires
swap-requires g c = let i = c.requires.is.3 in let same = c.heap.invariant.layout_is in let k = c.heap.inside.table.shared.key.layout in
    let now = c.fetch_sub-found.ensures.2.1.3 in
    let place : c.side_place-side.result ≡ side_place k c.fetch_sub-found.new.seat.me.0.slot = c.side_place-side.ensures.0 ∙ (λ t. side_place (sym same t) ((sym i.slot_is ∙ ap (λ (v : SeatView). v.slot) (sym now)) t)) in
    let closed : c.fetch_sub-found.new.seat.me.0.role ≡ Closing = ap (λ (v : SeatView). v.role) now ∙ ap (λ b. let z : Role = cond b Closing Share in z) (eq-eqb _ 1 c.if-found-eq1.true) in
    (search rules, search rules, gives_back_allowed g.A.Attach.fits k _ _ _ _ _ closed (ap (λ (v : SeatView). v.draft) now ∙ i.no_draft) place)
