use Rattle.std.proofs.Common.{rules, ◌≡◌, ◌+◌, ◌<◌, ◌≤◌, ℕ, List, [], get_or, length, sym, ap, ◌∙◌, subst, arith, IsUtf8}
use Rattle.std.proofs.lemmas.Grind.{get_or_default_zero}
use Rattle.literal_rows.specs.Rows.{row_start}
use Rattle.literal_rows.proofs.Placed.{length-starts, starts-at}
use Rattle.slot_table.specs.declared.view.SeatView.{SeatView}
use Rattle.slot_table.specs.Addresses.{table_size}
use Rattle.slot_table.specs.Opening.{most_bytes}
use Rattle.slot_table.specs.Owners.{HeapId, PassSeen}
use Rattle.slot_table.proofs.Reciting.{literal_allowed}
use Rattle.slot_table.proofs.Tying.{tied_on}
use Rattle.slot_table.proofs.pass.Pass.literal.Goals as goal

pub index-start-requires : goal.index-start-requires
index-start-requires g c =
    let there : c.args.number < length c.self.inside.heap.now.literals = subst (λ (h : PassSeen). c.args.number < length h.heap.literals) (sym c.self.view_is) c.requires in
    let same = ap (λ (z : HeapId). length z.literals) c.heap.view_is in
    let counted = ap length c.heap.invariant.starts_are ∙ length-starts _ _ in
    omega (arith, there, same, counted)

pub split_seat-seat-requires : goal.split_seat-seat-requires
split_seat-seat-requires g c =
    let i = c.self.invariant in (
      search rules,
      search rules,
      literal_allowed g.A.Attach.fits _ _ _ _ (i.0.layout_is ∙ sym (c.heap.invariant.layout_is ∙ ap (λ (z : HeapId). z.layout) c.heap.view_is)) (i.0.literals_are ∙ sym (c.heap.invariant.literals_are ∙ ap (λ (z : HeapId). z.literals) c.heap.view_is)),
    )

pub invariant_of-result : goal.invariant_of-result
invariant_of-result g c =
    let i = c.self.invariant in
    let e = c.split_seat-seat.ensures in
    let new = ap (λ m. m.0) e.4 in
    let n : ℕ = c.args.number in
    let h : HeapId = c.self.inside.heap.now in
    let z = c.heap.inside.table.shared.key.literals.value in
    let there : n < length h.literals = subst (λ (p : PassSeen). n < length p.heap.literals) (sym c.self.view_is) c.requires in
    let same : z ≡ h.literals = ap (λ (w : HeapId). w.literals) c.heap.view_is in
    let before : table_size c.heap.inside.layout ≡ table_size h.layout = ap (λ (w : HeapId). table_size w.layout) c.heap.view_is in
    let found = ap (λ (l : List ℕ). get_or l n 0) c.heap.invariant.starts_are in
    let counted = ap length same in
    let at_start = starts-at (table_size c.heap.inside.layout) z n (omega (arith, there, counted)) in
    let moved = ap (λ (l : List (List ℕ)). row_start l n) same in
    let many = ap length c.heap.invariant.starts_are ∙ length-starts (table_size c.heap.inside.layout) z in
    let read = get_or_default_zero c.heap.inside.starts.items n c.index-start.result.now (omega (arith, there, counted, many)) in
    let start : c.index-start.result.now ≡ table_size h.layout + row_start h.literals n = omega (arith, c.index-start.ensures, read, found, at_start, moved, before) in (
      tied_on _ c.self.inside.seat _ e.3 (ap (λ m. m.1) e.4) (ap (λ (v : SeatView). v.layout) new) (ap (λ (v : SeatView). v.literals) new) i.0,
      record { there = there; start_is = start },
    )

-- the heap's literals are texts that fit
pub returns-clause-text : goal.returns-clause-text
returns-clause-text g c =
    subst (λ (p : PassSeen). IsUtf8 (get_or p.heap.literals c.args.number [])) c.self.view_is
    (subst (λ (z : HeapId). IsUtf8 (get_or z.literals c.args.number [])) c.heap.view_is (c.heap.invariant.texts c.args.number))
