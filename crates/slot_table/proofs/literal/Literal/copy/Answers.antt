use Rattle.std.proofs.Common.{rules, sym, ap, ◌∙◌}
use Rattle.slot_table.specs.Owners.{HeapId}
use Rattle.slot_table.proofs.Reciting.{literal_allowed}
use Rattle.slot_table.proofs.literal.Literal.copy.Goals as goal

pub split_seat-seat-requires : goal.split_seat-seat-requires
split_seat-seat-requires g c = let i = c.self.invariant in (
  search rules,
  search rules,
  literal_allowed g.A.Attach.fits _ _ _ _ (i.0.layout_is ∙ sym (c.heap.invariant.layout_is ∙ ap (λ (z : HeapId). z.layout) c.heap.view_is)) (i.0.literals_are ∙ sym (c.heap.invariant.literals_are ∙ ap (λ (z : HeapId). z.literals) c.heap.view_is)),
)
