use Rattle.std.proofs.Common.{rules, sym, ap, ◌∙◌}
use Rattle.slot_table.specs.Owners.{HeapId}
use Rattle.slot_table.proofs.Ending.{concludes_allowed}
use Rattle.slot_table.proofs.pass.Pass.end.Goals as goal

pub load-requires : goal.load-requires
load-requires g c = let i = c.self.invariant in (search rules, search rules, concludes_allowed g.A.Attach.fits _ _ _ _ _ _ i.1.role (i.0.layout_is ∙ sym (c.heap.invariant.layout_is ∙ ap (λ (z : HeapId). z.layout) c.heap.view_is)))
