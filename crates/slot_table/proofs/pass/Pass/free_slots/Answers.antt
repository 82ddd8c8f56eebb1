use Rattle.std.proofs.Common.{◌≤◌, length, arith, subst}
use Rattle.slot_model.specs.declared.layout.Layout.{Layout}
use Rattle.slot_table.proofs.Counting.{once_length}
use Rattle.slot_table.proofs.pass.Pass.free_slots.Goals as goal

-- each free slot is one of the heap's, and stands once
pub overflow_cast-result : goal.overflow_cast-result
overflow_cast-result g c = let i = c.self.invariant in
    let few : length c.self.inside.free.items ≤ c.self.inside.heap.now.layout.slots = subst (λ (l : Layout). length c.self.inside.free.items ≤ l.slots) i.0.layout_is (once_length _ _ i.1.once) in
    let most = i.0.laid.slots_most in omega arith
