-- As many slots as turns have been made, each of them idle, and there is room for all.
use Rattle.std.proofs.Common.{◌≡◌, ◌≤◌, replicate, vec_len, vec_capacity}
use Rattle.slot_model.specs.History.{idle}
use Rattle.slot_model.specs.Checking.{heap_in}
use Rattle.slot_model.proofs.check.idle_slots.Given as goal

abbrev pub invariant-loop : goal.invariant-loop
invariant-loop l = (heap_in l.states.items ≡ replicate l.counter idle) × (vec_len l.states ≡ l.counter) × (l.slots ≤ vec_capacity l.states)
