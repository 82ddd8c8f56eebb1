use Rattle.std.proofs.Common.{sym, ap, ◌∙◌}
use Rattle.std.proofs.lemmas.List.{map-set}
use Rattle.slot_model.specs.History.{cleared}
use Rattle.slot_model.specs.Checking.{slot_in, heap_in}
use Rattle.slot_model.proofs.advance.clear.Goals as goal

pub returns-then-side-slots : goal.returns-then-side-slots
returns-then-side-slots c = map-set slot_in c.args.slots.now c.in-Some.side _ ∙ ap (λ d. cleared d (heap_in c.args.slots.now)) (sym c.in-Some.is)
