use Rattle.std.proofs.Common.{ap, ◌∙◌}
use Rattle.slot_model.specs.History.{heap_after, at}
use Rattle.slot_model.proofs.Runs.{heap_after-snoc}
use Rattle.slot_model.proofs.Changes.{others_after}
use Rattle.slot_model.proofs.laws.others_stay.Goals as goal

pub returns : goal.returns
returns g c = λ k es e x l apart other. ap (λ h. at h x) (heap_after-snoc k es e) ∙ others_after (heap_after k es) e x apart other
