use Rattle.std.proofs.Common.{⊎_elim, sym, ap, ◌∙◌}
use Rattle.slot_model.specs.History.{heap_after, at}
use Rattle.slot_model.proofs.Runs.{heap_after-snoc}
use Rattle.slot_model.proofs.Changes.{idle_after}
use Rattle.slot_model.proofs.laws.idle_again_by_detach.Goals as goal

pub returns : goal.returns
returns g c = λ k es e x l busy now. ⊎_elim (λ was. absurd (busy was)) (λ by. by) (idle_after (heap_after k es) e x (ap (λ h. at h x) (sym (heap_after-snoc k es e)) ∙ now))
