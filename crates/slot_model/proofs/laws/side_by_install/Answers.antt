use Rattle.std.proofs.Common.{⊎_elim, sym, ap, ◌∙◌}
use Rattle.slot_model.specs.History.{heap_after, at, side_in}
use Rattle.slot_model.proofs.Runs.{heap_after-snoc}
use Rattle.slot_model.proofs.Changes.{side_after}
use Rattle.slot_model.proofs.laws.side_by_install.Goals as goal

pub returns : goal.returns
returns g c = λ k es e x d l without now. ⊎_elim (λ had. absurd (without had)) (λ by. by) (side_after (heap_after k es) e x d (ap (λ h. side_in (at h x)) (sym (heap_after-snoc k es e)) ∙ now))
