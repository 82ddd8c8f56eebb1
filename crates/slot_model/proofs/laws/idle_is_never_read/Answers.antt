use Rattle.slot_model.specs.History.{heap_after}
use Rattle.slot_model.proofs.Firsts.{legal-last}
use Rattle.slot_model.proofs.Changes.{on_idle}
use Rattle.slot_model.proofs.laws.idle_is_never_read.Goals as goal

pub returns : goal.returns
returns g c = let f = g.A.Attach.fits in
    λ k es e l none. on_idle f k (heap_after k es) e (legal-last f k es e l).1 none
