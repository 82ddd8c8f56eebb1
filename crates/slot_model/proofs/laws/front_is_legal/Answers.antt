use Rattle.slot_model.proofs.Firsts.{legal-append}
use Rattle.slot_model.proofs.laws.front_is_legal.Goals as goal

pub returns : goal.returns
returns g c = let f = g.A.Attach.fits in
    λ k es fs l. (legal-append f k es fs l).0
