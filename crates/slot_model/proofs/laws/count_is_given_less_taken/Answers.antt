use Rattle.slot_model.proofs.References.{count-given}
use Rattle.slot_model.proofs.laws.count_is_given_less_taken.Goals as goal

pub returns : goal.returns
returns g c = let f = g.A.Attach.fits in
    λ k es x l. count-given f k es x l
