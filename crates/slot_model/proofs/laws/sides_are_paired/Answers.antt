use Rattle.slot_model.proofs.Sides.{paired_after}
use Rattle.slot_model.proofs.laws.sides_are_paired.Goals as goal

pub returns : goal.returns
returns g c = let f = g.A.Attach.fits in
    λ k es l. paired_after f k es l
