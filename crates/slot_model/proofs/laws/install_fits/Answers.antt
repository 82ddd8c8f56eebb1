use Rattle.slot_model.specs.declared.event.Event.TheVariants.{Install}
use Rattle.slot_model.proofs.Firsts.{legal-last}
use Rattle.slot_model.proofs.laws.install_fits.Goals as goal

pub returns : goal.returns
returns g c = let f = g.A.Attach.fits in
    λ k es x d ws found l. (legal-last f k es (Install x d ws found) l).1.4
