use Rattle.slot_model.specs.declared.event.Event.TheVariants.{Write}
use Rattle.slot_model.proofs.Firsts.{legal-last}
use Rattle.slot_model.proofs.laws.write_is_sole.Goals as goal

pub returns : goal.returns
returns g c = let f = g.A.Attach.fits in
    λ k es x j w l. let a = (legal-last f k es (Write x j w) l).1 in (a.1, a.2)
