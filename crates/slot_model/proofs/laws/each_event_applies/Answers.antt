use Rattle.slot_model.proofs.Firsts.{applies-at, all_apply}
use Rattle.slot_model.proofs.laws.each_event_applies.Goals as goal

pub returns : goal.returns
returns g c = let f = g.A.Attach.fits in
    λ k es. (λ l n e there. applies-at f k es n e l there, λ all. all_apply f k es all)
