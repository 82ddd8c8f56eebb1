use Rattle.slot_model.specs.History.{heap_after, at}
use Rattle.slot_model.proofs.References.{live_after, counted_held}
use Rattle.slot_model.proofs.laws.held_has_reference.Goals as goal

pub returns : goal.returns
returns g c = let f = g.A.Attach.fits in
    λ k es x l. (λ held. live_after f k es x l held, λ some. counted_held (at (heap_after k es) x) some)
