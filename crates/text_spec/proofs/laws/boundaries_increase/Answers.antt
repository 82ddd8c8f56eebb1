use Rattle.text_spec.proofs.Walk.{start-strict}
use Rattle.text_spec.proofs.laws.boundaries_increase.Goals as goal

pub returns : goal.returns
returns c = record { strictly = start-strict }
