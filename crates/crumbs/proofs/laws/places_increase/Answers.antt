use Rattle.crumbs.proofs.Crumbing.{index16-increases}
use Rattle.crumbs.proofs.laws.places_increase.Goals as goal

pub returns : goal.returns
returns c = record { later = index16-increases }
