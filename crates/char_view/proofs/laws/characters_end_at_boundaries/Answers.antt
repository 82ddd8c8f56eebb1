use Rattle.char_view.proofs.Cuts.{start-boundary, boundary-start}
use Rattle.char_view.proofs.laws.characters_end_at_boundaries.Goals as goal

pub returns-clause-boundary : goal.returns-clause-boundary
returns-clause-boundary c = start-boundary

pub returns-clause-each : goal.returns-clause-each
returns-clause-each c = boundary-start
