use Rattle.query_lines.proofs.Fitting.{content-well_formed}
use Rattle.query_lines.proofs.commands_read.load_of.Goals as goal

pub returns-clause-well_formed : goal.returns-clause-well_formed
returns-clause-well_formed c = λ short. (c.in_ok-name.ensures.well_formed, content-well_formed _ _ c.in_ok-what.ensures.ok c.in_ok-what.ensures.well_formed short)
