use Rattle.std.proofs.Common.{sym}
use Rattle.text_spec.proofs.Downward.{down-length}
use Rattle.view_tests.proofs.part.PartText.high.Goals as goal

pub returns-clause-value : goal.returns-clause-value
returns-clause-value c = rw (← c.self.view_is) (sym c.self.invariant.2)

pub returns-clause-inside : goal.returns-clause-inside
returns-clause-inside c = down-length _ _ _
