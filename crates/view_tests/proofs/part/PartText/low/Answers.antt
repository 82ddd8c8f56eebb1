use Rattle.std.proofs.Common.{sym, arith}
use Rattle.text_spec.proofs.Downward.{down-length, down-greatest}
use Rattle.view_tests.proofs.part.PartText.low.Goals as goal

pub returns-clause-value : goal.returns-clause-value
returns-clause-value c = rw (← c.self.view_is) (sym c.self.invariant.1)

pub returns-clause-order : goal.returns-clause-order
returns-clause-order c = rw (← c.self.view_is) (down-greatest _ _ c.self.inside.high _ (down-length _ _ c.self.inside.low) (omega (arith, c.self.invariant.0, c.self.invariant.1)))
