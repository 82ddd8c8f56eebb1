use Rattle.std.proofs.Common.{arith}
use Rattle.text_spec.proofs.Downward.{down-length, down-greatest}
use Rattle.substring.proofs.sub_text.SubText.low.Goals as goal

pub returns-clause-order : goal.returns-clause-order
returns-clause-order c =
    rw (← c.self.view_is)
    (down-greatest _ _ c.self.inside.high _ (down-length _ _ c.self.inside.low) (omega (arith, c.self.invariant.low, c.self.invariant.order)))
