use Rattle.std.proofs.Common.{arith}
use Rattle.query_session.proofs.Storing.{empty-sound}
use Rattle.query_session.proofs.session.Session.new.Goals as goal

pub invariant_of-result : goal.invariant_of-result
invariant_of-result c = record {
  some = c.requires.some;
  few = c.requires.few;
  literals = c.requires.literals;
  sound = λ _. empty-sound _ c.args.pass c.new.ensures;
  enough = λ _. let enough = c.requires.credits in omega (arith, enough);
}
