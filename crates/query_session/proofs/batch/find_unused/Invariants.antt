use Rattle.std.proofs.Common.{◌≡◌, drop}
use Rattle.query_session.specs.Batching.{first_unused}
use Rattle.query_session.specs.Values.{texts_of}
use Rattle.query_session.proofs.batch.find_unused.Given as goal

abbrev pub invariant-loop-number : goal.invariant-loop-number
invariant-loop-number l = first_unused (texts_of l.names) l.lines ≡ first_unused (texts_of l.names) (drop l.number l.lines)
