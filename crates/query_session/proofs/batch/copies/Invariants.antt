use Rattle.query_session.proofs.Copying.{CopyingOn}
use Rattle.query_session.proofs.batch.copies.Given as goal

abbrev pub invariant-loop-line : goal.invariant-loop-line
invariant-loop-line l = record {
  copying : CopyingOn l.fn.names l.fn.pass l.fn.lines.items l.line-iterator.rest.items l.names l.pass l.jobs.items l.keeps.items;
}
