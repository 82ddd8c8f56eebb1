use Rattle.query_session.proofs.Batching.{PartingOn}
use Rattle.query_session.proofs.batch.part.Given as goal

abbrev pub invariant-loop-one : goal.invariant-loop-one
invariant-loop-one l = record {
  parting : PartingOn l.fn.done.items l.fn.keeps.items l.one-iterator.rest.items l.keeps.rest.items l.replies.items l.values.items;
}
