use Rattle.std.proofs.Common.{◌≡◌, ◌+◌, ◌≤◌, length}
use Rattle.query_program.specs.declared.limits.TheConstants.{LINE_LIMIT}
use Rattle.query_session.specs.Values.{texts_of}
use Rattle.query_program.specs.Whole.{IsWhole}
use Rattle.query_program.proofs.Stepping.{Stepping}
use Rattle.query_program.proofs.Steps.{Going}
use Rattle.query_program.proofs.replies.answer_lines.Given as goal

abbrev pub invariant-lines : goal.invariant-lines
invariant-lines g l = record {
  going : Going (texts_of l.fn.session.values) (texts_of l.session.values) l.fn.buffer.bytes l.buffer.bytes (g.K.Sink.written l.fn.sink) (g.K.Sink.written l.sink) l.gathered.items;
  stepping : Stepping l.fn.session.values l.session.values l.fn.session.pass l.session.pass l.fn.buffer.bytes l.buffer.bytes (g.K.Sink.written l.fn.sink) (g.K.Sink.written l.sink) l.gathered.items;
  short : length l.buffer.bytes ≤ LINE_LIMIT + 1;
  whole : IsWhole l.session;
  heap : l.session.pass.heap ≡ l.fn.session.pass.heap;
  still : g.K.Sink.faults l.sink ≡ g.K.Sink.faults l.fn.sink;
}

abbrev pub decreases-lines : goal.decreases-lines
decreases-lines g l = length l.buffer.bytes
