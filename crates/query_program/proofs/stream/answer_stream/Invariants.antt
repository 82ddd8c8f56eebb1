use Rattle.std.proofs.Common.{◌≡◌, ◌≤◌, ◌-◌, [], length}
use Rattle.query_program.specs.declared.limits.TheConstants.{LINE_LIMIT, INPUT_LIMIT}
use Rattle.query_session.specs.Values.{texts_of}
use Rattle.query_program.specs.Whole.{IsWhole}
use Rattle.query_program.proofs.Progress.{Progress}
use Rattle.query_program.proofs.Stepping.{Reading}
use Rattle.query_program.proofs.stream.answer_stream.Given as goal

abbrev pub invariant-reads : goal.invariant-reads
invariant-reads g l = record {
  progress : Progress (texts_of l.fn.session.values) (texts_of l.session.values) (g.S.Source.left l.fn.source) (g.S.Source.left l.source) (g.K.Sink.written l.fn.sink) (g.K.Sink.written l.sink) l.buffer.bytes l.total;
  reading : Reading l.fn.session.values l.session.values l.fn.session.pass l.session.pass (g.S.Source.left l.fn.source) (g.S.Source.left l.source) (g.K.Sink.written l.fn.sink) (g.K.Sink.written l.sink) l.buffer.bytes;
  within : l.total ≤ INPUT_LIMIT;
  fits : length l.buffer.bytes ≤ LINE_LIMIT;
  empty : l.gathered.items ≡ [];
  whole : IsWhole l.session;
  heap : l.session.pass.heap ≡ l.fn.session.pass.heap;
  source_still : g.S.Source.faults l.source ≡ g.S.Source.faults l.fn.source;
  sink_still : g.K.Sink.faults l.sink ≡ g.K.Sink.faults l.fn.sink;
}

abbrev pub decreases-reads : goal.decreases-reads
decreases-reads g l = INPUT_LIMIT - l.total
