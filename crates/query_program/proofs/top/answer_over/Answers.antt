use Rattle.std.proofs.Common.{rules, IfSome, IsErrOf, subst}
use Rattle.query_session.specs.State.{State}
use Rattle.query_program.specs.Answers.{empty}
use Rattle.query_program.specs.Ends.{Ends}
use Rattle.query_program.proofs.Kept.{begun-whole, texts-empty}
use Rattle.query_program.proofs.Progress.{ends-unbegun}
use Rattle.query_program.specs.declared.stop.Stop.TheVariants.{OutOfMemory}
use Rattle.query_program.proofs.Used.{run-done}
use Rattle.query_program.proofs.top.answer_over.Goals as goal

pub returns-in_default-clause-ends : goal.returns-in_default-clause-ends
returns-in_default-clause-ends g c = ends-unbegun empty (g.S.Source.left c.args.source.now) (g.K.Sink.written c.args.sink.now)

pub answer_stream-end-requires-after_bounds : goal.answer_stream-end-requires-after_bounds
answer_stream-end-requires-after_bounds g c κs within =
    let e = c.in-Ok.ensures in begun-whole c.in-Ok.session c.args.pass c.requires.credits e.values e.failed e.pass

pub returns-in-Err-OutOfMemory-clause-ends : goal.returns-in-Err-OutOfMemory-clause-ends
returns-in-Err-OutOfMemory-clause-ends g c =
    subst (λ (s : State). IfSome (g.S.Source.left c.args.source.now)
    (Ends s (g.S.Source.left c.answer_stream-end.new.source) (g.K.Sink.written c.args.sink.now) (g.K.Sink.written c.answer_stream-end.new.sink) c.answer_stream-end.result))
    (texts-empty c.in-Ok.session.values c.in-Ok.ensures.values) c.answer_stream-end.ensures.ends

pub returns-clause-ends : goal.returns-clause-ends
returns-clause-ends g c =
    subst (λ (s : State). IfSome (g.S.Source.left c.args.source.now)
    (Ends s (g.S.Source.left c.answer_stream-end.new.source) (g.K.Sink.written c.args.sink.now) (g.K.Sink.written c.answer_stream-end.new.sink) c.answer_stream-end.result))
    (texts-empty c.in-Ok.session.values c.in-Ok.ensures.values) c.answer_stream-end.ensures.ends

pub returns-clause-done : goal.returns-clause-done
returns-clause-done g c =
    let e = c.in-Ok.ensures in
    let found : IsErrOf c.answer_stream-end.result OutOfMemory → ⊥ = search rules in
    run-done (g.S.Source.left c.args.source.now) c.answer_stream-end.result c.in-Ok.session.values c.answer_stream-end.new.session.values c.args.pass c.in-Ok.session.pass c.answer_stream-end.new.session.pass
    c.end.result c.ended.result _ _ e.values e.pass found c.answer_stream-end.ensures.done c.end.ensures.did c.ended.ensures
