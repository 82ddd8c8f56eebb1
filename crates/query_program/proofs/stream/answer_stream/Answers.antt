use Rattle.std.proofs.Common.{rules, arith, ◌≡◌, [], ◌∷◌, length, IfSome, ℕ, List, ◌++◌, sym, ap, ◌∙◌, subst, Err, Ok, Result, Option, Some, None}
use Rattle.std.specs.Io.KnownBytes.{Appends, Consumes, IsAtEnd}
use Rattle.outside.specs.Bytes.{AppendsPrefix}
use Rattle.std.proofs.Common.{append-nil}
use Rattle.std.specs.Prelude.{IsErrAnd}
use Rattle.std.proofs.lemmas.List.{nil_from_length}
use Rattle.query_session.specs.Values.{texts_of}
use Rattle.query_program.specs.Answers.{answers_from}
use Rattle.query_program.specs.Lines.{lines, less_empty_end, whole_lines}
use Rattle.query_program.specs.Ends.{Ends, Probed, limit_stop}
use Rattle.query_program.specs.Reads.{Filled}
use Rattle.query_program.specs.Writes.{Answered}
use Rattle.query_program.specs.declared.stop.Stop.{Stop}
use Rattle.query_program.proofs.Progress.{progress-on, ends-read, ends-write, ends-last, ends-line, ends-limit, answered-none, last-end, LastEnd}
use Rattle.query_program.specs.Runs.{LinesDone, SomeDone}
use Rattle.query_program.proofs.Stepping.{DoneUnless, reading-on, some-read, some-kept, some-written, some-last}
use Rattle.query_program.proofs.stream.answer_stream.Goals as goal

-- a read that gave nothing took nothing
nothing-read : (old new : Option (List ℕ)) (bytes more : List ℕ) (most n : ℕ) → Filled old new bytes more most n → n ≡ 0 → Consumes old new [] × IsAtEnd new × (more ≡ bytes)
nothing-read old new bytes more most n f none =
    let empty : f.read ≡ [] = nil_from_length f.read (f.count ∙ none) in
    (subst (Consumes old new) empty f.taken, f.end none, f.added ∙ ap (λ xs. bytes ++ xs) empty ∙ append-nil bytes)

-- what an error was made of by `?`
error-of : (r : Result (Unit {0}) Stop) (stop : Stop) → IsErrAnd r (λ e. e ≡ stop) → r ≡ Err stop
error-of (Ok x) stop h = absurd h
error-of (Err e) stop h = ap Err h

pub returns-in_err-count-clause-ends : goal.returns-in_err-count-clause-ends
returns-in_err-count-clause-ends g c =
    let stop = c.in_err-count.field-0.0 in
    subst (λ r. IfSome (g.S.Source.left c.args.source.now) (Ends (texts_of c.args.session.now.values) (g.S.Source.left c.fill.new.source) (g.K.Sink.written c.args.sink.now) (g.K.Sink.written c.reads.sink) r))
    (sym (error-of c.from_residual-in_err-count.result stop c.from_residual-in_err-count.ensures.1))
    (ends-read _ _ _ _ _ _ _ _ c.reads.invariant.progress (g.S.Source.left c.fill.new.source) stop c.in_err-count.ensures.kept.1 c.in_err-count.ensures.stops c.reads.invariant.within c.reads.invariant.fits)

pub returns-then-count-eq0-clause-ends : goal.returns-then-count-eq0-clause-ends
returns-then-count-eq0-clause-ends g c =
    let i = c.reads.invariant in
    let n = nothing-read _ _ _ _ _ _ c.in_ok-count.ensures.filled (search rules) in
    ends-last _ _ _ _ _ _ _ _ i.progress (g.S.Source.left c.fill.new.source) (g.K.Sink.written c.answer_last.new.sink) c.answer_last.result n.0 n.1 i.within i.fits
    (subst (λ xs. AppendsPrefix (g.K.Sink.written c.reads.sink) (g.K.Sink.written c.answer_last.new.sink) (answers_from (texts_of c.reads.session.values) (less_empty_end (xs ∷ [])))) n.2 c.answer_last.ensures.begun)
    (subst (λ xs. LastEnd c.answer_last.result (Appends (g.K.Sink.written c.reads.sink) (g.K.Sink.written c.answer_last.new.sink) (answers_from (texts_of c.reads.session.values) (less_empty_end (xs ∷ []))))) n.2 (last-end _ c.answer_last.result c.answer_last.ensures.answered c.answer_last.ensures.stops))

pub returns-in_err-answer_lines-clause-ends : goal.returns-in_err-answer_lines-clause-ends
returns-in_err-answer_lines-clause-ends g c =
    let stop = c.in_err-answer_lines.field-0.0 in
    subst (λ r. IfSome (g.S.Source.left c.args.source.now) (Ends (texts_of c.args.session.now.values) (g.S.Source.left c.fill.new.source) (g.K.Sink.written c.args.sink.now) (g.K.Sink.written c.answer_lines.new.sink) r))
    (sym (error-of c.from_residual-in_err-answer_lines.result stop c.from_residual-in_err-answer_lines.ensures.1))
    (ends-write _ _ _ _ _ _ _ _ c.reads.invariant.progress (g.S.Source.left c.fill.new.source) (g.K.Sink.written c.answer_lines.new.sink) c.fill.new.self.bytes _ _ stop
    c.in_ok-count.ensures.filled
    (subst (λ xs. AppendsPrefix (g.K.Sink.written c.reads.sink) (g.K.Sink.written c.answer_lines.new.sink) (answers_from (texts_of c.reads.session.values) (whole_lines xs)))
    (ap (λ b. b.bytes) c.is_full_of_one_line.ensures.same) c.in_err-answer_lines.ensures.begun)
    c.in_err-answer_lines.ensures.stops
    (omega (arith, c.reads.invariant.within, c.in_ok-count.ensures.filled.most_)) c.in_ok-count.ensures.bound (c.is_full_of_one_line.ensures.short (search rules)))

pub returns-then-is_full_of_one_line-clause-ends : goal.returns-then-is_full_of_one_line-clause-ends
returns-then-is_full_of_one_line-clause-ends g c =
    let i = c.reads.invariant in
    let long = c.is_full_of_one_line.ensures.long (search rules) in
    let p = progress-on _ _ _ _ _ _ _ _ i.progress (texts_of c.reads.session.values) (g.S.Source.left c.fill.new.source) (g.K.Sink.written c.reads.sink) c.fill.new.self.bytes c.fill.new.self.bytes _ _
    c.in_ok-count.ensures.filled c.in_ok-count.ensures.bound (answered-none (texts_of c.reads.session.values) c.fill.new.self.bytes (g.K.Sink.written c.reads.sink) long.1) in
    ends-line _ _ _ _ _ _ _ _ p (search rules) long.0

pub reads-preserved : goal.reads-preserved
reads-preserved g c =
    let i = c.reads.invariant in
    let same = ap (λ b. b.bytes) c.is_full_of_one_line.ensures.same in
    let answered = subst (λ xs. Answered (texts_of c.reads.session.values) (texts_of c.answer_lines.new.session.values) xs c.answer_lines.new.buffer.bytes (g.K.Sink.written c.reads.sink) (g.K.Sink.written c.answer_lines.new.sink))
    same c.in_ok-answer_lines.ensures.answered in
    let done = subst (λ xs. LinesDone (whole_lines xs) c.reads.session.values c.reads.session.pass c.answer_lines.new.session.values c.answer_lines.new.session.pass) same c.in_ok-answer_lines.ensures.done in
    record {
      progress = progress-on _ _ _ _ _ _ _ _ i.progress (texts_of c.answer_lines.new.session.values) (g.S.Source.left c.fill.new.source) (g.K.Sink.written c.answer_lines.new.sink) c.fill.new.self.bytes c.answer_lines.new.buffer.bytes _ _
          c.in_ok-count.ensures.filled c.in_ok-count.ensures.bound answered;
      reading = reading-on _ _ _ _ _ _ _ _ _ i.reading c.answer_lines.new.session.values c.answer_lines.new.session.pass (g.S.Source.left c.fill.new.source) (g.K.Sink.written c.answer_lines.new.sink)
          c.fill.new.self.bytes c.answer_lines.new.buffer.bytes _ _ c.in_ok-count.ensures.filled done answered.replies answered.rest;
      within = search rules;
      fits = omega (arith, ap length answered.rest, c.is_full_of_one_line.ensures.short (search rules));
      empty = search rules;
      whole = search rules;
      heap = search rules;
      source_still = search rules;
      sink_still = search rules;
    }

pub returns-in_err-read_one-clause-ends : goal.returns-in_err-read_one-clause-ends
returns-in_err-read_one-clause-ends g c =
    let stop = c.in_err-read_one.field-0.0 in
    subst (λ r. IfSome (g.S.Source.left c.args.source.now) (Ends (texts_of c.args.session.now.values) (g.S.Source.left c.read_one.new.source) (g.K.Sink.written c.args.sink.now) (g.K.Sink.written c.reads.sink) r))
    (sym (error-of c.from_residual-in_err-read_one.result stop c.from_residual-in_err-read_one.ensures.1))
    (ends-read _ _ _ _ _ _ _ _ c.reads.invariant.progress (g.S.Source.left c.read_one.new.source) stop c.in_err-read_one.ensures.kept c.in_err-read_one.ensures.stops c.reads.invariant.within c.reads.invariant.fits)

pub returns-in-None-clause-ends : goal.returns-in-None-clause-ends
returns-in-None-clause-ends g c =
    let i = c.reads.invariant in
    let r : Probed (g.S.Source.left c.reads.source) (g.S.Source.left c.read_one.new.source) None = search rules in
    ends-last _ _ _ _ _ _ _ _ i.progress (g.S.Source.left c.read_one.new.source) (g.K.Sink.written c.answer_last-in-None.new.sink) c.answer_last-in-None.result r.0 r.1 i.within i.fits
    c.answer_last-in-None.ensures.begun (last-end _ c.answer_last-in-None.result c.answer_last-in-None.ensures.answered c.answer_last-in-None.ensures.stops)

pub returns-clause-ends : goal.returns-clause-ends
returns-clause-ends g c =
    let i = c.reads.invariant in
    let r : Probed (g.S.Source.left c.reads.source) (g.S.Source.left c.read_one.new.source) (Some c.in-Some.byte) = search rules in
    let is : c.limit_passed.result ≡ limit_stop (length c.reads.buffer.bytes) c.in-Some.byte = search rules in
    subst (λ s. IfSome (g.S.Source.left c.args.source.now) (Ends (texts_of c.args.session.now.values) (g.S.Source.left c.read_one.new.source) (g.K.Sink.written c.args.sink.now) (g.K.Sink.written c.reads.sink) (Err s))) (sym is)
    (ends-limit _ _ _ _ _ _ _ _ i.progress (g.S.Source.left c.read_one.new.source) c.in-Some.byte r (search rules) i.fits)

-- ---- what the lines did

pub returns-in_err-count-clause-done : goal.returns-in_err-count-clause-done
returns-in_err-count-clause-done g c =
    some-kept _ _ _ _ _ _ _ _ _ c.reads.invariant.reading (g.S.Source.left c.fill.new.source) c.from_residual-in_err-count.result c.in_err-count.ensures.kept.1

pub returns-then-count-eq0-clause-done : goal.returns-then-count-eq0-clause-done
returns-then-count-eq0-clause-done g c =
    let n = nothing-read _ _ _ _ _ _ c.in_ok-count.ensures.filled (search rules) in
    some-last _ _ _ _ _ _ _ _ _ c.reads.invariant.reading c.answer_last.new.session.values c.answer_last.new.session.pass (g.S.Source.left c.fill.new.source) (g.K.Sink.written c.answer_last.new.sink)
    c.answer_last.result n.0 n.1
    (subst (λ xs. DoneUnless c.answer_last.result (LinesDone (less_empty_end (xs ∷ [])) c.reads.session.values c.reads.session.pass c.answer_last.new.session.values c.answer_last.new.session.pass)) n.2 c.answer_last.ensures.done)
    (subst (λ xs. AppendsPrefix (g.K.Sink.written c.reads.sink) (g.K.Sink.written c.answer_last.new.sink) (answers_from (texts_of c.reads.session.values) (less_empty_end (xs ∷ [])))) n.2 c.answer_last.ensures.begun)

pub returns-in_err-answer_lines-clause-done : goal.returns-in_err-answer_lines-clause-done
returns-in_err-answer_lines-clause-done g c =
    let stop = c.in_err-answer_lines.field-0.0 in
    let same = ap (λ b. b.bytes) c.is_full_of_one_line.ensures.same in
    subst (λ r. IfSome (g.S.Source.left c.args.source.now) (λ input. DoneUnless r (SomeDone (lines input) c.args.session.now.values c.args.session.now.pass c.answer_lines.new.session.values c.answer_lines.new.session.pass (g.K.Sink.written c.args.sink.now) (g.K.Sink.written c.answer_lines.new.sink))))
    (sym (error-of c.from_residual-in_err-answer_lines.result stop c.from_residual-in_err-answer_lines.ensures.1))
    (some-written _ _ _ _ _ _ _ _ _ c.reads.invariant.reading c.answer_lines.new.session.values c.answer_lines.new.session.pass (g.S.Source.left c.fill.new.source) (g.K.Sink.written c.answer_lines.new.sink)
    c.fill.new.self.bytes _ _ (Err stop) c.in_ok-count.ensures.filled
    (subst (λ xs. DoneUnless (Err stop) (SomeDone (whole_lines xs) c.reads.session.values c.reads.session.pass c.answer_lines.new.session.values c.answer_lines.new.session.pass (g.K.Sink.written c.reads.sink) (g.K.Sink.written c.answer_lines.new.sink)))
    same c.in_err-answer_lines.ensures.some))

pub returns-then-is_full_of_one_line-clause-done : goal.returns-then-is_full_of_one_line-clause-done
returns-then-is_full_of_one_line-clause-done g c =
    some-read _ _ _ _ _ _ _ _ _ c.reads.invariant.reading (g.S.Source.left c.fill.new.source) c.in_ok-count.ensures.filled.read _ c.in_ok-count.ensures.filled.taken

pub returns-in_err-read_one-clause-done : goal.returns-in_err-read_one-clause-done
returns-in_err-read_one-clause-done g c =
    some-kept _ _ _ _ _ _ _ _ _ c.reads.invariant.reading (g.S.Source.left c.read_one.new.source) c.from_residual-in_err-read_one.result c.in_err-read_one.ensures.kept

pub returns-in-None-clause-done : goal.returns-in-None-clause-done
returns-in-None-clause-done g c =
    let r : Probed (g.S.Source.left c.reads.source) (g.S.Source.left c.read_one.new.source) None = search rules in
    some-last _ _ _ _ _ _ _ _ _ c.reads.invariant.reading c.answer_last-in-None.new.session.values c.answer_last-in-None.new.session.pass (g.S.Source.left c.read_one.new.source)
    (g.K.Sink.written c.answer_last-in-None.new.sink) c.answer_last-in-None.result r.0 r.1 c.answer_last-in-None.ensures.done c.answer_last-in-None.ensures.begun

pub returns-clause-done : goal.returns-clause-done
returns-clause-done g c =
    let r : Probed (g.S.Source.left c.reads.source) (g.S.Source.left c.read_one.new.source) (Some c.in-Some.byte) = search rules in
    some-read _ _ _ _ _ _ _ _ _ c.reads.invariant.reading (g.S.Source.left c.read_one.new.source) (c.in-Some.byte ∷ []) _ r
