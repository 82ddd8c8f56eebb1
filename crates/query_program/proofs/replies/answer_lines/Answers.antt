use Rattle.std.proofs.Common.{rules, inr, sym, subst, OnOk, Ok, Err, Result, None}
use Rattle.memchr.specs.Find.{IsFirstByte, is_byte}
use Rattle.query_session.specs.Values.{texts_of}
use Rattle.query_program.proofs.Stepping.{Stepping, all-done, some-sent, stepping-first, stepping-line, stepping-sent}
use Rattle.query_program.proofs.Steps.{Going, going-first, begun-so_far, going-on, begun-more, answered-all, begun-end}
use Rattle.query_program.proofs.replies.answer_lines.Goals as goal

on_ok : {A E P Q : Type 0} (r : Result A E) → (P → Q) → OnOk r P → OnOk r Q
on_ok (Ok x) f p = f p
on_ok (Err e) f p = p

-- what was sent before the line begins the answers
pub returns-in_err-answer_first-clause-begun : goal.returns-in_err-answer_first-clause-begun
returns-in_err-answer_first-clause-begun g c = begun-so_far _ _ _ _ _ _ (g.K.Sink.written c.lines.sink) _ c.lines.invariant.going

pub lines-init : goal.lines-init
lines-init g c = record {
  going = going-first _ _ _ _ c.requires.empty;
  stepping = stepping-first _ _ _ _ _ c.requires.empty;
  short = search rules;
  whole = search rules;
  heap = search rules;
  still = search rules;
}

pub lines-preserved : goal.lines-preserved
lines-preserved g c =
    let going = subst (λ b. Going (texts_of c.args.session.now.values) (texts_of c.lines.session.values) c.args.buffer.now.bytes b.bytes (g.K.Sink.written c.args.sink.now) (g.K.Sink.written c.lines.sink) c.lines.gathered.items) (sym c.first_line.ensures.same) c.lines.invariant.going in
    let stepping = subst (λ b. Stepping c.args.session.now.values c.lines.session.values c.args.session.now.pass c.lines.session.pass c.args.buffer.now.bytes b.bytes (g.K.Sink.written c.args.sink.now) (g.K.Sink.written c.lines.sink) c.lines.gathered.items) (sym c.first_line.ensures.same) c.lines.invariant.stepping in
    record {
      going = going-on _ _ _ _ _ _ _ _ _ _ _ _ going c.in_ok-answer_first.ensures.answered c.in_ok-send_large.ensures.sent;
      stepping = stepping-sent _ _ _ _ _ _ _ _ _ (stepping-line _ _ _ _ _ _ _ _ _ stepping _ _ _ _ c.in_ok-answer_first.ensures.done) _ _ c.in_ok-send_large.ensures.sent;
      short = search rules;
      whole = search rules;
      heap = search rules;
      still = search rules;
    }

pub returns-in_err-send_large-clause-begun : goal.returns-in_err-send_large-clause-begun
returns-in_err-send_large-clause-begun g c =
    let going = subst (λ b. Going (texts_of c.args.session.now.values) (texts_of c.lines.session.values) c.args.buffer.now.bytes b.bytes (g.K.Sink.written c.args.sink.now) (g.K.Sink.written c.lines.sink) c.lines.gathered.items) (sym c.first_line.ensures.same) c.lines.invariant.going in
    begun-more _ _ _ _ _ _ _ _ _ _ _ c.send_large.new.gathered.items going c.in_ok-answer_first.ensures.answered c.in_err-send_large.ensures.begun

pub returns-clause-answered : goal.returns-clause-answered
returns-clause-answered g c =
    let going = subst (λ b. Going (texts_of c.args.session.now.values) (texts_of c.lines.session.values) c.args.buffer.now.bytes b.bytes (g.K.Sink.written c.args.sink.now) (g.K.Sink.written c.lines.sink) c.lines.gathered.items) (sym c.first_line.ensures.same) c.lines.invariant.going in
    let none : IsFirstByte (is_byte 10) c.first_line.new.self.bytes None = search rules in
    on_ok c.send.result (answered-all _ _ _ _ _ _ _ _ going none) c.send.ensures.sent

pub returns-clause-begun : goal.returns-clause-begun
returns-clause-begun g c =
    let going = subst (λ b. Going (texts_of c.args.session.now.values) (texts_of c.lines.session.values) c.args.buffer.now.bytes b.bytes (g.K.Sink.written c.args.sink.now) (g.K.Sink.written c.lines.sink) c.lines.gathered.items) (sym c.first_line.ensures.same) c.lines.invariant.going in
    let none : IsFirstByte (is_byte 10) c.first_line.new.self.bytes None = search rules in
    begun-end _ _ _ _ _ _ _ _ going none c.send.ensures.begun

-- ---- what the lines did

pub returns-in_err-send_large-clause-some : goal.returns-in_err-send_large-clause-some
returns-in_err-send_large-clause-some g c =
    let stepping = subst (λ b. Stepping c.args.session.now.values c.lines.session.values c.args.session.now.pass c.lines.session.pass c.args.buffer.now.bytes b.bytes (g.K.Sink.written c.args.sink.now) (g.K.Sink.written c.lines.sink) c.lines.gathered.items) (sym c.first_line.ensures.same) c.lines.invariant.stepping in
    inr (some-sent _ _ _ _ _ _ _ _ _ (stepping-line _ _ _ _ _ _ _ _ _ stepping _ _ _ _ c.in_ok-answer_first.ensures.done) _ c.in_err-send_large.ensures.begun)

pub returns-clause-done : goal.returns-clause-done
returns-clause-done g c =
    let stepping = subst (λ b. Stepping c.args.session.now.values c.lines.session.values c.args.session.now.pass c.lines.session.pass c.args.buffer.now.bytes b.bytes (g.K.Sink.written c.args.sink.now) (g.K.Sink.written c.lines.sink) c.lines.gathered.items) (sym c.first_line.ensures.same) c.lines.invariant.stepping in
    let none : IsFirstByte (is_byte 10) c.first_line.new.self.bytes None = search rules in
    on_ok c.send.result (λ _. all-done _ _ _ _ _ _ _ _ _ stepping none) c.send.ensures.sent

pub returns-clause-some : goal.returns-clause-some
returns-clause-some g c =
    let stepping = subst (λ b. Stepping c.args.session.now.values c.lines.session.values c.args.session.now.pass c.lines.session.pass c.args.buffer.now.bytes b.bytes (g.K.Sink.written c.args.sink.now) (g.K.Sink.written c.lines.sink) c.lines.gathered.items) (sym c.first_line.ensures.same) c.lines.invariant.stepping in
    inr (some-sent _ _ _ _ _ _ _ _ _ stepping _ c.send.ensures.begun)
