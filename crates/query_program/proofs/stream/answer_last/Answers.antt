use Rattle.std.proofs.Common.{rules, arith, ◌≡◌, ◌<◌, ◌∙◌, inr, length, subst}
use Rattle.std.proofs.lemmas.List.{take_all}
use Rattle.query_program.specs.Runs.{LineDone}
use Rattle.query_program.proofs.Doing.{last-line}
use Rattle.query_program.proofs.stream.answer_last.Goals as goal

pub returns-clause-done : goal.returns-clause-done
returns-clause-done g c =
    let some : 0 < length c.args.buffer.now.bytes = search rules in
    let count : c.len-2.result ≡ length c.args.buffer.now.bytes = search rules in
    let whole : c.front.result.now ≡ c.args.buffer.now.bytes = c.front.ensures ∙ take_all c.len-2.result c.args.buffer.now.bytes (omega (arith, count)) in
    inr (last-line c.args.buffer.now.bytes c.args.session.now.values c.answer_line.new.session.values c.args.session.now.pass c.answer_line.new.session.pass some
    (subst (λ l. LineDone l c.args.session.now.values c.args.session.now.pass c.answer_line.new.session.values c.answer_line.new.session.pass) whole c.in_ok-answer_line.ensures.done))
