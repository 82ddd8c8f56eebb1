use Rattle.std.proofs.Common.{◌≡◌, ◌∙◌, ap, sym, length, Some, List, ℕ}
use Rattle.made_input.specs.Made.{made}
use Rattle.query_program.specs.Answers.{answers}
use Rattle.query_program.specs.Summary.{summary_text, mark_of}
use Rattle.query_program.proofs.Summed.{ok_from, tallied, summed}
use Rattle.query_program.proofs.top.summarized.Goals as goal

pub returns-clause-text : goal.returns-clause-text
returns-clause-text g c =
    let tally = c.answer_input-end.new.sink.written in
    let input = ok_from (λ (x : List ℕ). x ≡ made c.args.made.number c.args.made.lines) c.new.result c.in_ok-input.input (sym c.ok-2.ensures.value ∙ c.in_ok-input.was) c.new.ensures in
    let total = ok_from (λ (n : ℕ). n ≡ length (made c.args.made.number c.args.made.lines)) c.length_of.result c.in_ok-input_length.input_length (sym c.ok.ensures.value ∙ c.in_ok-input_length.was) c.length_of.ensures in
    let written = tallied c.answer_input-end.result.end (Some c.answer_input-end.new.source) c.in_ok-input.input c.new-tally.result.written tally (sym c.is_err.ensures.value ∙ c.if-is_err.false) c.new-tally.ensures.0 c.answer_input-end.ensures.ends in
    let text = ok_from (λ t. t.items ≡ summary_text c.args.made.lines c.in_ok-input_length.input_length (length tally) (mark_of tally)) c.summary_text.result c.in_ok-text.text (sym c.ok-3.ensures.value ∙ c.in_ok-text.was) c.summary_text.ensures in
    summed c.in_ok-text.text.items c.args.made.number c.args.made.lines c.in_ok-input_length.input_length tally text total (written ∙ ap answers input)
