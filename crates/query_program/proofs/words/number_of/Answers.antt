use Rattle.std.proofs.Common.{◌∙◌, ap, sym}
use Rattle.std.specs.List.{list_all}
use Rattle.std.specs.Char.{is_ascii_digit}
use Rattle.query_program.proofs.Equals.{none_without, number_read}
use Rattle.query_program.proofs.words.number_of.Goals as goal

pub returns-then-not-all_digits : goal.returns-then-not-all_digits
returns-then-not-all_digits c = sym (none_without c.args.text.now (ap (list_all is_ascii_digit) (sym c.as_bytes.ensures.value) ∙ (sym c.all_digits.ensures ∙ c.if-not-all_digits.true)))

pub returns : goal.returns
returns c = c.ok.ensures.value ∙ number_read c.args.text.now c.parse.result (ap (list_all is_ascii_digit) (sym c.as_bytes.ensures.value) ∙ (sym c.all_digits.ensures ∙ c.if-not-all_digits.false)) c.parse.ensures.value.0
