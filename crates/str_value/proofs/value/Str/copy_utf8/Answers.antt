use Rattle.std.proofs.Common.{sym, ap, ◌∙◌, subst, ◌≡◌, ◌≤◌, IfOk, rules}
use Rattle.text_spec.specs.Text.{utf8, repair}
use Rattle.text_spec.specs.Views.{size_in}
use Rattle.str_value.proofs.Between.{utf8-kept, utf16-kept, read-part8, read-part16, range-all, ok-utf8}
use Rattle.str_value.proofs.Measuring.{boundary-inside}
use Rattle.str_value.proofs.value.Str.copy_utf8.Goals as goal

pub bytes_by_words-requires-clause-inside : goal.bytes_by_words-requires-clause-inside
bytes_by_words-requires-clause-inside c =
    subst (λ e. c.args.high ≤ size_in e c.args.self.now.text) (sym c.in-Utf8.ensures) (boundary-inside c.args.self.now c.args.high c.requires.high)

pub units_by_words-requires-clause-inside : goal.units_by_words-requires-clause-inside
units_by_words-requires-clause-inside c =
    subst (λ e. c.args.high ≤ size_in e c.args.self.now.text) (sym c.in-Utf16.ensures) (boundary-inside c.args.self.now c.args.high c.requires.high)

pub returns-in-Utf8-clause-value : goal.returns-in-Utf8-clause-value
returns-in-Utf8-clause-value c =
    subst (λ text. IfOk c.bytes_by_words.result (λ v. v.items ≡ text))
    (read-part8 c.args.self.now c.args.low c.args.high (utf8-kept _ _ c.args.self.now c.self.invariant c.self.view_is (sym c.in-Utf8.ensures)) c.requires.low c.requires.high c.requires.order)
    c.bytes_by_words.ensures.items

pub returns-in-Utf8-clause-utf8 : goal.returns-in-Utf8-clause-utf8
returns-in-Utf8-clause-utf8 c =
    ok-utf8 c.args.self.now c.args.low c.args.high c.bytes_by_words.result (utf8-kept _ _ c.args.self.now c.self.invariant c.self.view_is (sym c.in-Utf8.ensures)).scalars
    (returns-in-Utf8-clause-value c)

pub returns-in_ok-units-in-Utf16-clause-value : goal.returns-in_ok-units-in-Utf16-clause-value
returns-in_ok-units-in-Utf16-clause-value c =
    subst (λ text. IfOk c.text_between.result (λ v. v.items ≡ text))
    (ap (λ us. utf8 (repair us)) (range-all c.as_slice.result.now c.in_ok-units-in-Utf16.units.items c.len.result c.as_slice.ensures.value (search rules))
    ∙ ap (λ us. utf8 (repair us)) c.in_ok-units-in-Utf16.ensures.items
    ∙ read-part16 c.args.self.now c.args.low c.args.high (utf16-kept _ _ c.args.self.now c.self.invariant c.self.view_is (sym c.in-Utf16.ensures)) c.requires.low c.requires.high c.requires.order)
    c.text_between.ensures.value
