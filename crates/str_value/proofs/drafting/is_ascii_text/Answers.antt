use Rattle.std.proofs.Common.{sym, ap, ◌∙◌, take, drop, arith}
use Rattle.object_words.specs.Rows.{is_ascii}
use Rattle.text_spec.specs.Text.{utf8}
use Rattle.str_value.proofs.Drafted.{before-stored}
use Rattle.str_value.proofs.drafting.is_ascii_text.Goals as goal

pub is_ascii_stored-requires-clause-inside : goal.is_ascii_stored-requires-clause-inside
is_ascii_stored-requires-clause-inside g c =
    omega (arith, before-stored c.args.value.now c.args.from (sym c.in-Utf8.ensures) c.requires.boundary, c.requires.inside)

pub returns-in-Utf8-clause-ascii : goal.returns-in-Utf8-clause-ascii
returns-in-Utf8-clause-ascii g c =
    c.is_ascii_stored.ensures.ascii
    ∙ ap (λ k. is_ascii (take c.args.count (drop k (utf8 c.args.value.now.text)))) (sym (before-stored c.args.value.now c.args.from (sym c.in-Utf8.ensures) c.requires.boundary))
