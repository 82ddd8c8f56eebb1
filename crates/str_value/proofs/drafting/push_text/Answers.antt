use Rattle.std.proofs.Common.{◌++◌, sym, ap, ◌∙◌, take, drop, arith}
use Rattle.text_spec.specs.Text.{utf8}
use Rattle.str_value.proofs.Drafted.{before-stored}
use Rattle.str_value.proofs.drafting.push_text.Goals as goal

pub push_stored-requires-clause-inside : goal.push_stored-requires-clause-inside
push_stored-requires-clause-inside g c =
    omega (arith, before-stored c.args.value.now c.args.from (sym c.in-Utf8.ensures) c.requires.boundary, c.requires.inside)

pub returns-in-Utf8-clause-bytes : goal.returns-in-Utf8-clause-bytes
returns-in-Utf8-clause-bytes g c =
    c.push_stored.ensures.bytes
    ∙ ap (λ k. record c.args.writer.now { bytes = c.args.writer.now.bytes ++ take c.args.count (drop k (utf8 c.args.value.now.text)) })
    (sym (before-stored c.args.value.now c.args.from (sym c.in-Utf8.ensures) c.requires.boundary))
