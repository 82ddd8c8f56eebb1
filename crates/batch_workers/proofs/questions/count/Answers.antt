use Rattle.std.proofs.Common.{sym, ap, ◌∙◌, length}
use Rattle.text_spec.specs.declared.encoding.Encoding.TheVariants.{Utf8, Utf16}
use Rattle.str_value.specs.Meaning.{storage_of}
use Rattle.char_view.specs.Characters.{character_count}
use Rattle.batch_workers.specs.Ops.{count_in}
use Rattle.batch_workers.proofs.Boundaries.{units-count, whole-part}
use Rattle.batch_workers.proofs.questions.count.Goals as goal

pub returns-in-Scalars-clause-value : goal.returns-in-Scalars-clause-value
returns-in-Scalars-clause-value g c =
    let t = c.args.text.now.text in
    c.count.ensures.value ∙ ap length (whole-part t) ∙ ap (λ v. count_in v t) (sym c.in-Scalars.is)

pub returns-in-Utf8-clause-value : goal.returns-in-Utf8-clause-value
returns-in-Utf8-clause-value g c =
    let t = c.args.text.now.text in
    c.count-in-Utf8.ensures.value ∙ units-count Utf8 t (storage_of c.args.text.now.row) ∙ ap (λ v. count_in v t) (sym c.in-Utf8.is)

pub returns-in-Utf16-clause-value : goal.returns-in-Utf16-clause-value
returns-in-Utf16-clause-value g c =
    let t = c.args.text.now.text in
    c.count-in-Utf16.ensures.value ∙ units-count Utf16 t (storage_of c.args.text.now.row) ∙ ap (λ v. count_in v t) (sym c.in-Utf16.is)

pub returns-in-Characters-clause-value : goal.returns-in-Characters-clause-value
returns-in-Characters-clause-value g c =
    let t = c.args.text.now.text in
    c.count-in-Characters.ensures.value ∙ ap character_count (whole-part t) ∙ ap (λ v. count_in v t) (sym c.in-Characters.is)
