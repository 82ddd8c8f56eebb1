use Rattle.std.proofs.Common.{sym, ap, ◌∙◌}
use Rattle.std.specs.Str.{bytes_eq}
use Rattle.std.proofs.lemmas.Map.Text.{is_eq-slice_cmp}
use Rattle.query_session.specs.Keeping.{names_one}
use Rattle.query_session.proofs.kept.keeps.Goals as goal

pub returns-in-Some : goal.returns-in-Some
returns-in-Some c =
    c.eq.ensures ∙ ((λ i. bytes_eq (c.as_bytes.ensures.value i) (c.as_slice.ensures i))
    ∙ (sym (is_eq-slice_cmp c.args.name.now c.in-Some.keep) ∙ ap (names_one c.args.name.now) (sym c.in-Some.is)))
