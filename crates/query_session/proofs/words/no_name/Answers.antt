use Rattle.std.proofs.Common.{sym, ap, ◌∙◌, subst, IsUtf8}
use Rattle.std.proofs.lemmas.Str.{IsUtf8-string_bytes}
use Rattle.query_session.proofs.words.no_name.Goals as goal

pub returns-clause-shown : goal.returns-clause-shown
returns-clause-shown c = subst IsUtf8 (sym (c.new.ensures ∙ ap (λ v. v.items) c.into_bytes.ensures.value)) (IsUtf8-string_bytes c.args.name)
