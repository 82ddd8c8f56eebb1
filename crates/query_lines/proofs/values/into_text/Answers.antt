use Rattle.std.proofs.lemmas.Str.{IsUtf8-string_bytes}
use Rattle.query_lines.proofs.values.into_text.Goals as goal

pub returns-in-String-clause-well_formed : goal.returns-in-String-clause-well_formed
returns-in-String-clause-well_formed c = rw (c.new.ensures, c.into_bytes.ensures.value) (IsUtf8-string_bytes c.in-String.text)
