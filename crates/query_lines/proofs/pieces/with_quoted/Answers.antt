use Rattle.std.proofs.Common.{◌∙◌, refl}
use Rattle.query_lines.proofs.Appending.{print-string}
use Rattle.query_lines.proofs.pieces.with_quoted.Goals as goal

pub returns : goal.returns
returns c = c.into_inner.ensures.items ∙ rw (c.in_ok-string.ensures.ok, c.in_ok-string.ensures.room.0, c.new-writer.ensures.before, c.new-writer.ensures.tokens, print-string c.args.text.now) refl
