use Rattle.std.proofs.Common.{rules}
use Rattle.std.proofs.lemmas.Str.{is_utf8-from_IsUtf8}
use Rattle.query_lines.proofs.Objects.{value_of_line-none}
use Rattle.query_lines.proofs.ValueWeights.{weight-read}
use Rattle.query_lines.proofs.read.value_of.Goals as goal

pub returns-in-Ok-clause-ok : goal.returns-in-Ok-clause-ok
returns-in-Ok-clause-ok c = rw (is_utf8-from_IsUtf8 _ c.in-Ok.ensures.ok.0) c.in-Ok.ensures.ok.1

pub returns-else-is_memory-clause-shape : goal.returns-else-is_memory-clause-shape
returns-else-is_memory-clause-shape c = λ refused. value_of_line-none _ (c.in-Err.ensures.err (λ memory. search rules))

pub returns-in-Ok-clause-short : goal.returns-in-Ok-clause-short
returns-in-Ok-clause-short c = weight-read _ _ c.in-Ok.ensures.ok.1
