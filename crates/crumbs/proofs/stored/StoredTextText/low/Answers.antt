use Rattle.std.proofs.Common.{sym}
use Rattle.text_spec.proofs.Walk.{start-zero}
use Rattle.crumbs.proofs.stored.StoredTextText.low.Goals as goal

pub returns-clause-value : goal.returns-clause-value
returns-clause-value g c = sym (start-zero _ _)
