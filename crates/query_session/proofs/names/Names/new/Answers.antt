use Rattle.std.proofs.Common.{sym, ap, ◌∙◌}
use Rattle.std.specs.Ordering.{nat_cmp}
use Rattle.std.specs.Cmp.Lexicographic.{slice_cmp}
use Rattle.std.specs.FinMap as finite
use Rattle.str_value.specs.Meaning.{Meaning}
use Rattle.query_session.specs.Held.{held}
use Rattle.query_session.proofs.names.Names.new.Goals as goal

pub invariant_of-result : goal.invariant_of-result
invariant_of-result c = sym (ap (λ es. finite.len (held es)) c.new.ensures.empty ∙ finite.len-empty (slice_cmp nat_cmp) Meaning)
