use Rattle.text_spec.proofs.Downward.{down-length}
use Rattle.str_value.proofs.Between.{start-boundary}
use Rattle.substring.proofs.view_tests.first_char.Goals as goal

pub scalar_at-requires-clause-boundary : goal.scalar_at-requires-clause-boundary
scalar_at-requires-clause-boundary g c = start-boundary _ _ _ _ (down-length _ _ _) c.low-at.ensures.value
