use Rattle.text_spec.proofs.Downward.{down-length}
use Rattle.str_value.proofs.Between.{start-boundary}
use Rattle.substring.proofs.view_tests.second_place.Goals as goal

pub pass_scalar-next-requires-clause-boundary : goal.pass_scalar-next-requires-clause-boundary
pass_scalar-next-requires-clause-boundary g c = start-boundary _ _ _ _ (down-length _ _ _) c.low-at.ensures.value
