use Rattle.std.proofs.Common.{subst}
use Rattle.word_units.specs.Parts.{IsBoundaryIn}
use Rattle.str_value.specs.Meaning.{own_part}
use Rattle.value_tests.proofs.Boundaries.{down-boundary}
use Rattle.value_tests.proofs.bounds.bounds_with.Goals as goal

pub returns-clause-low : goal.returns-clause-low
returns-clause-low g c = down-boundary _ _ c.args.low _ c.boundary_at_or_before-from.ensures.value

pub returns-clause-high : goal.returns-clause-high
returns-clause-high g c =
    subst (λ now. IsBoundaryIn (own_part now) c.boundary_at_or_before-to.result) c.boundary_at_or_before-from.ensures.kept
    (down-boundary _ _ c.args.high _ c.boundary_at_or_before-to.ensures.value)
