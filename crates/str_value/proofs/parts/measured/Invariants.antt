use Rattle.std.proofs.Common.{◌≡◌, ◌+◌, ◌-◌, ◌≤◌}
use Rattle.text_spec.specs.Offsets.{start}
use Rattle.text_spec.specs.Views.{other_width}
use Rattle.word_units.specs.Parts.{IsBoundaryIn, scalars_before}
use Rattle.str_value.specs.Meaning.{storage_of, own_part}
use Rattle.str_value.proofs.parts.measured.Given as goal

abbrev pub invariant-runs : goal.invariant-runs
invariant-runs g l =
    (l.value ≡ l.fn.value) × (l.at ≤ l.high) × IsBoundaryIn (own_part l.fn.value) l.at
    × (scalars_before (own_part l.fn.value) l.low + l.scalars ≡ scalars_before (own_part l.fn.value) l.at)
    × (start (other_width (storage_of l.fn.value.row)) l.fn.value.text (scalars_before (own_part l.fn.value) l.low) + l.other
    ≡ start (other_width (storage_of l.fn.value.row)) l.fn.value.text (scalars_before (own_part l.fn.value) l.at))
    × (l.scalars ≤ l.other)

abbrev pub decreases-runs : goal.decreases-runs
decreases-runs g l = l.high - l.at
