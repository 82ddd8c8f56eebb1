-- The ends of the slice between two indices of a value, or the refusal that comes first. Rounding is always downwards, and nothing out of range is
-- clamped (ours, after Swift).
use Rattle.std.specs.Prelude.{ℕ, ◌*◌, ◌&&◌, not, nat_lt, length, Option, Some, None, Result, Ok, Err, if◌then◌else◌}
use Rattle.object_words.specs.Rows.{ascii_of}
use Rattle.rounding.specs.Refusals.{boundary_of, out_of_range}
use Rattle.rounding.specs.Resolving.{reads_other}
use Rattle.str_value.specs.Meaning.{Meaning, storage_of, own_part}
use Rattle.substring.specs.declared.error.SliceError.{SliceError}
use Rattle.substring.specs.declared.error.SliceError.TheVariants as refusal

-- two scalar boundaries as the ends of a slice: the first may not be after the second
abbrev pub in_order : ℕ → ℕ → ℕ → ℕ → Result (ℕ × ℕ) SliceError
in_order a b low high = if nat_lt high low then Err (refusal.Reversed a b) else Ok (low, high)

abbrev pub after_second : Meaning → ℕ → ℕ → ℕ → Option ℕ → Result (ℕ × ℕ) SliceError
after_second base a b low None = Err (refusal.OutOfBounds (out_of_range (own_part base) b))
after_second base a b low (Some high) = in_order a b low high

abbrev pub after_first : Meaning → ℕ → ℕ → Option ℕ → Result (ℕ × ℕ) SliceError
after_first base a b None = Err (refusal.OutOfBounds (out_of_range (own_part base) a))
after_first base a b (Some low) = after_second base a b low (boundary_of (own_part base) b)

-- the ends of the slice of a value between two indices, each rounded down to a scalar boundary
abbrev pub sliced : Meaning → ℕ → ℕ → Result (ℕ × ℕ) SliceError
sliced base a b = after_first base a b (boundary_of (own_part base) a)

-- ---- cost
-- how many words resolving an index may read: none where it is read in code units of the storage, or the text is marked ASCII
abbrev pub resolving_words : Meaning → ℕ → ℕ
resolving_words base index = if reads_other (storage_of base.row) index && not (ascii_of base.row) then 2 * length base.text else 0
