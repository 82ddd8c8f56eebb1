-- Indices of a text: a position in its storage's code units, and an offset within the scalar there in units of the other encoding.
-- The rules of rounding are ours: always downwards, and nothing out of range is clamped. `own` and `other` are the widths of scalars
-- in the storage's encoding and in the other one; the text is that from scalar `first` of the whole text to scalar `end`.
use Rattle.std.specs.Prelude.{ℕ, ◌+◌, ◌-◌, ◌==◌, ◌&&◌, List, slice_index, nat_lt, nat_le, if◌then◌else◌, Option, Some, None}
use Rattle.text_spec.specs.Offsets.{start, down}

-- a position and a transcoded offset
abbrev pub Place : Type 0
Place = ℕ × ℕ

-- the place of an offset in the other encoding
abbrev pub across : (ℕ → ℕ) → (ℕ → ℕ) → List ℕ → ℕ → Place
across own other whole q = let k = down other whole q in (start own whole k, q - start other whole k)

-- an index that is read in storage units is itself, where its position lies in the text
abbrev pub resolve_own : (ℕ → ℕ) → List ℕ → ℕ → ℕ → Place → Option Place
resolve_own own whole first end i = if nat_le (start own whole first) (i.0) && nat_le (i.0) (start own whole end) then Some i else None

-- an index that is read as an offset q in the other encoding
abbrev pub resolve_other : (ℕ → ℕ) → (ℕ → ℕ) → List ℕ → ℕ → ℕ → ℕ → Option Place
resolve_other own other whole first end q = if nat_le (start other whole first) q && nat_le q (start other whole end) then Some (across own other whole q) else None

-- the greatest scalar boundary not after the position
abbrev pub scalar_floor : (ℕ → ℕ) → List ℕ → Place → Place
scalar_floor own whole i = (start own whole (down own whole (i.0)), 0)

-- what the floor in the other encoding keeps of the transcoded offset: all of it where the position begins a scalar of the text
-- that has more units than that, and nothing elsewhere. `high` is the text's end in storage units.
abbrev pub kept_offset : (ℕ → ℕ) → (ℕ → ℕ) → List ℕ → ℕ → Place → ℕ
kept_offset own other whole high i =
    let k = down own whole (i.0) in
    if (start own whole k == i.0) && (nat_lt (i.0) high && nat_lt (i.1) (other (slice_index whole k))) then i.1 else 0

-- the floor in the view of the other encoding
abbrev pub other_floor : (ℕ → ℕ) → (ℕ → ℕ) → List ℕ → ℕ → Place → Place
other_floor own other whole high i = (start own whole (down own whole (i.0)), kept_offset own other whole high i)

-- the floor in the view of the storage's own units
abbrev pub unit_floor : Place → Place
unit_floor i = (i.0, 0)

-- how many elements lie before a place that is its own floor, by view
abbrev pub scalar_offset : (ℕ → ℕ) → List ℕ → ℕ → Place → ℕ
scalar_offset own whole first i = down own whole (i.0) - first

abbrev pub unit_offset : (ℕ → ℕ) → List ℕ → ℕ → Place → ℕ
unit_offset own whole first i = i.0 - start own whole first

abbrev pub other_offset : (ℕ → ℕ) → (ℕ → ℕ) → List ℕ → ℕ → Place → ℕ
other_offset own other whole first i = (start other whole (down own whole (i.0)) - start other whole first) + i.1

-- the place of the element with an offset, by view
abbrev pub scalar_index : (ℕ → ℕ) → List ℕ → ℕ → ℕ → Place
scalar_index own whole first offset = (start own whole (first + offset), 0)

abbrev pub unit_index : (ℕ → ℕ) → List ℕ → ℕ → ℕ → Place
unit_index own whole first offset = (start own whole first + offset, 0)

abbrev pub other_index : (ℕ → ℕ) → (ℕ → ℕ) → List ℕ → ℕ → ℕ → Place
other_index own other whole first offset = across own other whole (start other whole first + offset)
