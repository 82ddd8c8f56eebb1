-- What the calls of a view answer and refuse, over what the view is.
use Rattle.std.specs.Prelude.{◌≡◌, ℕ, ◌+◌, ◌-◌, ◌<◌, ◌≤◌, ◌⊎◌, Option, Some, ℤ, pos, ◌+ℤ◌, ◌<ℤ◌}
use Rattle.word_units.specs.declared.bounds.OutOfBounds.{OutOfBounds}
use Rattle.word_units.specs.Parts.{Part, low_of, high_of}
use Rattle.rounding.specs.Refusals.{IsOutOfRange}

-- the elements of a text in a view. Their offsets are 0 to `count`, which is the end's.
pub record ElementsOf (Element : Type 0) : Type 0 where
  pub text : Part
  pub count : ℕ
  -- the element with an offset
  pub element_of : ℕ → Element
  -- the offset of the element that an index is rounded down to, or none where the index is out of range
  pub offset_of : ℕ → Option ℕ
  -- the index word of the element with an offset, and where it stands, in code units of the storage
  pub index_of : ℕ → ℕ
  pub place_of : ℕ → ℕ

-- ---- answers
-- `element` is the one that the index is rounded down to
abbrev pub IsElement : {Element : Type 0} → ElementsOf Element → ℕ → Element → Type 0
IsElement of index element = (offset : ℕ) × (of.offset_of index ≡ Some offset) × (offset < of.count) × (element ≡ of.element_of offset)

-- `index` is that of the element with an offset, or of the end
abbrev pub IsIndexOf : {Element : Type 0} → ElementsOf Element → ℕ → ℕ → Type 0
IsIndexOf of offset index = (offset ≤ of.count) × (index ≡ of.index_of offset)

-- `next` is the index of the element after it, or of the end
abbrev pub IsAfter : {Element : Type 0} → ElementsOf Element → ℕ → ℕ → Type 0
IsAfter of index next = (offset : ℕ) × (of.offset_of index ≡ Some offset) × (offset < of.count) × (next ≡ of.index_of (offset + 1))

-- `previous` is the index of the element before it
abbrev pub IsBefore : {Element : Type 0} → ElementsOf Element → ℕ → ℕ → Type 0
IsBefore of index previous = (offset : ℕ) × (of.offset_of index ≡ Some offset) × (0 < offset) × (previous ≡ of.index_of (offset - 1))

-- `there` is the index of the element `n` after it, or before it where `n` is negative
abbrev pub IsMoved : {Element : Type 0} → ElementsOf Element → ℕ → ℤ → ℕ → Type 0
IsMoved of index n there = (offset : ℕ) × (to : ℕ) × (of.offset_of index ≡ Some offset)
    × (pos offset +ℤ n ≡ pos to) × (to ≤ of.count) × (there ≡ of.index_of to)

-- how many elements lie from one index to another, negative where the other is before it
abbrev pub IsDistance : {Element : Type 0} → ElementsOf Element → ℕ → ℕ → ℤ → Type 0
IsDistance of from to n = (offset : ℕ) × (other : ℕ) × (of.offset_of from ≡ Some offset) × (of.offset_of to ≡ Some other)
    × (pos offset +ℤ n ≡ pos other)

-- ---- refusals
-- what a walk from the element with an offset that would leave the text is refused with, in code units of the storage
abbrev pub leaves_text : {Element : Type 0} → ElementsOf Element → ℕ → OutOfBounds
leaves_text of offset = record { position = of.place_of offset; low = low_of of.text; high = high_of of.text }

-- there is no element with the offset, which is above the number of elements
abbrev pub IsPastCount : {Element : Type 0} → ElementsOf Element → ℕ → OutOfBounds → Type 0
IsPastCount of offset out = (of.count < offset) × (out ≡ record { position = offset; low = 0; high = of.count })

-- the index is out of range, or rounded down to the offset `stop`, from where there is no way
abbrev pub IsStopped : {Element : Type 0} → ElementsOf Element → ℕ → ℕ → OutOfBounds → Type 0
IsStopped of index stop out = IsOutOfRange of.text index out ⊎ ((of.offset_of index ≡ Some stop) × (out ≡ leaves_text of stop))

-- it is out of range, or the place `n` elements after it is before the first or past the end
abbrev pub IsMoveOut : {Element : Type 0} → ElementsOf Element → ℕ → ℤ → OutOfBounds → Type 0
IsMoveOut of index n out = IsOutOfRange of.text index out
    ⊎ ((offset : ℕ) × (of.offset_of index ≡ Some offset)
    × (((pos offset +ℤ n) <ℤ pos 0) ⊎ (pos of.count <ℤ (pos offset +ℤ n))) × (out ≡ leaves_text of offset))
