-- Elements of a view as places in the storage, and walks between scalar boundaries that count them.
use Rattle.std.specs.Prelude.{◌≡◌, ℕ, suc, ◌+◌, ◌-◌, ◌<◌, ◌≤◌, ◌^◌, ◌⊎◌, true, false, List, if◌then◌else◌}
use Rattle.text_spec.specs.Boundaries.{IsScalarBoundary}
use Rattle.text_spec.specs.Offsets.{start, down}
use Rattle.word_units.specs.Parts.{Part, low_of, high_of, IsBoundaryIn, scalars_before}
use Rattle.rounding.specs.Resolving.{index_at}
use Rattle.unit_views.specs.declared.kind.ElementKind.{ElementKind}
use Rattle.unit_views.specs.Elements.{is_own, view_width, element_count, element_place, offset_of, element_index}

-- how many elements of the whole text lie before the place `past` elements into the scalar at the boundary `at`,
-- or before code unit `at` where the elements are the storage's code units
abbrev pub elements_before : ElementKind → Part → ℕ → ℕ → ℕ
elements_before view t at past = if is_own view t.storage then at else start (view_width view) t.whole (scalars_before t at) + past

-- the offset of that place in the text
abbrev pub spot_offset : ElementKind → Part → ℕ → ℕ → ℕ
spot_offset view t at past = elements_before view t at past - start (view_width view) t.whole t.first

-- an element of the text, or its end
pub record IsSpot (view : ElementKind) (t : Part) (at past : ℕ) : Type 0 where
  pub low : low_of t ≤ at
  pub high : at ≤ high_of t
  pub small : at < 2 ^ 48
  pub few : past < 4
  pub own : is_own view t.storage ≡ true → past ≡ 0
  pub boundary : is_own view t.storage ≡ false → IsBoundaryIn t at
  pub within : is_own view t.storage ≡ false → at < high_of t
      → start (view_width view) t.whole (scalars_before t at) + past < start (view_width view) t.whole (suc (scalars_before t at))
  pub last : at ≡ high_of t → past ≡ 0
  pub not_below : start (view_width view) t.whole t.first ≤ elements_before view t at past
  pub counted : spot_offset view t at past ≤ element_count view t
  pub is_last : at ≡ high_of t → spot_offset view t at past ≡ element_count view t
  pub is_before : at < high_of t → spot_offset view t at past < element_count view t
  pub offset : offset_of view t (at, past) ≡ spot_offset view t at past
  pub position : (element_place view t (spot_offset view t at past)).0 ≡ at
  pub index : index_at t (at, past) ≡ element_index view t (spot_offset view t at past)

-- what is passed from the boundary `at` on: one scalar, or several where `room` has place for all their elements
pub record Passing (own view : ℕ → ℕ) (whole : List ℕ) (at to room next units : ℕ) : Type 0 where
  pub number : down own whole at + 1 ≤ down own whole next
  pub boundary : IsScalarBoundary own whole next
  pub counted : start view whole (down own whole next) ≡ start view whole (down own whole at) + units
  pub ahead : at < next
  pub within : next ≤ to
  pub some : 1 ≤ units
  pub one : room < units → start view whole (suc (down own whole at)) ≡ start view whole (down own whole at) + units

-- the last boundary from `from` to `to` that has at most `room` elements between it and `from`, and how many those are
pub record Walked (own view : ℕ → ℕ) (whole : List ℕ) (from to room at reached : ℕ) : Type 0 where
  pub boundary : IsScalarBoundary own whole at
  pub after : from ≤ at
  pub within : at ≤ to
  pub counted : start view whole (down own whole from) + reached ≡ start view whole (down own whole at)
  pub fits : reached ≤ room
  pub last : (at ≡ to) ⊎ ((at < to) × (start view whole (down own whole from) + room < start view whole (suc (down own whole at))))

-- the scalar before the boundary `at`, which isn't before the boundary `to`
pub record Backing (own view : ℕ → ℕ) (whole : List ℕ) (at to previous units : ℕ) : Type 0 where
  pub number : suc (down own whole previous) ≡ down own whole at
  pub boundary : IsScalarBoundary own whole previous
  pub counted : start view whole (down own whole previous) + units ≡ start view whole (down own whole at)
  pub before : previous < at
  pub within : to ≤ previous
  pub some : 1 ≤ units
  pub few : units ≤ 4

-- the place `room` elements before the boundary `from`
pub record WalkedBack (own view : ℕ → ℕ) (whole : List ℕ) (from to room at past : ℕ) : Type 0 where
  pub boundary : IsScalarBoundary own whole at
  pub before : at ≤ from
  pub within : to ≤ at
  pub counted : start view whole (down own whole at) + past + room ≡ start view whole (down own whole from)
  pub inside : (past ≡ 0) ⊎ ((at < from) × (start view whole (down own whole at) + past < start view whole (suc (down own whole at))))
