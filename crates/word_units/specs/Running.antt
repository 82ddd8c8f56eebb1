-- A walk over a text, a word at a time where it can.
use Rattle.std.specs.Prelude.{◌≡◌, ℕ, ◌+◌, ◌<◌, ◌≤◌, ◌⊎◌}
use Rattle.text_spec.specs.Offsets.{start}
use Rattle.text_spec.specs.Views.{other_width}
use Rattle.word_units.specs.Parts.{Part, IsBoundaryIn, scalars_before, storage_size}

-- the `scalars` scalars from the boundary `at` on end at `next` and take `units` code units of the other encoding;
-- they are one, or several that end within `most` code units of the storage and have at most `most` of the other encoding
pub record PassesRun (t : Part) (at most next units scalars : ℕ) : Type 0 where
  pub number : scalars_before t next ≡ scalars_before t at + scalars
  pub boundary : IsBoundaryIn t next
  pub other : start (other_width t.storage) t.whole (scalars_before t next) ≡ start (other_width t.storage) t.whole (scalars_before t at) + units
  pub ahead : at < next
  pub within : next ≤ storage_size t
  pub some : 1 ≤ units
  pub size : (scalars ≡ 1) ⊎ ((1 ≤ scalars) × (scalars ≤ units) × (units ≤ most) × (next ≤ at + most))
