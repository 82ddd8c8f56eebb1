-- A walk over a text, one scalar after another.
use Rattle.std.specs.Prelude.{◌≡◌, ℕ, ◌+◌, ◌<◌, ◌≤◌, length}
use Rattle.text_spec.specs.Offsets.{start}
use Rattle.text_spec.specs.Views.{other_width}
use Rattle.word_units.specs.Parts.{Part, IsBoundaryIn, scalars_before, storage_size}

-- the scalar that begins at `at` ends at `next`, and takes `units` code units of the other encoding
pub record Passes (t : Part) (at next units : ℕ) : Type 0 where
  pub inside : scalars_before t at < length t.whole
  pub number : scalars_before t next ≡ scalars_before t at + 1
  pub boundary : IsBoundaryIn t next
  pub other : start (other_width t.storage) t.whole (scalars_before t next) ≡ start (other_width t.storage) t.whole (scalars_before t at) + units
  pub ahead : at < next
  pub near : next ≤ at + 4
  pub within : next ≤ storage_size t
  pub some : 1 ≤ units
  pub few : units ≤ 4
