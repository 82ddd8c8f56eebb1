-- A piece of a text: the UTF-8 of the scalars that lie between two places of the storage.
use Rattle.std.specs.Prelude.{◌≡◌, ℕ, ◌+◌, ◌≤◌, List, length}
use Rattle.std.specs.Char.{len_utf8}
use Rattle.text_spec.specs.Offsets.{start}
use Rattle.text_spec.specs.Text.{utf8}
use Rattle.text_spec.specs.Views.{part}
use Rattle.word_units.specs.Parts.{Part, IsBoundaryIn, scalars_before}

-- the piece is the UTF-8 of the scalars from the boundary `from` to the boundary `to`
pub record IsPiece (t : Part) (from to : ℕ) (piece : List ℕ) : Type 0 where
  pub bytes : piece ≡ utf8 (part t.whole (scalars_before t from) (scalars_before t to))
  pub order : from ≤ to
  pub boundary : IsBoundaryIn t from
  pub end_boundary : IsBoundaryIn t to
  pub size : start len_utf8 t.whole (scalars_before t from) + length piece ≡ start len_utf8 t.whole (scalars_before t to)
