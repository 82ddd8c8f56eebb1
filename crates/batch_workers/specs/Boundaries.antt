-- Scalar boundaries of a text, by where they stand in its storage and by their offsets in both encodings.
use Rattle.std.specs.Prelude.{◌≡◌, ℕ, ◌≤◌, List, length}
use Rattle.std.specs.Char.{len_utf8}
use Rattle.text_spec.specs.declared.encoding.Encoding.{Encoding}
use Rattle.text_spec.specs.Offsets.{len_utf16, start}
use Rattle.text_spec.specs.Views.{width_in}
use Rattle.batch_workers.specs.declared.place.Boundary.{Boundary}

-- the boundary where scalar k begins, or for the number of scalars the text ends
pub record IsBoundary (storage : Encoding) (text : List ℕ) (k : ℕ) (b : Boundary) : Type 0 where
  pub inside : k ≤ length text
  pub place : b.place ≡ start (width_in storage) text k
  pub utf16 : b.utf16 ≡ start len_utf16 text k
  pub utf8 : b.utf8 ≡ start len_utf8 text k
