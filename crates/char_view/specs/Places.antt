-- Places of a text at scalar boundaries, as two numbers: bytes of UTF-8 from the text's start, and code units of the storage.
use Rattle.std.specs.Prelude.{◌≡◌, ℕ, ◌-◌, ◌<◌, ◌≤◌, ◌^◌, true, List, length, IsUtf8}
use Rattle.std.specs.Char.{len_utf8}
use Rattle.std.specs.Str.{all_scalars, IsCharBoundary}
use Rattle.text_spec.specs.Offsets.{start}
use Rattle.text_spec.specs.Text.{utf8}
use Rattle.word_units.specs.Parts.{Part, low_of, high_of, storage_size, IsBoundaryIn, scalars_before, scalars_in, text_in}

-- the UTF-8 of the text
abbrev pub own_bytes : Part → List ℕ
own_bytes t = utf8 (text_in t)

-- how many scalars of the text lie before a boundary
abbrev pub own_number : Part → ℕ → ℕ
own_number t position = scalars_before t position - t.first

-- the text, in storage that is in reach
pub record IsText (t : Part) : Type 0 where
  pub order : t.first ≤ t.end
  pub inside : t.end ≤ length t.whole
  pub scalars : all_scalars (text_in t) ≡ true
  pub utf8 : IsUtf8 (own_bytes t)
  pub size : length (text_in t) ≡ scalars_in t
  pub small : storage_size t < 2 ^ 48
  pub few : length (own_bytes t) < 2 ^ 51
  pub short : length (text_in t) < 2 ^ 48
  pub low_number : scalars_before t (low_of t) ≡ t.first
  pub high_number : scalars_before t (high_of t) ≡ t.end

-- a boundary of the text, `offset` bytes of UTF-8 and `position` code units of the storage
pub record IsPlace (t : Part) (offset position : ℕ) : Type 0 where
  pub text : IsText t
  pub boundary : IsBoundaryIn t position
  pub low : low_of t ≤ position
  pub high : position ≤ high_of t
  pub after_first : t.first ≤ scalars_before t position
  pub before_end : scalars_before t position ≤ t.end
  pub offset_is : offset ≡ start len_utf8 (text_in t) (own_number t position)
  pub cut : IsCharBoundary (own_bytes t) offset
  pub within : offset ≤ length (own_bytes t)
  pub small : position < 2 ^ 48
  pub few : offset < 2 ^ 51
  pub at_end : offset ≡ length (own_bytes t) → position ≡ high_of t
  pub is_end : position ≡ high_of t → offset ≡ length (own_bytes t)
