-- Scalars and UTF-16 units counted byte by byte, and a list of breadcrumbs as it grows.
use Rattle.std.specs.Prelude.{◌≡◌, ℕ, ◌*◌, ◌<◌, ◌≤◌, List, ◌∷◌, length, map}
use Rattle.std.specs.List.{range_with_len}
use Rattle.std.specs.Char.{len_utf8}
use Rattle.index_words.specs.Crumbs.{size16, index16}
use Rattle.text_spec.specs.Offsets.{len_utf16, start}

-- `units` UTF-16 units are those of the scalars that begin before byte p, of which there are `number`
pub record Seen (text : List ℕ) (p units : ℕ) : Type 0 where
  pub number : ℕ
  pub inside : number ≤ length text
  pub next : p ≤ start len_utf8 text number
  pub last : (j : ℕ) → j < number → start len_utf8 text j < p
  pub units_are : units ≡ start len_utf16 text number
  pub units_in : units ≤ size16 text

-- the length in UTF-16 units, and the first `number` breadcrumbs
abbrev pub crumbs_below : List ℕ → ℕ → ℕ → List ℕ
crumbs_below text n number = size16 text ∷ map (λ j. index16 text (j * n)) (range_with_len 0 number)
