-- A walk over scalars, up to the one that covers a byte or a UTF-16 unit.
use Rattle.std.specs.Prelude.{◌≡◌, ℕ, suc, ◌+◌, ◌-◌, ◌/◌, ◌<◌, ◌≤◌, ◌⊎◌, Bool, nat_lt, List, length}
use Rattle.std.specs.Char.{len_utf8}
use Rattle.text_spec.specs.declared.encoding.Encoding.TheVariants.{Utf8}
use Rattle.text_spec.specs.Offsets.{len_utf16, start, down}
use Rattle.text_spec.specs.Views.{size_in}
use Rattle.word_units.specs.Parts.{all_of}
use Rattle.rounding.specs.Resolving.{Reaches}
use Rattle.crumbs.specs.declared.scanning.Limit.{Limit}
use Rattle.crumbs.specs.declared.scanning.Limit.TheVariants.{Byte, Unit}

-- the number of the scalar that covers the limit, or of the text's end
abbrev pub number_at : List ℕ → Limit → ℕ
number_at text (Byte p) = down len_utf8 text p
number_at text (Unit o) = down len_utf16 text o

-- what ends at a byte, with so many UTF-16 units before its end, ends behind the limit
abbrev pub ends_behind : Limit → ℕ → ℕ → Bool
ends_behind (Byte p) end units = nat_lt p end
ends_behind (Unit o) end units = nat_lt o units

-- the scalar of that number begins at byte `begins`, behind so many UTF-16 units, and takes `takes` of them; the end is none and takes 0
pub record Stands (text : List ℕ) (number begins units takes : ℕ) : Type 0 where
  pub begins_at : begins ≡ start len_utf8 text number
  pub units_are : units ≡ start len_utf16 text number
  pub takes_are : takes ≡ start len_utf16 text (suc number) - start len_utf16 text number

-- of the scalars that begin in the word of byte `at` from there on, those before byte `begins` end before the limit or at it;
-- the next one, which takes `takes` units, covers the limit, or where that is 0 they are all
pub record Scanned (text : List ℕ) (limit : Limit) (at begins units takes : ℕ) : Type 0 where
  pub reaches : Reaches (all_of Utf8 text) begins units
  pub within : begins ≤ size_in Utf8 text
  pub before : down len_utf8 text begins ≤ number_at text limit
  pub found : 1 ≤ takes → (Stands text (number_at text limit) begins units takes) × (begins / 8 ≡ at / 8) × (number_at text limit < length text)
  pub passed : takes ≡ 0 → (at < begins) × (start len_utf8 text (down len_utf8 text begins - 1) / 8 ≡ at / 8)
      × ((begins ≡ size_in Utf8 text) ⊎ (begins / 8 ≡ at / 8 + 1))
