-- The Characters of a text: its extended grapheme clusters (UAX #29, section 3.1), over lists of scalars alone.
-- The rules are those of `unicode_segmentation`, word for word; no storage, offset in code units or piece is named here.
use Rattle.std.specs.Prelude.{◌≡◌, ℕ, ◌<◌, Bool, true, false, List, [], length, map, reverse, take, drop}
use Rattle.unicode_segmentation.specs.Grapheme.{is_grapheme_break}
use Rattle.unicode_segmentation.specs.Segments.{cut}
use Rattle.text_spec.specs.Offsets.{start, down}

-- a Character begins or ends before scalar k, or, for the number of scalars, at the text's end
abbrev pub is_character_boundary : List ℕ → ℕ → Bool
is_character_boundary text k = is_grapheme_break true (reverse (take k text)) (drop k text)

-- the Characters of a text, each as its scalars: the text cut at every boundary
abbrev pub characters : List ℕ → List (List ℕ)
characters text = cut (is_grapheme_break true) [] text []

-- how many scalars each Character has
abbrev pub character_sizes : List ℕ → List ℕ
character_sizes text = map length (characters text)

abbrev pub character_count : List ℕ → ℕ
character_count text = length (characters text)

-- the number of the scalar with which Character n begins, and for the number of Characters that of all scalars
abbrev pub character_start : List ℕ → ℕ → ℕ
character_start text n = start (λ size. size) (character_sizes text) n

-- the number of the Character that scalar k lies in, and for the number of scalars that of all Characters
abbrev pub character_of : List ℕ → ℕ → ℕ
character_of text k = down (λ size. size) (character_sizes text) k

-- no Character begins or ends behind scalar boundary `from` and before `to`
abbrev pub HasNoBoundary : List ℕ → ℕ → ℕ → Type 0
HasNoBoundary text from to = (k : ℕ) → from < k → k < to → is_character_boundary text k ≡ false
