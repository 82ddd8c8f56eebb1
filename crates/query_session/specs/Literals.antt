-- The literals of the heap that the values of a session stand in, which a load may name by their numbers.
use Rattle.std.specs.Prelude.{ℕ, zero, suc, List, [], ◌∷◌, ◌++◌, codes}

-- n times U+00E9, in UTF-8
abbrev pub accents : ℕ → List ℕ
accents zero = []
accents (suc n) = 0xC3 ∷ 0xA9 ∷ accents n

-- 63 times U+00E9, then U+1F600, then 63 times U+00E9, in UTF-8
abbrev pub mixed_text : List ℕ
mixed_text = accents 63 ++ 0xF0 ∷ 0x9F ∷ 0x98 ∷ 0x80 ∷ accents 63

-- the UTF-8 of each literal, that of number 0 first
abbrev pub default_literals : List (List ℕ)
default_literals = [] ∷ codes "Hello, world!" ∷ codes "The quick brown fox jumps over the lazy dog" ∷ mixed_text ∷ []
