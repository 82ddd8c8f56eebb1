-- Lists of texts, each kept as its UTF-8 bytes (The Unicode Standard, section 3.9, UTF-8: D92).
use Rattle.std.specs.Prelude.{ℕ, List, [], get_or, IsUtf8}

-- each member of the list is the UTF-8 of a text
abbrev pub AreTexts : List (List ℕ) → Type 0
AreTexts list = (k : ℕ) → IsUtf8 (get_or list k [])
