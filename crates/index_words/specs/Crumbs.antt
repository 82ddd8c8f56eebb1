-- Breadcrumbs of a text in UTF-8 storage: its length in UTF-16 units, and an index word for each n-th unit (ours, after Swift).
use Rattle.std.specs.Prelude.{ℕ, ◌+◌, ◌-◌, ◌*◌, ◌/◌, List, ◌∷◌, length, map}
use Rattle.std.specs.List.{range_with_len}
use Rattle.std.specs.Char.{len_utf8}
use Rattle.text_spec.specs.Offsets.{len_utf16, start, down}
use Rattle.index_words.specs.Fields.{crumb, word_of}

-- how many UTF-16 units a text has
abbrev pub size16 : List ℕ → ℕ
size16 text = start len_utf16 text (length text)

-- the word of a place that is marked for UTF-8, scalar aligned where nothing of a scalar is passed
abbrev pub index_word8 : ℕ → ℕ → ℕ
index_word8 position transcoded = word_of (crumb position transcoded)

-- the index word of UTF-16 unit m
abbrev pub index16 : List ℕ → ℕ → ℕ
index16 text m = index_word8 (start len_utf8 text (down len_utf16 text m)) (m - start len_utf16 text (down len_utf16 text m))

abbrev pub crumbs : List ℕ → ℕ → List ℕ
crumbs text n = size16 text ∷ map (λ j. index16 text (j * n)) (range_with_len 0 (size16 text / n + 1))
