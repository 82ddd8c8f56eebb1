-- The last breadcrumb that isn't after an index, and how many words a question reads from there.
use Rattle.std.specs.Prelude.{◌≡◌, ℕ, suc, ◌+◌, ◌-◌, ◌*◌, ◌/◌, ◌^◌, ◌<◌, ◌≤◌, ◌==◌, min, nat_lt, List, length, if◌then◌else◌}
use Rattle.std.specs.Char.{len_utf8}
use Rattle.text_spec.specs.Offsets.{len_utf16, start, down}
use Rattle.index_words.specs.Crumbs.{size16, index16}
use Rattle.index_words.specs.Fields.{place_of, position_of}

-- of the breadcrumbs at each n-th UTF-16 unit, `crumb` at unit m is the last that isn't after the index
pub record IsLastCrumb (text : List ℕ) (n index m crumb : ℕ) : Type 0 where
  pub at_multiple : m / n * n ≡ m
  pub inside : m ≤ size16 text
  pub crumb_is : crumb ≡ index16 text m
  pub not_after : place_of crumb ≤ place_of index
  pub last : (j : ℕ) → m < j * n → j * n ≤ size16 text → place_of index < place_of (index16 text (j * n))

-- how many content words of UTF-8 the scalars begin in from number `first` to before number `end`
abbrev pub words_begun : List ℕ → ℕ → ℕ → ℕ
words_begun text first end = if nat_lt first end then start len_utf8 text (end - 1) / 8 - start len_utf8 text first / 8 + 1 else 0

-- the same from number `first` to number `last`, of the scalars that the text has
abbrev pub words_through : List ℕ → ℕ → ℕ → ℕ
words_through text first last = words_begun text first (min (suc last) (length text))

-- how many words are read to answer for UTF-16 unit o: the length, the breadcrumb before it and, unless that is its own, the words in
-- which the scalars from the breadcrumb's to its own begin
abbrev pub words_to_unit : List ℕ → ℕ → ℕ → ℕ
words_to_unit text n o = 2 + (if o / n * n == o then 0 else words_through text (down len_utf16 text (o / n * n)) (down len_utf16 text o))

-- how many words are read from the breadcrumb at UTF-16 unit m to answer for a byte: those in which the scalars from the breadcrumb's
-- to the byte's begin
abbrev pub words_to_byte : List ℕ → ℕ → ℕ → ℕ
words_to_byte text m byte = words_through text (down len_utf16 text m) (down len_utf8 text byte)

-- ---- from a count of words read to a later one, to answer for an index by a walk from the last breadcrumb before it: the length, the
-- breadcrumb, one for each binary digit of the last breadcrumb's number to find it, and the words of the walk
-- at most so many, whatever is walked
abbrev pub FewFromCrumb : List ℕ → ℕ → ℕ → ℕ → Type 0
FewFromCrumb text n old new = (digits : ℕ) → size16 text / n < 2 ^ digits → new ≤ old + n + 2 + digits

-- at most
abbrev pub MostFromCrumb : List ℕ → ℕ → ℕ → ℕ → ℕ → Type 0
MostFromCrumb text n index old new = (m crumb digits : ℕ) → IsLastCrumb text n index m crumb → size16 text / n < 2 ^ digits
    → new ≤ old + words_to_byte text m (position_of index) + 2 + digits

-- at least
abbrev pub LeastFromCrumb : List ℕ → ℕ → ℕ → ℕ → ℕ → Type 0
LeastFromCrumb text n index old new = (m crumb digits : ℕ) → IsLastCrumb text n index m crumb → 2 ^ digits ≤ size16 text / n + 1
    → old + words_to_byte text m (position_of index) + 2 + digits ≤ new
