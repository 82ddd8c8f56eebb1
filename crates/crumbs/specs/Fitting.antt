-- Which list of words is the list of breadcrumbs of a stored text.
use Rattle.std.specs.Prelude.{◌≡◌, ℕ, ◌+◌, ◌-◌, ◌*◌, ◌<◌, ◌≤◌, List, [], ◌∷◌, length, take, drop, slice_index, false, Option, Some, None, if◌then◌else◌}
use Rattle.std.specs.Char.{IsScalar, encode_utf8, len_utf8}
use Rattle.text_spec.specs.declared.encoding.Encoding.TheVariants.{Utf8, Utf16}
use Rattle.index_words.specs.Crumbs.{index_word8, crumbs}
use Rattle.text_spec.specs.Packed.{bytes_of, denoted_text}
use Rattle.object_words.specs.CountWord.{marks_utf16, unit_count}

-- the text that the words of a slot denote, a count word and content words after it: none where there is no count word,
-- where the content words hold fewer code units than it says, or where bytes aren't UTF-8
abbrev pub stored_text : List ℕ → Option (List ℕ)
stored_text [] = None
stored_text (count_word ∷ content) = denoted_text (if marks_utf16 count_word then Utf16 else Utf8) content (unit_count count_word)

-- the words are a text in UTF-8 storage, and the side is the list of its breadcrumbs, one at each n-th UTF-16 unit
pub record IsCrumbList (n : ℕ) (words side : List ℕ) : Type 0 where
  pub text : List ℕ
  pub utf8 : marks_utf16 (slice_index words 0) ≡ false
  pub stored : stored_text words ≡ Some text
  pub list : side ≡ crumbs text n

-- the first bytes of content words are a text, of which the side is the list of breadcrumbs
pub record IsListOf (content : List ℕ) (count n : ℕ) (side : List ℕ) : Type 0 where
  pub text : List ℕ
  pub denoted : denoted_text Utf8 content count ≡ Some text
  pub list : side ≡ crumbs text n

-- a scalar of so many bytes begins at byte p of the first bytes of content words
pub record BeginsScalar (content : List ℕ) (count p width : ℕ) : Type 0 where
  pub scalar : ℕ
  pub is_scalar : IsScalar scalar
  pub width_is : width ≡ len_utf8 scalar
  pub within : p + width ≤ count
  pub bytes : take width (drop p (bytes_of content count)) ≡ encode_utf8 scalar

-- word j + 1 of the side is the index word that UTF-16 unit j * n has, where the units from `reached` on are those of byte `at`
abbrev pub IsCrumbAt : List ℕ → ℕ → ℕ → ℕ → ℕ → Type 0
IsCrumbAt side n at reached j = (j + 1 < length side) × (slice_index side (j + 1) ≡ index_word8 at (j * n - reached))

-- the side has the breadcrumbs of the units below `stop`, from number `from` to the one before `next`
pub record Matches (side : List ℕ) (from n at reached stop next : ℕ) : Type 0 where
  pub onward : from ≤ next
  pub due : stop ≤ next * n
  pub last : 0 < next → (next - 1) * n < stop
  pub each : (j : ℕ) → from ≤ j → j < next → IsCrumbAt side n at reached j

-- one of these breadcrumbs isn't there
pub record IsAmiss (side : List ℕ) (from n at reached stop : ℕ) : Type 0 where
  pub number : ℕ
  pub onward : from ≤ number
  pub due : number * n < stop
  pub amiss : ¬ IsCrumbAt side n at reached number
