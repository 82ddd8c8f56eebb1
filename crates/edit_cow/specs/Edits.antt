-- What an edit answers: the new text, or the refusal that comes first. A value is its text, its row, its content words and
-- its place.
-- The order of the refusals, the limit and the rules of rounding are the project's own.
use Rattle.std.specs.Prelude.{◌≡◌, ℕ, List, length, ◌++◌, chars, nat_lt, if◌then◌else◌, Option, Some, None, Result, Ok, Err}
use Rattle.std.specs.Str.{is_utf8}
use Rattle.std.specs.Str.Lossy.{utf8_valid_len}
use Rattle.text_spec.specs.Editing.{replaced}
use Rattle.text_spec.specs.Text.{utf8}
use Rattle.word_units.specs.Parts.{scalars_before}
use Rattle.rounding.specs.Refusals.{scalar_of, out_of_range}
use Rattle.str_value.specs.declared.limits.TheConstants.{MAX_TEXT_BYTES}
use Rattle.str_value.specs.declared.error.MakeError.{MakeError}
use Rattle.str_value.specs.declared.error.MakeError.TheVariants as made
use Rattle.slot_table.specs.Owners.{PassSeen}
use Rattle.str_value.specs.Meaning.{Meaning, own_part}
use Rattle.str_value.specs.Editing.{IsUnwritten}
use Rattle.edit_cow.specs.declared.error.EditError.{EditError}
use Rattle.edit_cow.specs.declared.error.EditError.TheVariants as refusal

-- a text that isn't too long
abbrev pub within_limit : List ℕ → Result (List ℕ) EditError
within_limit text = if nat_lt MAX_TEXT_BYTES (length (utf8 text)) then Err (refusal.TooLong (length (utf8 text))) else Ok text

-- bytes in place of the scalars from number i to before number j
abbrev pub rewritten : List ℕ → ℕ → ℕ → List ℕ → Result (List ℕ) EditError
rewritten text i j with = if is_utf8 with then within_limit (replaced text i j (chars with)) else Err (refusal.NotUtf8 (utf8_valid_len with))

-- bytes in place of what lies between two scalar boundaries of a value's storage
abbrev pub rewritten_between : Meaning → ℕ → ℕ → List ℕ → Result (List ℕ) EditError
rewritten_between s low high with =
    rewritten s.text (scalars_before (own_part s) low) (scalars_before (own_part s) high) with

-- the same with the two indices that i and j come from: the first may not be behind the second
abbrev pub in_order : List ℕ → ℕ → ℕ → List ℕ → ℕ → ℕ → Result (List ℕ) EditError
in_order text a b with i j = if nat_lt j i then Err (refusal.Reversed a b) else rewritten text i j with

abbrev pub after_second : Meaning → ℕ → ℕ → List ℕ → ℕ → Option ℕ → Result (List ℕ) EditError
after_second s a b with i None = Err (refusal.OutOfBounds (out_of_range (own_part s) b))
after_second s a b with i (Some j) = in_order s.text a b with i j

abbrev pub after_first : Meaning → ℕ → ℕ → List ℕ → Option ℕ → Result (List ℕ) EditError
after_first s a b with None = Err (refusal.OutOfBounds (out_of_range (own_part s) a))
after_first s a b with (Some i) = after_second s a b with i (scalar_of (own_part s) b)

-- the text of a value with bytes in place of what lies between two indices, each rounded down to a scalar
abbrev pub edited : Meaning → ℕ → ℕ → List ℕ → Result (List ℕ) EditError
edited s a b with = after_first s a b with (scalar_of (own_part s) a)

-- a text with bytes behind it
abbrev pub appended : List ℕ → List ℕ → Result (List ℕ) EditError
appended text with = if is_utf8 with then within_limit (text ++ chars with) else Err (refusal.NotUtf8 (utf8_valid_len with))

-- What a refused edit leaves: the value and the pass as they were, where it is refused for what was asked. Elsewhere memory was wanting, and
-- the value's slot may have been asked for
abbrev pub IsLeft : PassSeen → Meaning → Result (List ℕ) EditError → PassSeen → Meaning → Type 0
IsLeft p s (Err e) q t = (t ≡ s) × (q ≡ p)
IsLeft p s (Ok text) q t = IsUnwritten p s (length (utf8 text)) q t

-- a refusal to make a value, as one to edit it
abbrev pub refusal_of : MakeError → EditError
refusal_of (made.NotUtf8 valid) = refusal.NotUtf8 valid
refusal_of (made.TooLong bytes) = refusal.TooLong bytes
refusal_of made.OutOfMemory = refusal.OutOfMemory
