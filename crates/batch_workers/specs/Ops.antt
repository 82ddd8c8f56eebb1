-- What an op answers on a text, a list of scalars, and the text that it leaves; and ops in order, each on the text that the one before
-- it left. Offsets are in UTF-16 code units (The Unicode Standard, section 3.9, D91), of the op `place` in UTF-8 bytes (D92), and are
-- rounded down to the scalar that they fall in; whether they are out of bounds is asked of the offsets as they were given (ours).
use Rattle.std.specs.Prelude.{◌≡◌, ℕ, ◌+◌, ◌||◌, List, [], ◌∷◌, take, length, chars, fold, nat_lt, if◌then◌else◌, Bool, true, false, Result, Ok, Err, slice_get}
use Rattle.std.specs.Result.{result_unwrap_or}
use Rattle.text_spec.specs.Editing.{replaced}
use Rattle.text_spec.specs.Text.{utf8, utf16}
use Rattle.text_spec.specs.declared.encoding.Encoding.{Encoding}
use Rattle.text_spec.specs.declared.encoding.Encoding.TheVariants.{Utf8, Utf16}
use Rattle.text_spec.specs.Offsets.{down}
use Rattle.text_spec.specs.Views.{width_in, part}
use Rattle.char_view.specs.Characters.{character_count}
use Rattle.query_lines.specs.declared.op.Op.{Op}
use Rattle.query_lines.specs.declared.op.Op.TheVariants as op
use Rattle.query_lines.specs.declared.op.View.{View}
use Rattle.query_lines.specs.declared.op.View.TheVariants as view
use Rattle.query_lines.specs.declared.reply.OpReply.{OpReply}
use Rattle.query_lines.specs.declared.reply.OpReply.TheVariants as answer
use Rattle.query_lines.specs.WellFormed.{text_limit}

-- how many code units of an encoding a text has
abbrev pub units : Encoding → List ℕ → ℕ
units Utf8 text = length (utf8 text)
units Utf16 text = length (utf16 text)

-- the greatest number of a scalar that begins at the offset or before it
abbrev pub floor : Encoding → List ℕ → ℕ → ℕ
floor unit text offset = down (width_in unit) text offset

-- how many bytes of text may be answered to one line
abbrev pub answer_limit : ℕ
answer_limit = 16777216

-- the view whose elements are the code units of an encoding
abbrev pub view_of : Encoding → View
view_of Utf8 = view.Utf8
view_of Utf16 = view.Utf16

-- an offset is past the text's end
abbrev pub out_of_bounds : Encoding → List ℕ → OpReply
out_of_bounds unit text = answer.OutOfBounds (view_of unit) (units unit text)

-- scalar k: where it begins in both units, and its number, or none at the end
abbrev pub place_of : List ℕ → ℕ → OpReply
place_of text k = answer.Place (length (utf16 (take k text))) (length (utf8 (take k text))) (slice_get text k)

-- the place at an offset in code units of an encoding
abbrev pub place_reply : Encoding → List ℕ → ℕ → OpReply
place_reply unit text offset = if nat_lt (units unit text) offset then out_of_bounds unit text else place_of text (floor unit text offset)

-- a text that is answered by its UTF-8, where `spent` bytes of text were answered before it
abbrev pub bytes_reply : ℕ → List ℕ → OpReply
bytes_reply spent bytes = if nat_lt answer_limit (spent + length bytes) then answer.TooLong else answer.Text bytes

abbrev pub text_reply : ℕ → List ℕ → OpReply
text_reply spent shown = bytes_reply spent (utf8 shown)

-- an offset of a pair is past the text's end, or the first is above the second
abbrev pub is_out : List ℕ → ℕ → ℕ → Bool
is_out text a b = nat_lt (units Utf16 text) a || nat_lt (units Utf16 text) b || nat_lt b a

abbrev pub slice_reply : List ℕ → ℕ → ℕ → ℕ → OpReply
slice_reply text spent a b =
    if is_out text a b then out_of_bounds Utf16 text else text_reply spent (part text (floor Utf16 text a) (floor Utf16 text b))

-- a text that isn't too long
abbrev pub within_limit : List ℕ → Result (List ℕ) OpReply
within_limit text = if nat_lt text_limit (length (utf8 text)) then Err answer.TooLong else Ok text

-- the text with another one in place of what lies between two offsets, or why it stays as it is
abbrev pub edited : List ℕ → ℕ → ℕ → List ℕ → Result (List ℕ) OpReply
edited text a b with =
    if is_out text a b then Err (out_of_bounds Utf16 text) else within_limit (replaced text (floor Utf16 text a) (floor Utf16 text b) with)

-- the three counts of a text
abbrev pub counts_of : List ℕ → OpReply
counts_of text = answer.Counts (length text) (length (utf16 text)) (length (utf8 text))

abbrev pub edit_reply : Result (List ℕ) OpReply → OpReply
edit_reply (Ok text) = counts_of text
edit_reply (Err refused) = refused

-- how many elements a view of the text has
abbrev pub count_in : View → List ℕ → ℕ
count_in view.Scalars text = length text
count_in view.Utf8 text = length (utf8 text)
count_in view.Utf16 text = length (utf16 text)
count_in view.Characters text = character_count text

-- the answer to one op, where `spent` bytes of text were answered before it
abbrev pub op_reply : List ℕ → ℕ → Op → OpReply
op_reply text spent (op.At offset) = place_reply Utf16 text offset
op_reply text spent (op.Place offset) = place_reply Utf8 text offset
op_reply text spent (op.Slice a b) = slice_reply text spent a b
op_reply text spent (op.Edit a b with) = edit_reply (edited text a b (chars with))
op_reply text spent (op.Count view) = answer.Number (count_in view text)
op_reply text spent op.All = text_reply spent text

-- the text that one op leaves
abbrev pub text_after : List ℕ → Op → List ℕ
text_after text (op.At offset) = text
text_after text (op.Place offset) = text
text_after text (op.Slice a b) = text
text_after text (op.Edit a b with) = result_unwrap_or (edited text a b (chars with)) text
text_after text (op.Count view) = text
text_after text op.All = text

-- how many bytes of text an answer carries
abbrev pub text_bytes : OpReply → ℕ
text_bytes (answer.Text text) = length text
text_bytes (answer.Place utf16 utf8 value) = 0
text_bytes (answer.Counts scalars utf16 utf8) = 0
text_bytes (answer.Number n) = 0
text_bytes (answer.OutOfBounds unit n) = 0
text_bytes answer.TooLong = 0

-- the answers to ops in order, each on the text that the one before it left; one that is refused is followed by the next one
abbrev pub op_replies : List ℕ → ℕ → List Op → List OpReply
op_replies text spent [] = []
op_replies text spent (o ∷ ops) = op_reply text spent o ∷ op_replies (text_after text o) (spent + text_bytes (op_reply text spent o)) ops

-- the text that ops in order leave
abbrev pub text_after_ops : List ℕ → List Op → List ℕ
text_after_ops text ops = fold text_after text ops

-- the text that some first ops of them leave
abbrev pub IsLeftBy : List ℕ → List Op → List ℕ → Type 0
IsLeftBy text ops left = (n : ℕ) × (left ≡ text_after_ops text (take n ops))

-- an edit that was done is answered by counts, and nothing else is
abbrev pub is_counts : OpReply → Bool
is_counts (answer.Text text) = false
is_counts (answer.Place utf16 utf8 value) = false
is_counts (answer.Counts scalars utf16 utf8) = true
is_counts (answer.Number n) = false
is_counts (answer.OutOfBounds unit n) = false
is_counts answer.TooLong = false

-- an answer for which memory is taken: a text, or the counts of a new one
abbrev pub takes_memory : OpReply → Bool
takes_memory (answer.Text text) = true
takes_memory (answer.Place utf16 utf8 value) = false
takes_memory (answer.Counts scalars utf16 utf8) = true
takes_memory (answer.Number n) = false
takes_memory (answer.OutOfBounds unit n) = false
takes_memory answer.TooLong = false

-- the op asks for the place at an offset in UTF-16 code units
abbrev pub is_at : Op → Bool
is_at (op.At offset) = true
is_at (op.Place offset) = false
is_at (op.Slice a b) = false
is_at (op.Edit a b with) = false
is_at (op.Count view) = false
is_at op.All = false

-- the op finds places at offsets in UTF-16 code units and leaves the text: one place, or both ends of a part
abbrev pub finds_places : Op → Bool
finds_places (op.At offset) = true
finds_places (op.Place offset) = false
finds_places (op.Slice a b) = true
finds_places (op.Edit a b with) = false
finds_places (op.Count view) = false
finds_places op.All = false
