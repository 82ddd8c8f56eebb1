-- Whether an input keeps the limits, and by which of them it ends.
use Rattle.std.specs.Prelude.{◌≡◌, ℕ, ◌+◌, ◌<◌, ◌≤◌, List, ◌∷◌, ◌++◌, length, take, All}
use Rattle.query_program.specs.Lines.{lines}
use Rattle.query_program.specs.declared.limits.TheConstants.{LINE_LIMIT, INPUT_LIMIT}

-- the bytes that are looked at: one more than an input may have
abbrev pub seen : List ℕ → List ℕ
seen input = take (INPUT_LIMIT + 1) input

abbrev pub IsShort : List ℕ → Type 0
IsShort line = length line ≤ LINE_LIMIT

-- a line passes its limit before the input passes its own, or on the same byte, and the lines before it do not
pub record HasLongLine (input : List ℕ) : Type 0 where
  pub before : List (List ℕ)
  pub line : List ℕ
  pub after : List (List ℕ)
  pub parts : lines (seen input) ≡ before ++ line ∷ after
  pub long : LINE_LIMIT < length line
  pub short : All IsShort before

-- the input passes its limit, and no line passed its own until then
pub record HasTooManyBytes (input : List ℕ) : Type 0 where
  pub long : INPUT_LIMIT < length input
  pub short : All IsShort (lines (seen input))

-- neither passes its limit
pub record IsWithin (input : List ℕ) : Type 0 where
  pub short : length input ≤ INPUT_LIMIT
  pub short_lines : All IsShort (lines input)
