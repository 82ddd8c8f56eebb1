-- A part of a text in a slot, and the text's bytes with others in place of it. Read by callers.
use Rattle.std.specs.Prelude.{ℕ, ◌+◌, ◌-◌, ◌*◌, ◌^◌, ◌<◌, ◌≤◌, List, length}
use Rattle.std.specs.List.{splice}
use Rattle.slot_edits.specs.declared.part.Part.{Part}
use Rattle.slot_edits.specs.Words.{content_bytes}

-- a count word and so many bytes fit a number of words
abbrev pub Fits : ℕ → ℕ → Type 0
Fits count words = count + 8 ≤ 8 * words

-- the slot's words hold the text, the part lies in it, and no number is larger than a slot gives occasion for
pub record IsPart (known : List ℕ) (part : Part) (with : List ℕ) : Type 0 where
  pub order : part.low ≤ part.high
  pub inside : part.high ≤ part.count
  pub room : Fits part.count (length known)
  pub few : length known < 2 ^ 32
  pub short : length with < 2 ^ 36

-- the text's bytes with others in place of the part
abbrev pub spliced : List ℕ → Part → List ℕ → List ℕ
spliced known part with = splice (content_bytes known part.count) part.low part.high with

-- how many bytes that makes
abbrev pub new_count : Part → List ℕ → ℕ
new_count part with = part.count - (part.high - part.low) + length with

-- no bytes of a text of so many, at its start
abbrev pub nothing_of : ℕ → Part
nothing_of count = record { low = 0; high = 0; count = count }
