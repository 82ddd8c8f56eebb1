-- A walk from Character to Character.
use Rattle.std.specs.Prelude.{◌≡◌, ℕ, ◌+◌, ◌-◌, ◌<◌, ◌≤◌, ◌^◌, Bool, true, false, List, length, take, IsUtf8}
use Rattle.std.specs.Str.{IsCharBoundary}
use Rattle.word_units.specs.Parts.{Part, text_in}
use Rattle.unicode_segmentation.specs.Cursor.{IsChunkOf, IsCursorOn, cursor_offset, cursor_is_extended, cursor_is_resuming}
use Rattle.unicode_segmentation.specs.Grapheme.{is_grapheme_break}
use Rattle.unicode_segmentation.specs.Segments.{breaks_at}
use Rattle.char_view.specs.Characters.{character_start}
use Rattle.char_view.specs.Answers.{character_position, characters_in}
use Rattle.char_view.specs.Places.{IsPlace, own_bytes, own_number}
use Rattle.char_view.specs.declared.piece.Piece.{Piece}
use Rattle.char_view.specs.declared.span.Span.{Span}
use Rattle.char_view.specs.declared.walk.Walk.{Walk}

-- a Character begins or ends at the byte
abbrev pub breaks : List ℕ → ℕ → Bool
breaks text at = breaks_at (is_grapheme_break true) text at

-- none begins or ends from `from` on and before `to`
abbrev pub HasNone : List ℕ → ℕ → ℕ → Type 0
HasNone text from to = (k : ℕ) → from ≤ k → k < to → IsCharBoundary text k → breaks text k ≡ false

-- what is at hand is a piece of the text
pub record IsPieceOf (text : List ℕ) (piece : Piece) : Type 0 where
  pub chunk : IsChunkOf text (take piece.size piece.bytes) piece.offset
  pub utf8 : IsUtf8 (take piece.size piece.bytes)
  pub fits : piece.size ≤ 64
  pub long : length (take piece.size piece.bytes) ≡ piece.size

-- the walk stands at the start of a Character or at the end, and knows how many it has passed
pub record IsWalk (t : Part) (walk : Walk) : Type 0 where
  pub place : IsPlace t walk.at.offset walk.at.position
  pub passed : character_start (text_in t) walk.number ≡ own_number t walk.at.position
  pub within : walk.number ≤ characters_in t
  pub small : walk.number < 2 ^ 48
  pub len : walk.len ≡ length (own_bytes t)
  pub on : IsCursorOn walk.cursor (own_bytes t)
  pub offset : cursor_offset walk.cursor ≡ walk.at.offset
  pub extended : cursor_is_extended walk.cursor ≡ true
  pub done : cursor_is_resuming walk.cursor ≡ false
  pub piece : IsPieceOf (own_bytes t) walk.piece

-- a Character that the walk has passed last, or the end, at which the walk stands
pub record IsSpan (t : Part) (span : Span) (walk : Walk) : Type 0 where
  pub walks : IsWalk t walk
  pub number : span.number ≤ characters_in t
  pub few : span.number < 2 ^ 48
  pub from : span.from ≡ character_position t span.number
  pub to : span.to ≡ character_position t (span.number + 1)
  pub previous : 0 < span.number → span.previous ≡ character_position t (span.number - 1)
  pub behind : span.previous ≤ span.from
  pub order : span.from ≤ span.to
  pub small : span.to < 2 ^ 48
  pub at : walk.at.position ≡ span.to
  pub passed : span.from < span.to → (walk.number ≡ span.number + 1) × (span.number < characters_in t)
  pub is_end : span.from ≡ span.to → (walk.number ≡ span.number) × (span.number ≡ characters_in t)
