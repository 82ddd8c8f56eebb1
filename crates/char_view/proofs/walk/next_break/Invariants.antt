use Rattle.std.proofs.Common.{◌≡◌, ◌+◌, ◌-◌, ◌<◌, ◌≤◌, true, false}
use Rattle.unicode_segmentation.specs.Cursor.{IsCursorOn, cursor_offset, cursor_is_extended, cursor_is_resuming}
use Rattle.char_view.specs.Places.{IsPlace, own_bytes}
use Rattle.char_view.specs.Walks.{IsPieceOf, HasNone}
use Rattle.char_view.proofs.walk.next_break.Given as goal

-- the cursor stands at the place, up to which there is no boundary
abbrev pub invariant-pieces : goal.invariant-pieces
invariant-pieces g l =
    let own = own_bytes (g.T.Text.part l.fn.t) in
    record {
      same : l.t ≡ l.fn.t;
      on : IsCursorOn l.cursor own;
      offset : cursor_offset l.cursor ≡ l.place.offset;
      extended : cursor_is_extended l.cursor ≡ true;
      place : IsPlace (g.T.Text.part l.fn.t) l.place.offset l.place.position;
      ahead : l.fn.at.offset ≤ l.place.offset;
      inside : l.place.offset < l.fn.len;
      fresh : l.place.offset ≡ l.fn.at.offset → cursor_is_resuming l.cursor ≡ false;
      none : HasNone own (l.fn.at.offset + 1) (l.place.offset + 1);
      piece : IsPieceOf own l.piece;
    }

abbrev pub decreases-pieces : goal.decreases-pieces
decreases-pieces g l = l.fn.len - l.place.offset
