use Rattle.std.proofs.Common.{◌≡◌, suc, cond, false}
use Rattle.std.specs.Option.{unwrap_or}
use Rattle.unicode_segmentation.specs.Cursor.{IsCursorOn, KeepsPlace, cursor_awaits, cursor_has_decided}
use Rattle.char_view.specs.Places.{IsPlace, own_bytes}
use Rattle.char_view.proofs.context.is_break.Given as goal

-- a cursor that hasn't decided waits for the text before `back`
abbrev pub invariant-context : goal.invariant-context
invariant-context g l = record {
  same : l.t ≡ l.fn.t;
  on : IsCursorOn l.cursor (own_bytes (g.T.Text.part l.fn.t));
  kept : KeepsPlace l.fn.cursor l.cursor;
  place : IsPlace (g.T.Text.part l.fn.t) l.back.offset l.back.position;
  awaits : cursor_has_decided l.cursor ≡ false → unwrap_or (cursor_awaits l.cursor) l.fn.at.offset ≡ l.back.offset;
}

abbrev pub decreases-context : goal.decreases-context
decreases-context g l = cond (cursor_has_decided l.cursor) 0 (suc (unwrap_or (cursor_awaits l.cursor) l.fn.at.offset))
