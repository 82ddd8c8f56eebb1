use Rattle.std.proofs.Common.{sym, subst, ◌∙◌, true}
use Rattle.unicode_segmentation.specs.Cursor.{IsChunkOf}
use Rattle.unicode_segmentation.proofs.CursorLemmas.{breaks_at-end}
use Rattle.char_view.specs.Places.{own_bytes}
use Rattle.char_view.proofs.walk.stops.Goals as goal

pub returns-then-at-len-clause-value : goal.returns-then-at-len-clause-value
returns-then-at-len-clause-value g c =
    breaks_at-end true (own_bytes (g.T.Text.part c.args.t.now)) c.args.at.offset (c.if-at-len.true ∙ c.requires.len)

pub returns-in-Ok-clause-on : goal.returns-in-Ok-clause-on
returns-in-Ok-clause-on g c =
    let own = own_bytes (g.T.Text.part c.args.t.now) in
    let chunk = subst (λ p. IsChunkOf own p c.args.piece.now.offset) (sym c.piece_text.ensures) c.requires.piece.chunk in
    c.is_boundary.ensures.on own (c.set_cursor.ensures.on own c.requires.on c.requires.place.cut) chunk
