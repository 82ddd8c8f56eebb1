use Rattle.std.proofs.Common.{◌≡◌, sym, ap, subst, ◌∙◌, arith}
use Rattle.unicode_segmentation.specs.Cursor.{IsCursorOn}
use Rattle.text_spec.specs.Offsets.{start, down}
use Rattle.text_spec.specs.Views.{width_in, part}
use Rattle.text_spec.proofs.Walk.{start-zero}
use Rattle.char_view.specs.Characters.{character_sizes}
use Rattle.char_view.specs.Places.{IsPlace, own_bytes, own_number}
use Rattle.char_view.specs.Walks.{IsPieceOf}
use Rattle.char_view.proofs.walk.begin.Goals as goal

pub returns-clause-walk : goal.returns-clause-walk
returns-clause-walk g c =
    let same = c.text_len-len.ensures.kept in
    let e = (g.T.Text.part c.args.t.now).storage in
    let b = (g.T.Text.part c.args.t.now).whole in
    let first = (g.T.Text.part c.args.t.now).first in
    let place = subst (λ t. IsPlace (g.T.Text.part t) c.first_place-at.result.offset c.first_place-at.result.position) same c.first_place-at.ensures.place in
    let at : c.first_place-at.result.position ≡ start (width_in e) b first =
    subst (λ t. c.first_place-at.result.position ≡ start (width_in (g.T.Text.part t).storage) (g.T.Text.part t).whole (g.T.Text.part t).first) same c.first_place-at.ensures.start.1 in
    let none : 0 ≡ own_number (g.T.Text.part c.args.t.now) c.first_place-at.result.position = omega (arith, ap (down (width_in e) b) at, place.text.low_number) in
    record {
      place = place;
      passed = start-zero (λ size. size) (character_sizes (part b first (g.T.Text.part c.args.t.now).end)) ∙ none;
      within = omega arith;
      small = omega arith;
      len = c.text_len-len.ensures.len;
      on = subst (λ t. IsCursorOn c.cursor_at_start-cursor.result (own_bytes (g.T.Text.part t)))
          (c.piece_from-piece.ensures.kept ∙ same) c.cursor_at_start-cursor.ensures.on;
      offset = c.cursor_at_start-cursor.ensures.offset ∙ sym c.first_place-at.ensures.start.0;
      extended = c.cursor_at_start-cursor.ensures.extended;
      done = c.cursor_at_start-cursor.ensures.done;
      piece = subst (λ t. IsPieceOf (own_bytes (g.T.Text.part t)) c.piece_from-piece.result) same c.piece_from-piece.ensures.piece;
    }
