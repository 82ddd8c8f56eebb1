use Rattle.std.proofs.Common.{sym, subst, ◌<◌, ◌≤◌, ⊎_elim, arith}
use Rattle.std.proofs.lemmas.Bool.{cases_lt}
use Rattle.std.proofs.lemmas.Str.{len_utf8_bounds}
use Rattle.std.specs.Prelude.{slice_index}
use Rattle.unicode_segmentation.specs.Cursor.{IsChunkOf}
use Rattle.text_spec.specs.Offsets.{start, down}
use Rattle.text_spec.specs.Views.{width_in}
use Rattle.char_view.specs.Places.{own_bytes}
use Rattle.char_view.proofs.Chunks.{cut_of}
use Rattle.char_view.proofs.piece.piece_from.Goals as goal

pub returns-clause-piece : goal.returns-clause-piece
returns-clause-piece g c =
    let place = c.requires.place in
    let filled = c.fill_forward-size.ensures in
    let cut = cut_of _ _ _ _ _ _ _ place.text filled.piece place.low filled.within in
    record {
      chunk = subst (IsChunkOf (own_bytes (g.T.Text.part c.args.t.now)) _) (sym place.offset_is) cut.chunk;
      utf8 = cut.utf8;
      fits = filled.fits;
      long = omega (arith, filled.piece.size, filled.size);
    }

pub returns-clause-some : goal.returns-clause-some
returns-clause-some g c = λ inside.
    let place = c.requires.place in
    let filled = c.fill_forward-size.ensures in
    let r = c.fill_forward-size.result in
    let cut = cut_of _ _ _ _ _ _ _ place.text filled.piece place.low filled.within in
    let high = start (width_in (g.T.Text.part c.args.t.now).storage) (g.T.Text.part c.args.t.now).whole (g.T.Text.part c.args.t.now).end in
    ⊎_elim
    (λ (h : r.1 < high).
    omega (arith, filled.most h, len_utf8_bounds (slice_index (g.T.Text.part c.args.t.now).whole (down (width_in (g.T.Text.part c.args.t.now).storage) (g.T.Text.part c.args.t.now).whole r.1))))
    (λ (h : high ≤ r.1). omega (arith, cut.end_place.is_end (omega (arith, h, filled.within)), cut.sum, place.offset_is, inside, filled.piece.size, filled.size)) (cases_lt r.1 high)
