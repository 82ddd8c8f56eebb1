use Rattle.std.proofs.Common.{◌≡◌, ap, subst, ◌-◌, ◌<◌, ◌≤◌, ⊎_elim, arith}
use Rattle.std.proofs.lemmas.Bool.{cases_lt}
use Rattle.std.proofs.lemmas.Str.{len_utf8_bounds}
use Rattle.std.specs.Prelude.{slice_index}
use Rattle.std.specs.Char.{len_utf8}
use Rattle.unicode_segmentation.specs.Cursor.{IsChunkOf}
use Rattle.text_spec.specs.Offsets.{start, down}
use Rattle.text_spec.specs.Views.{width_in, part}
use Rattle.text_spec.proofs.Walk.{start-zero}
use Rattle.word_units.specs.Parts.{part_of}
use Rattle.char_view.specs.Places.{IsPlace, own_bytes, own_number}
use Rattle.char_view.proofs.Chunks.{cut_of}
use Rattle.char_view.proofs.piece.piece_before.Goals as goal

pub overflow_sub-offset : goal.overflow_sub-offset
overflow_sub-offset g c =
    let place = c.requires.place in
    let filled = c.fill_backward-size.ensures in
    let cut = cut_of _ _ _ _ _ _ _ place.text filled.piece filled.within place.high in
    omega (arith, cut.sum, place.offset_is, filled.piece.size, filled.size)

pub returns-clause-piece : goal.returns-clause-piece
returns-clause-piece g c =
    let place = c.requires.place in
    let filled = c.fill_backward-size.ensures in
    let cut = cut_of _ _ _ _ _ _ _ place.text filled.piece filled.within place.high in
    let e = (g.T.Text.part c.args.t.now).storage in
    let b = (g.T.Text.part c.args.t.now).whole in
    let first = (g.T.Text.part c.args.t.now).first in
    let end = (g.T.Text.part c.args.t.now).end in
    let at : start len_utf8 (part b first end) (own_number (part_of e b first end) c.fill_backward-size.result.1) ≡ c.args.at.offset - c.fill_backward-size.result.0 =
    omega (arith, cut.sum, place.offset_is, filled.piece.size, filled.size) in
    record {
      chunk = subst (IsChunkOf (own_bytes (part_of e b first end)) _) at cut.chunk;
      utf8 = cut.utf8;
      fits = filled.fits;
      long = omega (arith, filled.piece.size, filled.size);
    }

pub returns-clause-place : goal.returns-clause-place
returns-clause-place g c =
    let place = c.requires.place in
    let filled = c.fill_backward-size.ensures in
    let cut = cut_of _ _ _ _ _ _ _ place.text filled.piece filled.within place.high in
    let e = (g.T.Text.part c.args.t.now).storage in
    let b = (g.T.Text.part c.args.t.now).whole in
    let first = (g.T.Text.part c.args.t.now).first in
    let end = (g.T.Text.part c.args.t.now).end in
    let at : start len_utf8 (part b first end) (own_number (part_of e b first end) c.fill_backward-size.result.1) ≡ c.args.at.offset - c.fill_backward-size.result.0 =
    omega (arith, cut.sum, place.offset_is, filled.piece.size, filled.size) in
    subst (λ o. IsPlace (part_of e b first end) o c.fill_backward-size.result.1) at cut.place

pub returns-clause-end : goal.returns-clause-end
returns-clause-end g c =
    let place = c.requires.place in
    let filled = c.fill_backward-size.ensures in
    let cut = cut_of _ _ _ _ _ _ _ place.text filled.piece filled.within place.high in
    omega (arith, cut.sum, place.offset_is, filled.piece.size, filled.size)

pub returns-clause-some : goal.returns-clause-some
returns-clause-some g c = λ some.
    let place = c.requires.place in
    let filled = c.fill_backward-size.ensures in
    let r = c.fill_backward-size.result in
    let cut = cut_of _ _ _ _ _ _ _ place.text filled.piece filled.within place.high in
    let e = (g.T.Text.part c.args.t.now).storage in
    let b = (g.T.Text.part c.args.t.now).whole in
    let low = start (width_in e) b (g.T.Text.part c.args.t.now).first in
    ⊎_elim
    (λ (h : low < r.1). omega (arith, filled.most h, len_utf8_bounds (slice_index b (down (width_in e) b r.1 - 1))))
    (λ (h : r.1 ≤ low).
    let same : r.1 ≡ low = omega (arith, h, filled.within) in
    let none : own_number (g.T.Text.part c.args.t.now) r.1 ≡ 0 = omega (arith, ap (down (width_in e) b) same, place.text.low_number) in
    omega (
      arith,
      ap (start len_utf8 (part b (g.T.Text.part c.args.t.now).first (g.T.Text.part c.args.t.now).end)) none,
      start-zero len_utf8 (part b (g.T.Text.part c.args.t.now).first (g.T.Text.part c.args.t.now).end),
      cut.sum,
      place.offset_is,
      some,
      filled.piece.size,
      filled.size,
    )) (cases_lt low r.1)
