use Rattle.std.proofs.Common.{arith}
use Rattle.text_spec.specs.Views.{width_in}
use Rattle.text_spec.specs.Offsets.{down}
use Rattle.text_spec.proofs.Walk.{start-zero, start-le}
use Rattle.str_value.specs.Meaning.{storage_of}
use Rattle.str_value.proofs.Drafted.{piece-some, piece-bytes}
use Rattle.str_value.proofs.drafting.next_piece.Goals as goal

pub fill_forward-size-requires-clause-low : goal.fill_forward-size-requires-clause-low
fill_forward-size-requires-clause-low g c =
    let s = c.args.value.now in
    omega (arith, start-zero (width_in (storage_of s.row)) s.text)

pub fill_forward-size-requires-clause-high : goal.fill_forward-size-requires-clause-high
fill_forward-size-requires-clause-high g c =
    let s = c.args.value.now in
    let w = width_in (storage_of s.row) in
    omega (arith, c.requires.boundary, start-le w s.text (down w s.text c.args.at))

pub returns-clause-bytes : goal.returns-clause-bytes
returns-clause-bytes g c =
    let e = c.fill_forward-size.ensures in
    piece-bytes c.args.value.now c.args.at c.fill_forward-size.result.1 c.fill_forward-size.result.0 c.args.left c.fill_forward-size.new.buf e.piece (omega (arith, e.fits, c.fill_forward-size.array_long)) e.size e.most c.requires.some c.requires.inside
    c.min.result (omega (arith, c.min.ensures))

pub returns-clause-some : goal.returns-clause-some
returns-clause-some g c =
    let e = c.fill_forward-size.ensures in
    omega (
      arith,
      c.min.ensures,
      c.requires.some,
      piece-some c.args.value.now c.args.at c.fill_forward-size.result.1 c.fill_forward-size.result.0 c.args.left c.fill_forward-size.new.buf e.piece (omega (arith, e.fits, c.fill_forward-size.array_long)) e.size e.most c.requires.some c.requires.inside,
    )
