use Rattle.std.proofs.Common.{arith}
use Rattle.str_value.specs.Leading.{starts_scalar, starts_pair}
use Rattle.str_value.proofs.Begun.{count-more, count-rest}
use Rattle.str_value.proofs.lengths.lengths_of.Goals as goal

pub pieces-preserved : goal.pieces-preserved
pieces-preserved c =
    let bs = c.args.bytes.now in
    let i = c.pieces.at in
    record {
      inside = omega arith;
      scalars = omega (arith, c.pieces.invariant.scalars, c.begun_in_block-more.ensures.scalars, count-more starts_scalar bs i 64);
      pairs = omega (arith, c.pieces.invariant.pairs, c.begun_in_block-more.ensures.pairs, count-more starts_pair bs i 64);
      few = omega (arith, c.begun_in_block-more.ensures.few.0);
      fewer = omega (arith, c.begun_in_block-more.ensures.few.1);
    }

pub returns-clause-scalars : goal.returns-clause-scalars
returns-clause-scalars c = omega (arith, c.pieces.invariant.scalars, c.begun-more.ensures.scalars, count-rest starts_scalar c.args.bytes.now c.pieces.at c.pieces.invariant.inside)

pub returns-clause-utf16 : goal.returns-clause-utf16
returns-clause-utf16 c =
    omega (
      arith,
      c.pieces.invariant.scalars,
      c.pieces.invariant.pairs,
      c.begun-more.ensures.scalars,
      c.begun-more.ensures.pairs,
      count-rest starts_scalar c.args.bytes.now c.pieces.at c.pieces.invariant.inside,
      count-rest starts_pair c.args.bytes.now c.pieces.at c.pieces.invariant.inside,
    )
