use Rattle.std.proofs.Common.{◌≤◌, ◌*◌, arith}
use Rattle.made_input.specs.declared.line.TheConstants.{LINE_ROOM}
use Rattle.made_input.specs.Made.{source, units, after_source}
use Rattle.made_input.proofs.Source.{loaded-none, loaded-room, loaded-more, loaded-all}
use Rattle.made_input.proofs.pieces.put_source.Goals as goal

pub loop-number-init : goal.loop-number-init
loop-number-init c = loaded-none 1000 c.args.draws.now.state c.args.line.now

pub put_piece-units-requires : goal.put_piece-units-requires
unfolding source
put_piece-units-requires c =
    loaded-room LINE_ROOM 1000 c.loop-number._number c.args.draws.now.state c.loop-number.draws.state c.loop-number.units c.args.line.now c.loop-number.line c.loop-number-test.true c.loop-number.invariant c.requires

pub overflow_add-units : goal.overflow_add-units
overflow_add-units c =
    let small : c.loop-number.units ≤ 32 * c.loop-number._number = c.loop-number.invariant.small in
    omega (arith, small, c.loop-number-test.true, c.put_piece-units.ensures.small)

pub loop-number-preserved : goal.loop-number-preserved
loop-number-preserved c =
    loaded-more 1000 c.loop-number._number c.args.draws.now.state c.loop-number.draws.state c.put_piece-units.new.draws.state c.loop-number.units c.put_piece-units.result c.args.line.now c.loop-number.line c.put_piece-units.new.line
    c.loop-number-test.true c.put_piece-units.ensures.bytes c.put_piece-units.ensures.units c.put_piece-units.ensures.small c.put_piece-units.ensures.state c.loop-number.invariant

pub returns-clause-bytes : goal.returns-clause-bytes
unfolding source
returns-clause-bytes c = (loaded-all 1000 c.loop-number._number c.args.draws.now.state c.loop-number.draws.state c.loop-number.units c.args.line.now c.loop-number.line c.loop-number-test.false c.loop-number.invariant).0

pub returns-clause-units : goal.returns-clause-units
unfolding source units
returns-clause-units c = (loaded-all 1000 c.loop-number._number c.args.draws.now.state c.loop-number.draws.state c.loop-number.units c.args.line.now c.loop-number.line c.loop-number-test.false c.loop-number.invariant).1

pub returns-clause-state : goal.returns-clause-state
unfolding after_source
returns-clause-state c = (loaded-all 1000 c.loop-number._number c.args.draws.now.state c.loop-number.draws.state c.loop-number.units c.args.line.now c.loop-number.line c.loop-number-test.false c.loop-number.invariant).2
