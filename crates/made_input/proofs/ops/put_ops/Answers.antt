use Rattle.std.proofs.Common.{◌++◌, ◌∙◌}
use Rattle.made_input.specs.declared.line.TheConstants.{LINE_ROOM}
use Rattle.made_input.specs.Made.{comma, op, after_op, ops, after_ops}
use Rattle.made_input.proofs.Rooms.{room-front, room-rest, parts-join}
use Rattle.made_input.proofs.Turns.{put-room, put-more, put-all}
use Rattle.made_input.proofs.ops.put_ops.Goals as goal

pub put_comma-requires : goal.put_comma-requires
unfolding ops
put_comma-requires c =
    let t = c.loop-number.number in
    let y = c.loop-number.draws.state in
    room-front LINE_ROOM c.loop-number.line (comma t) (op c.args.units t y)
    (put-room (λ t y. comma t ++ op c.args.units t y) after_op LINE_ROOM 210 t c.args.draws.now.state y c.args.line.now c.loop-number.line c.loop-number-test.true c.loop-number.invariant c.requires.room)

pub put_op-requires-clause-room : goal.put_op-requires-clause-room
unfolding ops
put_op-requires-clause-room c =
    let t = c.loop-number.number in
    let y = c.loop-number.draws.state in
    room-rest LINE_ROOM c.loop-number.line (comma t) (op c.args.units t y) c.put_comma.new.line c.put_comma.ensures
    (put-room (λ t y. comma t ++ op c.args.units t y) after_op LINE_ROOM 210 t c.args.draws.now.state y c.args.line.now c.loop-number.line c.loop-number-test.true c.loop-number.invariant c.requires.room)

pub loop-number-preserved : goal.loop-number-preserved
loop-number-preserved c =
    let t = c.loop-number.number in
    let y = c.loop-number.draws.state in
    put-more (λ t y. comma t ++ op c.args.units t y) after_op 210 t c.args.draws.now.state y c.put_op.new.draws.state c.args.line.now c.loop-number.line c.put_op.new.line c.loop-number-test.true
    (c.put_op.ensures.bytes ∙ parts-join c.loop-number.line (comma t) (op c.args.units t y) c.put_comma.new.line c.put_comma.ensures)
    c.put_op.ensures.state c.loop-number.invariant

pub returns-clause-bytes : goal.returns-clause-bytes
unfolding ops
returns-clause-bytes c =
    (put-all (λ t y. comma t ++ op c.args.units t y) after_op 210 c.loop-number.number c.args.draws.now.state c.loop-number.draws.state c.args.line.now c.loop-number.line c.loop-number-test.false c.loop-number.invariant).0

pub returns-clause-state : goal.returns-clause-state
unfolding after_ops
returns-clause-state c =
    (put-all (λ t y. comma t ++ op c.args.units t y) after_op 210 c.loop-number.number c.args.draws.now.state c.loop-number.draws.state c.args.line.now c.loop-number.line c.loop-number-test.false c.loop-number.invariant).1
