use Rattle.std.proofs.Common.{◌++◌, ◌∙◌}
use Rattle.made_input.specs.declared.line.TheConstants.{LINE_ROOM}
use Rattle.made_input.specs.Made.{comma, job, after_ops, jobs, after_batch}
use Rattle.made_input.proofs.Rooms.{room-front, room-rest, parts-join}
use Rattle.made_input.proofs.Turns.{put-room, put-more, put-all}
use Rattle.made_input.proofs.ops.put_jobs.Goals as goal

pub put_comma-requires : goal.put_comma-requires
unfolding jobs
put_comma-requires c =
    let t = c.loop-number.number in
    let y = c.loop-number.draws.state in
    room-front LINE_ROOM c.loop-number.line (comma t) (job c.args.units t y)
    (put-room (λ t y. comma t ++ job c.args.units t y) (λ j. after_ops) LINE_ROOM 8 t c.args.draws.now.state y c.args.line.now c.loop-number.line c.loop-number-test.true c.loop-number.invariant c.requires.room)

pub put_job-requires-clause-room : goal.put_job-requires-clause-room
unfolding jobs
put_job-requires-clause-room c =
    let t = c.loop-number.number in
    let y = c.loop-number.draws.state in
    room-rest LINE_ROOM c.loop-number.line (comma t) (job c.args.units t y) c.put_comma.new.line c.put_comma.ensures
    (put-room (λ t y. comma t ++ job c.args.units t y) (λ j. after_ops) LINE_ROOM 8 t c.args.draws.now.state y c.args.line.now c.loop-number.line c.loop-number-test.true c.loop-number.invariant c.requires.room)

pub loop-number-preserved : goal.loop-number-preserved
loop-number-preserved c =
    let t = c.loop-number.number in
    let y = c.loop-number.draws.state in
    put-more (λ t y. comma t ++ job c.args.units t y) (λ j. after_ops) 8 t c.args.draws.now.state y c.put_job.new.draws.state c.args.line.now c.loop-number.line c.put_job.new.line c.loop-number-test.true
    (c.put_job.ensures.bytes ∙ parts-join c.loop-number.line (comma t) (job c.args.units t y) c.put_comma.new.line c.put_comma.ensures)
    c.put_job.ensures.state c.loop-number.invariant

pub returns-clause-bytes : goal.returns-clause-bytes
unfolding jobs
returns-clause-bytes c =
    (put-all (λ t y. comma t ++ job c.args.units t y) (λ j. after_ops) 8 c.loop-number.number c.args.draws.now.state c.loop-number.draws.state c.args.line.now c.loop-number.line c.loop-number-test.false c.loop-number.invariant).0

pub returns-clause-state : goal.returns-clause-state
unfolding after_batch
returns-clause-state c =
    (put-all (λ t y. comma t ++ job c.args.units t y) (λ j. after_ops) 8 c.loop-number.number c.args.draws.now.state c.loop-number.draws.state c.args.line.now c.loop-number.line c.loop-number-test.false c.loop-number.invariant).1
