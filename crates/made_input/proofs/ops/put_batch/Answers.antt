use Rattle.std.proofs.Common.{◌≡◌, ◌++◌, ◌∙◌, length, ap, codes, arith, length-append}
use Rattle.made_input.specs.Made.{jobs}
use Rattle.made_input.proofs.Lengths.{jobs-short}
use Rattle.made_input.proofs.ops.put_batch.Goals as goal

pub put_jobs-requires-clause-room : goal.put_jobs-requires-clause-room
put_jobs-requires-clause-room c =
    let u = c.args.units in
    let x = c.args.draws.now.state in
    let front : length c.put.new.self ≡ 10 = ap length (c.put.ensures ∙ ap (λ l. l ++ codes "{\"batch\":[") c.requires.empty) in
    omega (arith, front, jobs-short u x c.requires.some c.requires.few, length-append c.put.new.self (jobs u x))

pub put-requires-2 : goal.put-requires-2
put-requires-2 c =
    let u = c.args.units in
    let x = c.args.draws.now.state in
    let front : length c.put.new.self ≡ 10 = ap length (c.put.ensures ∙ ap (λ l. l ++ codes "{\"batch\":[") c.requires.empty) in
    let whole : length c.put_jobs.new.line ≡ length (c.put.new.self ++ jobs u x) = ap length c.put_jobs.ensures.bytes in
    omega (arith, front, whole, jobs-short u x c.requires.some c.requires.few, length-append c.put.new.self (jobs u x), length-append c.put_jobs.new.line (codes "]}\n"))
