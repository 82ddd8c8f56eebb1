use Rattle.std.proofs.Common.{◌≡◌, ◌++◌, ◌∙◌, length, ap, codes, arith, length-append}
use Rattle.made_input.specs.Made.{escaped, source}
use Rattle.made_input.proofs.Lengths.{source-short}
use Rattle.made_input.proofs.pieces.put_load.Goals as goal

pub put_source-units-requires : goal.put_source-units-requires
put_source-units-requires c =
    let x = c.args.draws.now.state in
    let front : length c.put.new.self ≡ 22 = ap length (c.put.ensures ∙ ap (λ l. l ++ codes "{\"load\":\"doc\",\"text\":\"") c.requires.empty) in
    omega (arith, front, source-short x, length-append c.put.new.self (escaped (source x)))

pub put-requires-2 : goal.put-requires-2
put-requires-2 c =
    let x = c.args.draws.now.state in
    let front : length c.put.new.self ≡ 22 = ap length (c.put.ensures ∙ ap (λ l. l ++ codes "{\"load\":\"doc\",\"text\":\"") c.requires.empty) in
    let whole : length c.put_source-units.new.line ≡ length (c.put.new.self ++ escaped (source x)) = ap length c.put_source-units.ensures.bytes in
    omega (arith, front, whole, source-short x, length-append c.put.new.self (escaped (source x)), length-append c.put_source-units.new.line (codes "\"}\n"))
