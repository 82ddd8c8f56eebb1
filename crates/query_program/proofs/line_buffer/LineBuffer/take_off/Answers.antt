use Rattle.std.proofs.Common.{sym, ap, ◌∙◌, drop, arith, rules, ◌≤◌, ◌-◌, length, subst}
use Rattle.query_program.proofs.Places.{part-less-front, length-part}
use Rattle.query_program.proofs.line_buffer.LineBuffer.take_off.Goals as goal

pub returns : goal.returns
returns c =
    let b = c.self.inside in
    let bytes = ap (λ p. p.bytes) (sym c.self.view_is) in
    let fits : c.args.count ≤ b.end - b.start = omega (arith, length-part b.places.items b.start b.end (search rules), subst (λ xs. c.args.count ≤ length xs) bytes c.requires) in
    part-less-front b.places.items b.start b.end c.args.count fits ∙ ap (drop c.args.count) (sym bytes)
