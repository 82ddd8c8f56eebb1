use Rattle.std.proofs.Common.{◌≡◌, ◌*◌, ◌%◌, ◌^◌, sym, ap, ◌∙◌, ◌<◌, arith}
use Rattle.std.proofs.lemmas.Nat.{one_shl}
use Rattle.str_value.proofs.drafting.first_bytes.Goals as goal

pub returns-then-count-lt8 : goal.returns-then-count-lt8
returns-then-count-lt8 c =
    let few : 8 * c.args.count < 64 = omega (arith, c.if-count-lt8.true) in
    ap (λ n. c.args.word % n) (one_shl (8 * c.args.count) 64 few)

pub returns-else-count-lt8 : goal.returns-else-count-lt8
returns-else-count-lt8 c =
    let eight : 8 ≡ c.args.count = omega (arith, c.requires, c.if-count-lt8.false) in
    let whole : c.args.word % 2 ^ 64 ≡ c.args.word = omega (arith, c.ranges.word.fits) in
    sym whole ∙ ap (λ n. c.args.word % 2 ^ (8 * n)) eight
