use Rattle.std.proofs.Common.{◌≡◌, ap, ◌∙◌, ◌/◌, ⊎_elim, arith}
use Rattle.std.proofs.lemmas.Nat.{div_below}
use Rattle.std.proofs.Math.Nat.{div-zero}
use Rattle.index_words.specs.Crumbs.{size16}
use Rattle.crumbs.proofs.Growing.{same_crumbs}
use Rattle.crumbs.proofs.fitting.span_of.Goals as goal

pub returns-then-stride-most-clause-same : goal.returns-then-stride-most-clause-same
returns-then-stride-most-clause-same c = λ text small.
    let most : size16 text / 281474976710656 ≡ 0 = omega (arith, div_below (size16 text) 281474976710656 1 (omega arith) (omega (arith, small))) in
    let none : size16 text / c.args.stride ≡ 0 =
    ⊎_elim (λ zero. ap (λ n. size16 text / n) zero ∙ div-zero (size16 text))
    (λ big. omega (arith, div_below (size16 text) c.args.stride 1 (omega (arith, big.1)) (omega (arith, big.1, small)))) c.if-stride-most.either in
    same_crumbs text 281474976710656 c.args.stride most none
