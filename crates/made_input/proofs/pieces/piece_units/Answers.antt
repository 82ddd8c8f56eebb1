use Rattle.std.proofs.Common.{◌≡◌, length, sym, subst, arith}
use Rattle.text_spec.specs.Text.{utf16}
use Rattle.made_input.specs.Pieces.{piece}
use Rattle.made_input.proofs.Eight.{units-0, units-1, units-2, units-3, units-4, units-5, units-6, units-7}
use Rattle.made_input.proofs.pieces.piece_units.Goals as goal

pub returns-in-0-clause-units : goal.returns-in-0-clause-units
returns-in-0-clause-units c = subst (λ n. 32 ≡ length (utf16 (piece n))) (sym c.in-0.is) (sym units-0)

pub returns-in-1-clause-units : goal.returns-in-1-clause-units
returns-in-1-clause-units c = subst (λ n. 31 ≡ length (utf16 (piece n))) (sym c.in-1.is) (sym units-1)

pub returns-in-2-clause-units : goal.returns-in-2-clause-units
returns-in-2-clause-units c = subst (λ n. 31 ≡ length (utf16 (piece n))) (sym c.in-2.is) (sym units-2)

pub returns-in-3-clause-units : goal.returns-in-3-clause-units
returns-in-3-clause-units c = subst (λ n. 29 ≡ length (utf16 (piece n))) (sym c.in-3.is) (sym units-3)

pub returns-in-4-clause-units : goal.returns-in-4-clause-units
returns-in-4-clause-units c = subst (λ n. 29 ≡ length (utf16 (piece n))) (sym c.in-4.is) (sym units-4)

pub returns-in-5-clause-units : goal.returns-in-5-clause-units
returns-in-5-clause-units c = subst (λ n. 27 ≡ length (utf16 (piece n))) (sym c.in-5.is) (sym units-5)

pub returns-in-6-clause-units : goal.returns-in-6-clause-units
returns-in-6-clause-units c = subst (λ n. 28 ≡ length (utf16 (piece n))) (sym c.in-6.is) (sym units-6)

pub returns-in_default-clause-units : goal.returns-in_default-clause-units
returns-in_default-clause-units c =
    let last : c.args.number ≡ 7 = omega arith in
    subst (λ n. 29 ≡ length (utf16 (piece n))) (sym last) (sym units-7)
