use Rattle.std.proofs.Common.{◌≡◌, inr, subst, Some, arith, to_z-of_z}
use Rattle.std.proofs.lemmas.Int.{ints}
use Rattle.rounding.specs.Refusals.{IsOutOfRange}
use Rattle.rounding.proofs.Places.{mapped_some}
use Rattle.char_view.specs.Answers.{character_offset}
use Rattle.char_view.proofs.characters.distance.Goals as goal

pub returns-in-Ok-clause-characters : goal.returns-in-Ok-clause-characters
returns-in-Ok-clause-characters g c =
    let gap = c.signed_gap.ensures in (
      c.in_ok-first.first.number,
      c.in-Ok.second.number,
      c.in_ok-first.ensures.offset,
      subst (λ t. character_offset (g.T.Text.part t) c.args.to ≡ Some c.in-Ok.second.number)
          c.span_of.ensures.kept c.in-Ok.ensures.offset,
      grind (arith, ints, to_z-of_z),
    )

pub returns-in-Err-clause-refused : goal.returns-in-Err-clause-refused
returns-in-Err-clause-refused g c =
    let number = mapped_some _ _ _ c.in_ok-first.ensures.offset in
    let first = mapped_some _ _ _ number.1 in
    inr (first.0, first.1, subst (λ t. IsOutOfRange (g.T.Text.part t) c.args.to c.in-Err.out) c.span_of.ensures.kept c.in-Err.ensures.refused)
