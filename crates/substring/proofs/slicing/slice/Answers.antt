use Rattle.std.proofs.Common.{◌≡◌, subst, ap, ◌∙◌, Some, arith}
use Rattle.rounding.specs.Refusals.{boundary_of}
use Rattle.str_value.specs.Meaning.{Meaning, own_part, storage_of}
use Rattle.substring.proofs.Copies.{same-storage}
use Rattle.substring.proofs.Ends.{is-slice, slice-text}
use Rattle.substring.proofs.slicing.slice.Goals as goal

pub invariant_of-result : goal.invariant_of-result
invariant_of-result g c =
    let same = c.boundary-2.ensures.kept ∙ c.boundary.ensures.kept in
    is-slice c.args.base.now c.in_ok-copy.copy c.args.a c.args.b _ _ (c.in_ok-copy.ensures.text ∙ ap (λ (m : Meaning). m.text) same)
    (same-storage _ _ _ _ _ _ c.in_ok-copy.ensures.copied ∙ ap (λ (m : Meaning). storage_of (m.row)) same)
    c.in_ok-low.ensures.found (subst (λ m. boundary_of (own_part m) c.args.b ≡ Some c.in_ok-high.high) c.boundary.ensures.kept c.in_ok-high.ensures.found)
    (omega (arith, c.if-low-high.false))

pub returns-clause-text : goal.returns-clause-text
returns-clause-text g c i j =
    let same = c.boundary-2.ensures.kept ∙ c.boundary.ensures.kept in
    slice-text c.args.base.now c.in_ok-copy.copy c.args.a c.args.b _ _ i j (c.in_ok-copy.ensures.text ∙ ap (λ (m : Meaning). m.text) same)
    (same-storage _ _ _ _ _ _ c.in_ok-copy.ensures.copied ∙ ap (λ (m : Meaning). storage_of (m.row)) same)
    c.in_ok-low.ensures.found (subst (λ m. boundary_of (own_part m) c.args.b ≡ Some c.in_ok-high.high) c.boundary.ensures.kept c.in_ok-high.ensures.found)
