use Rattle.std.proofs.Common.{◌≡◌, sym, ap, subst, ◌∙◌, ℕ, ◌-◌, ◌<◌, ◌≤◌, get_or, arith}
use Rattle.std.specs.Char.{len_utf8}
use Rattle.text_spec.specs.Offsets.{start, down}
use Rattle.text_spec.specs.Views.{width_in, size_in}
use Rattle.word_units.proofs.FillingLemmas.{Backed, backed}
use Rattle.word_units.proofs.fill.reach_back.Given.{Over}
use Rattle.word_units.proofs.fill.reach_back.Goals as goal

-- the scalar before the place, of the text as it was
step : (g : Over) (old text : g.row.T.Denot) (p from at low : ℕ) → text ≡ old → low ≡ start (width_in (g.T.Text.part old).storage) (g.T.Text.part old).whole (g.T.Text.part old).first
    → low < from → from ≤ p → p ≤ size_in (g.T.Text.part old).storage (g.T.Text.part old).whole
    → start (width_in (g.T.Text.part old).storage) (g.T.Text.part old).whole (down (width_in (g.T.Text.part old).storage) (g.T.Text.part old).whole from) ≡ from
    → at ≡ start (width_in (g.T.Text.part text).storage) (g.T.Text.part text).whole (down (width_in (g.T.Text.part text).storage) (g.T.Text.part text).whole (from - 1))
    → Backed (g.T.Text.part old).storage (g.T.Text.part old).whole (g.T.Text.part old).first from at
step g old text p from at low same low_is above before within boundary is =
    backed _ _ _ from at (omega (arith, low_is, above)) (omega (arith, before, within)) boundary
    (subst (λ t. at ≡ start (width_in (g.T.Text.part t).storage) (g.T.Text.part t).whole (down (width_in (g.T.Text.part t).storage) (g.T.Text.part t).whole (from - 1))) same is)

-- how many bytes it takes
takes : (g : Over) (old text : g.row.T.Denot) (at scalar width : ℕ) → text ≡ old → width ≡ len_utf8 scalar
    → scalar ≡ get_or (g.T.Text.part text).whole (down (width_in (g.T.Text.part text).storage) (g.T.Text.part text).whole at) 0
    → width ≡ len_utf8 (get_or (g.T.Text.part old).whole (down (width_in (g.T.Text.part old).storage) (g.T.Text.part old).whole at) 0)
takes g old text at scalar width same long is =
    long ∙ ap len_utf8 (subst (λ t. scalar ≡ get_or (g.T.Text.part t).whole (down (width_in (g.T.Text.part t).storage) (g.T.Text.part t).whole at) 0) same is)

pub scalar_at-scalar-requires-clause-inside : goal.scalar_at-scalar-requires-clause-inside
scalar_at-scalar-requires-clause-inside g c =
    let at = c.boundary_at_or_before-at in
    let i = c.scalars.invariant in
    let back = step g c.args.t.now c.scalars.t c.args.p c.scalars.from at.result c.low-low.result i.same c.low-low.ensures.value c.scalars-test.true i.order c.requires.inside i.boundary at.ensures.value in
    subst (λ t. at.result < size_in (g.T.Text.part t).storage (g.T.Text.part t).whole) (sym (at.ensures.kept ∙ i.same)) back.inside

pub scalar_at-scalar-requires-clause-boundary : goal.scalar_at-scalar-requires-clause-boundary
scalar_at-scalar-requires-clause-boundary g c =
    let at = c.boundary_at_or_before-at in
    let i = c.scalars.invariant in
    let back = step g c.args.t.now c.scalars.t c.args.p c.scalars.from at.result c.low-low.result i.same c.low-low.ensures.value c.scalars-test.true i.order c.requires.inside i.boundary at.ensures.value in
    subst (λ t. start (width_in (g.T.Text.part t).storage) (g.T.Text.part t).whole (down (width_in (g.T.Text.part t).storage) (g.T.Text.part t).whole at.result) ≡ at.result)
    (sym (at.ensures.kept ∙ i.same)) back.boundary

pub returns-then-size-width-gt64-clause-most : goal.returns-then-size-width-gt64-clause-most
returns-then-size-width-gt64-clause-most g c =
    let at = c.boundary_at_or_before-at in
    let i = c.scalars.invariant in
    let back = step g c.args.t.now c.scalars.t c.args.p c.scalars.from at.result c.low-low.result i.same c.low-low.ensures.value c.scalars-test.true i.order c.requires.inside i.boundary at.ensures.value in
    let width = takes g c.args.t.now at.new.t at.result _ _ (at.ensures.kept ∙ i.same) c.len_utf8-width.ensures.value c.scalar_at-scalar.ensures.scalar in
    let same = ap (λ k. len_utf8 (get_or (g.T.Text.part c.args.t.now).whole k 0)) back.previous in
    λ above. omega (arith, width, same, c.if-size-width-gt64.true, i.size)

pub scalars-smaller : goal.scalars-smaller
scalars-smaller g c =
    let at = c.boundary_at_or_before-at in
    let i = c.scalars.invariant in
    let back = step g c.args.t.now c.scalars.t c.args.p c.scalars.from at.result c.low-low.result i.same c.low-low.ensures.value c.scalars-test.true i.order c.requires.inside i.boundary at.ensures.value in
    back.before

pub scalars-preserved : goal.scalars-preserved
scalars-preserved g c =
    let at = c.boundary_at_or_before-at in
    let i = c.scalars.invariant in
    let back = step g c.args.t.now c.scalars.t c.args.p c.scalars.from at.result c.low-low.result i.same c.low-low.ensures.value c.scalars-test.true i.order c.requires.inside i.boundary at.ensures.value in
    let width = takes g c.args.t.now at.new.t at.result _ _ (at.ensures.kept ∙ i.same) c.len_utf8-width.ensures.value c.scalar_at-scalar.ensures.scalar in
    record {
      same = c.scalar_at-scalar.ensures.kept ∙ at.ensures.kept ∙ i.same;
      within = back.within;
      order = omega (arith, back.before, i.order);
      boundary = back.boundary;
      size = omega (arith, back.size, width, i.size);
      fits = omega (arith, c.if-size-width-gt64.false);
      cost = omega (arith, c.scalar_at-scalar.ensures.cost, at.ensures.cost, i.cost, width, back.some);
    }
