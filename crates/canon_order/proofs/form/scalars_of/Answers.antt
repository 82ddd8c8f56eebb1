use Rattle.std.proofs.Common.{◌≡◌, sym, ap, subst, ◌∙◌, ℕ, ◌+◌, ◌<◌, ◌++◌, [], ◌∷◌, get_or, arith, refl}
use Rattle.text_spec.specs.Offsets.{start, down}
use Rattle.text_spec.specs.Views.{width_in, part}
use Rattle.text_spec.proofs.Downward.{down-length, down-greatest}
use Rattle.word_units.proofs.FillingLemmas.{Passed, passed}
use Rattle.canon_order.proofs.Collecting.{Ends, ends, part-none, part-more}
use Rattle.canon_order.proofs.form.scalars_of.Given.{Over}
use Rattle.canon_order.proofs.form.scalars_of.Goals as goal

-- the scalar that is read, of the text as it was
step : (g : Over) (old text : g.row.T.Denot) (first end low high at scalar width : ℕ) → text ≡ old
    → Ends (g.T.Text.part old).storage (g.T.Text.part old).whole first end low high → at < high
    → start (width_in (g.T.Text.part old).storage) (g.T.Text.part old).whole (down (width_in (g.T.Text.part old).storage) (g.T.Text.part old).whole at) ≡ at
    → scalar ≡ get_or (g.T.Text.part text).whole (down (width_in (g.T.Text.part text).storage) (g.T.Text.part text).whole at) 0
    → width ≡ width_in (g.T.Text.part text).storage (get_or (g.T.Text.part text).whole (down (width_in (g.T.Text.part text).storage) (g.T.Text.part text).whole at) 0)
    → Passed (g.T.Text.part old).storage (g.T.Text.part old).whole at high (at + width) scalar
step g old text first end low high at scalar width same bounds before boundary is takes =
    passed _ _ at high _ scalar before bounds.inside boundary bounds.end_boundary
    (subst (λ t. scalar ≡ get_or (g.T.Text.part t).whole (down (width_in (g.T.Text.part t).storage) (g.T.Text.part t).whole at) 0) same is)
    (ap (λ n. at + n) (subst (λ t. width ≡ width_in (g.T.Text.part t).storage (get_or (g.T.Text.part t).whole (down (width_in (g.T.Text.part t).storage) (g.T.Text.part t).whole at) 0)) same takes))

pub scalars-init : goal.scalars-init
scalars-init g c =
    let b = (g.T.Text.part c.args.t.now).whole in
    let e = ends _ b _ _ _ _ c.low-low.ensures.value c.high-high.ensures.value c.low-low.ensures.order c.high-high.ensures.inside in
    record {
      same = refl;
      items = c.new-scalars.ensures.items ∙ part-none b (g.T.Text.part c.args.t.now).first ∙ ap (part b (g.T.Text.part c.args.t.now).first) (sym e.first_is);
      boundary = e.boundary;
      order = omega (arith, e.first_is);
      within = e.order;
      cost = omega (arith, e.first_is);
    }

pub scalar_at-scalar-requires-clause-inside : goal.scalar_at-scalar-requires-clause-inside
scalar_at-scalar-requires-clause-inside g c =
    let e = ends _ (g.T.Text.part c.args.t.now).whole _ _ _ _ c.low-low.ensures.value c.high-high.ensures.value c.low-low.ensures.order c.high-high.ensures.inside in
    rw c.scalars.invariant.same (omega (arith, c.scalars-test.true, e.inside))

pub returns-in_err-push-clause-cost : goal.returns-in_err-push-clause-cost
returns-in_err-push-clause-cost g c =
    let i = c.scalars.invariant in
    let e = ends _ (g.T.Text.part c.args.t.now).whole _ _ _ _ c.low-low.ensures.value c.high-high.ensures.value c.low-low.ensures.order c.high-high.ensures.inside in
    let read = c.scalar_at-scalar in
    let next = step g c.args.t.now c.scalars.t _ _ _ _ c.scalars.at read.result.0 read.result.1 i.same e c.scalars-test.true i.boundary read.ensures.scalar read.ensures.width in
    let w = width_in (g.T.Text.part c.args.t.now).storage in
    let b = (g.T.Text.part c.args.t.now).whole in
    let p = c.scalars.at + read.result.1 in
    omega (arith, read.ensures.cost, i.cost, next.number, e.end_is, down-greatest w b c.high-high.result (down w b p) (down-length w b p) (omega (arith, next.boundary, next.within)))

pub overflow_add-at : goal.overflow_add-at
overflow_add-at g c =
    let i = c.scalars.invariant in
    let e = ends _ (g.T.Text.part c.args.t.now).whole _ _ _ _ c.low-low.ensures.value c.high-high.ensures.value c.low-low.ensures.order c.high-high.ensures.inside in
    let read = c.scalar_at-scalar in
    let next = step g c.args.t.now c.scalars.t _ _ _ _ c.scalars.at read.result.0 read.result.1 i.same e c.scalars-test.true i.boundary read.ensures.scalar read.ensures.width in
    omega (arith, next.within, e.inside, c.count-count.ensures.value, c.count-count.ensures.small)

pub scalars-preserved : goal.scalars-preserved
scalars-preserved g c =
    let b = (g.T.Text.part c.args.t.now).whole in
    let i = c.scalars.invariant in
    let e = ends _ b _ _ _ _ c.low-low.ensures.value c.high-high.ensures.value c.low-low.ensures.order c.high-high.ensures.inside in
    let read = c.scalar_at-scalar in
    let next = step g c.args.t.now c.scalars.t _ _ _ _ c.scalars.at read.result.0 read.result.1 i.same e c.scalars-test.true i.boundary read.ensures.scalar read.ensures.width in
    record {
      same = read.ensures.kept ∙ i.same;
      items = c.in_ok-push.ensures.items ∙ ap (λ l. l ++ read.result.0 ∷ []) i.items ∙ part-more b _ _ _ read.result.0 i.order next.inside next.number next.is;
      boundary = next.boundary;
      order = omega (arith, next.number, i.order);
      within = next.within;
      cost = omega (arith, read.ensures.cost, i.cost, next.number);
    }

pub returns-clause-scalars : goal.returns-clause-scalars
returns-clause-scalars g c =
    let b = (g.T.Text.part c.args.t.now).whole in
    let i = c.scalars.invariant in
    let e = ends _ b _ _ _ _ c.low-low.ensures.value c.high-high.ensures.value c.low-low.ensures.order c.high-high.ensures.inside in
    let there : c.scalars.at ≡ c.high-high.result = omega (arith, i.within, c.scalars-test.false) in
    i.items ∙ ap (λ p. part b (g.T.Text.part c.args.t.now).first (down (width_in (g.T.Text.part c.args.t.now).storage) b p)) there ∙ ap (part b (g.T.Text.part c.args.t.now).first) e.end_is

pub returns-clause-cost : goal.returns-clause-cost
returns-clause-cost g c =
    let b = (g.T.Text.part c.args.t.now).whole in
    let i = c.scalars.invariant in
    let e = ends _ b _ _ _ _ c.low-low.ensures.value c.high-high.ensures.value c.low-low.ensures.order c.high-high.ensures.inside in
    let there : c.scalars.at ≡ c.high-high.result = omega (arith, i.within, c.scalars-test.false) in
    omega (arith, i.cost, ap (down (width_in (g.T.Text.part c.args.t.now).storage) b) there, e.end_is)
