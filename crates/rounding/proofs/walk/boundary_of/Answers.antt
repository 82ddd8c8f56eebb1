use Rattle.std.proofs.Common.{◌≡◌, ℕ, suc, ◌+◌, inr, ⊎_elim, ap, arith, subst, ◌∙◌}
use Rattle.text_spec.specs.Offsets.{start, down}
use Rattle.text_spec.specs.Views.{width_in, other_width}
use Rattle.word_units.specs.Running.{PassesRun}
use Rattle.rounding.proofs.Stepping.{Stepped, stepped}
use Rattle.rounding.proofs.walk.boundary_of.Given.{Over}
use Rattle.rounding.proofs.walk.boundary_of.Goals.{After-pass_run-next}
use Rattle.rounding.proofs.walk.boundary_of.Goals as goal

-- what is passed, of the text as it was
run : (g : Over) (old text : g.row.T.Denot) (at most next more scalars : ℕ) → text ≡ old
    → PassesRun (g.T.Text.part text) at most next more scalars
    → PassesRun (g.T.Text.part old) at most next more scalars
run g old text at most next more scalars same = subst (λ t. PassesRun (g.T.Text.part t) at most next more scalars) same

step : (g : Over) (c : After-pass_run-next g)
    → Stepped (g.T.Text.part c.args.t.now).storage (g.T.Text.part c.args.t.now).whole (g.T.Text.part c.args.t.now).first (g.T.Text.part c.args.t.now).end c.scalars.at c.args.to c.pass_run-next.result.0 (c.scalars.reached + c.pass_run-next.result.1) c.pass_run-next.result.2
step g c =
    stepped _ _ _ _ _ _ _ _ _ _ _ c.scalars.invariant.reaches (run g c.args.t.now c.scalars.t _ _ _ _ _ c.scalars.invariant.same c.pass_run-next.ensures.passes)
    (omega (arith, c.min-most.ensures, c.scalars-test.true)) c.scalars-test.true c.requires.boundary

pub returns-then-offset-reached-clause-last : goal.returns-then-offset-reached-clause-last
returns-then-offset-reached-clause-last g c =
    let e = (g.T.Text.part c.args.t.now).storage in
    let b = (g.T.Text.part c.args.t.now).whole in
    let passed = run g c.args.t.now c.scalars.t _ _ _ _ _ c.scalars.invariant.same c.pass_run-next.ensures.passes in
    let next = step g c.before in
    -- several scalars have no more units than there was room for
    let one : c.pass_run-next.result.2 ≡ 1 = ⊎_elim (λ is. is) (λ is. absurd (omega (arith, is.2, c.min-most.ensures, c.if-offset-reached.true))) passed.size in
    let there : start (other_width e) b (suc (down (width_in e) b c.scalars.at)) ≡ c.scalars.reached + c.pass_run-next.result.1 =
    ap (start (other_width e) b) {x = suc (down (width_in e) b c.scalars.at)} {y = down (width_in e) b c.pass_run-next.result.0} (omega (arith, passed.number, one)) ∙ next.reaches.offset in
    inr (c.scalars-test.true, omega (arith, there, c.if-offset-reached.true))

pub returns-then-offset-reached-clause-cost : goal.returns-then-offset-reached-clause-cost
returns-then-offset-reached-clause-cost g c = omega (arith, c.pass_run-next.ensures.cost, c.scalars.invariant.cost, (step g c.before).before)

pub scalars-preserved : goal.scalars-preserved
scalars-preserved g c =
    let next = step g c.before in
    record {
      reaches = next.reaches;
      ahead = omega (arith, c.scalars.invariant.ahead, c.pass_run-next.ensures.passes.ahead);
      not_after = next.within;
      same = c.pass_run-next.ensures.kept ∙ c.scalars.invariant.same;
      before = omega (arith, c.if-offset-reached.false, c.scalars.invariant.before);
      cost = omega (arith, c.pass_run-next.ensures.cost, c.scalars.invariant.cost, next.number, next.some);
    }
