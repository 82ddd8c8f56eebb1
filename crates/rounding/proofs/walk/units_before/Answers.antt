use Rattle.std.proofs.Common.{◌+◌, ◌-◌, arith, subst, ◌∙◌}
use Rattle.word_units.specs.Running.{PassesRun}
use Rattle.rounding.proofs.Stepping.{Stepped, stepped}
use Rattle.rounding.proofs.walk.units_before.Given.{Over}
use Rattle.rounding.proofs.walk.units_before.Goals as goal

-- what is passed, of the text as it was
step : (g : Over) (c : goal.After-pass_run-next g)
    → Stepped (g.T.Text.part c.args.t.now).storage (g.T.Text.part c.args.t.now).whole (g.T.Text.part c.args.t.now).first (g.T.Text.part c.args.t.now).end c.scalars.at c.args.to c.pass_run-next.result.0 (c.scalars.reached + c.pass_run-next.result.1) c.pass_run-next.result.2
step g c =
    stepped _ _ _ _ _ _ _ (c.args.to - c.scalars.at) _ _ _ c.scalars.invariant.reaches
    (subst (λ t. PassesRun (g.T.Text.part t) c.scalars.at (c.args.to - c.scalars.at) c.pass_run-next.result.0 c.pass_run-next.result.1 c.pass_run-next.result.2)
    c.scalars.invariant.same c.pass_run-next.ensures.passes)
    (omega (arith, c.scalars-test.true)) c.scalars-test.true c.requires.boundary

pub overflow_add-reached : goal.overflow_add-reached
overflow_add-reached g c =
    let next = step g c in
    omega (arith, next.few, next.within, c.requires.inside, c.count-count.ensures.value, c.count-count.ensures.small)

pub scalars-preserved : goal.scalars-preserved
scalars-preserved g c =
    let next = step g c in
    record {
      reaches = next.reaches;
      not_after = next.within;
      same = c.pass_run-next.ensures.kept ∙ c.scalars.invariant.same;
      cost = omega (arith, c.pass_run-next.ensures.cost, c.scalars.invariant.cost, next.number, next.some);
    }
