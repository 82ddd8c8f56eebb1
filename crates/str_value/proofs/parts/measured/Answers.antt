use Rattle.std.proofs.Common.{◌+◌, ◌-◌, ◌<◌, ◌≤◌, sym, subst, ◌∙◌, arith}
use Rattle.word_units.specs.Parts.{storage_size, scalars_before}
use Rattle.word_units.specs.Running.{PassesRun}
use Rattle.str_value.specs.Meaning.{own_part}
use Rattle.str_value.proofs.Kept.{limit-kept}
use Rattle.str_value.proofs.Measuring.{boundary-inside, other-few, run-scalars, run-ends}
use Rattle.str_value.proofs.parts.measured.Given as given
use Rattle.str_value.proofs.parts.measured.Goals as goal

pub pass_run-next-requires-clause-inside : goal.pass_run-next-requires-clause-inside
pass_run-next-requires-clause-inside g c =
    subst (λ m. c.runs.at < storage_size (own_part m)) (sym c.runs.invariant.0) (omega (arith, c.runs-test.true, boundary-inside c.args.value.now c.args.high c.requires.high))

pub pass_run-next-requires-clause-fits : goal.pass_run-next-requires-clause-fits
pass_run-next-requires-clause-fits g c =
    subst (λ m. c.runs.at + (c.args.high - c.runs.at) ≤ storage_size (own_part m)) (sym c.runs.invariant.0)
    (omega (arith, c.runs-test.true, boundary-inside c.args.value.now c.args.high c.requires.high))

run : (g : given.Over) (c : goal.After-pass_run-next g) → PassesRun (own_part c.args.value.now) c.runs.at (c.args.high - c.runs.at) c.pass_run-next.result.0 c.pass_run-next.result.1 c.pass_run-next.result.2
run g c = subst (λ m. PassesRun (own_part m) c.runs.at (c.args.high - c.runs.at) c.pass_run-next.result.0 c.pass_run-next.result.1 c.pass_run-next.result.2) c.runs.invariant.0 c.pass_run-next.ensures.passes

pub overflow_add-other : goal.overflow_add-other
overflow_add-other g c =
    let more = (run g c).other in
    omega (arith, more, c.runs.invariant.4, other-few c.args.value.now (scalars_before (own_part c.args.value.now) c.pass_run-next.result.0), limit-kept _ _ c.args.value.now c.value.invariant c.value.view_is)

pub overflow_add-scalars : goal.overflow_add-scalars
overflow_add-scalars g c =
    let more = (run g c).other in
    omega (
      arith,
      more,
      c.runs.invariant.4,
      c.runs.invariant.5,
      run-scalars c.args.value.now _ _ _ _ _ (run g c),
      other-few c.args.value.now (scalars_before (own_part c.args.value.now) c.pass_run-next.result.0),
      limit-kept _ _ c.args.value.now c.value.invariant c.value.view_is,
    )

pub runs-preserved : goal.runs-preserved
runs-preserved g c =
    let r = run g c in
    let number = r.number in
    let other = r.other in (
      c.pass_run-next.ensures.kept ∙ c.runs.invariant.0,
      run-ends c.args.value.now c.runs.at c.args.high _ _ _ c.runs.invariant.2 c.requires.high c.runs-test.true r,
      r.boundary,
      omega (arith, number, c.runs.invariant.3),
      omega (arith, other, c.runs.invariant.4),
      omega (arith, c.runs.invariant.5, run-scalars c.args.value.now _ _ _ _ _ r),
    )
