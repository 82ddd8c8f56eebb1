use Rattle.unit_views.proofs.Walks.{passing_scalars, passing_units}
use Rattle.unit_views.proofs.steps.pass_elements.Goals as goal

pub returns-in-Scalars-clause-passes : goal.returns-in-Scalars-clause-passes
returns-in-Scalars-clause-passes g c =
    passing_scalars c.args.view _ _ _ _ c.args.at c.args.to c.args.room c.run_limit.result _ _ _ c.in-Scalars.is c.pass_run-next.ensures.passes
    c.run_limit.ensures.ends c.run_limit.ensures.fits c.requires.begun c.requires.ends c.requires.order

pub returns-in-Units-clause-passes : goal.returns-in-Units-clause-passes
returns-in-Units-clause-passes g c =
    passing_units c.args.view _ _ _ _ _ c.args.at c.args.to c.args.room c.run_limit.result _ _ _ c.in-Units.is c.requires.across c.pass_run-next.ensures.passes
    c.run_limit.ensures.ends c.run_limit.ensures.fits c.requires.begun c.requires.ends c.requires.order
