use Rattle.crumbs.specs.Fitting.{IsCrumbList}
use Rattle.query_program.proofs.Used.{opening-pass, used-closed}
use Rattle.query_program.proofs.top.answer_input.Goals as goal

pub returns-clause-used : goal.returns-clause-used
returns-clause-used g c =
    let fresh = opening-pass c.pass.result c.in-Some.whole c.in-Some.heap c.pass.ensures.pass c.in-Some.ensures.whole c.in-Some.ensures.layout in
    used-closed (IsCrumbList 64) (g.S.Source.left c.args.source.now) c.pass.result c.in-Some-whole.whole c.answer_over-end.result.1 c.close.result _ _ fresh c.in-Some-whole.is c.answer_over-end.ensures.done
    c.close.ensures.history c.close.ensures.places c.close.ensures.ends
