use Rattle.std.proofs.Common.{rules, ◌+◌}
use Rattle.query_program.proofs.Grown.{Appends-more}
use Rattle.query_program.proofs.output.write_whole.Goals as goal

pub loop-at-preserved : goal.loop-at-preserved
loop-at-preserved g c = record {
  grown = Appends-more _ _ _ c.args.bytes.now c.loop-at.at c.in-Ok.count c.loop-at.invariant.grown c.in-Ok.ensures.bytes.1;
  inside = search rules;
  still = search rules;
}

pub returns-in-Err-clause-begun : goal.returns-in-Err-clause-begun
returns-in-Err-clause-begun g c =
    (c.loop-at.at + c.in-Err.ensures.bytes.0, Appends-more _ _ _ c.args.bytes.now c.loop-at.at c.in-Err.ensures.bytes.0 c.loop-at.invariant.grown c.in-Err.ensures.bytes.1)
