use Rattle.std.proofs.Common.{subst, arith}
use Rattle.word_units.specs.Running.{PassesRun}
use Rattle.word_units.proofs.Running.{one_run, ascii_run}
use Rattle.word_units.proofs.run.pass_bytes.Goals as goal

pub returns-clause-passes : goal.returns-clause-passes
returns-clause-passes g c =
    subst (λ t. PassesRun (g.T.Text.part t) c.args.at c.args.most c.pass_lead-next.result.0 c.pass_lead-next.result.1 1) c.word-word.ensures.kept
    (one_run _ c.args.at c.args.most _ _ c.pass_lead-next.ensures.passes)

pub returns-then-word-eq0-clause-passes : goal.returns-then-word-eq0-clause-passes
returns-then-word-eq0-clause-passes g c =
    let ws = g.T.Text.words c.args.t.now in
    let b = (g.T.Text.part c.args.t.now).whole in
    ascii_run _ ws _ b _ _ c.requires.encoding c.count-count.ensures.value c.count-count.ensures.denotes c.args.at c.word-word.result
    (omega (arith, c.requires.fits, c.if-most-ge8.true)) c.if-at-eq0.true c.word-word.ensures.value c.if-word-eq0.true c.requires.boundary c.args.most c.if-most-ge8.true
