use Rattle.std.proofs.Common.{sym, ap, ◌∙◌}
use Rattle.query_lines.specs.declared.command.JobLine.{JobLine}
use Rattle.query_session.specs.State.{is_in_use}
use Rattle.query_session.specs.Values.{texts_of}
use Rattle.query_session.proofs.Batching.{there, unused-found}
use Rattle.query_session.proofs.batch.find_unused.Goals as goal

pub returns-then-not-has : goal.returns-then-not-has
returns-then-not-has c =
    let s = texts_of c.args.names.now in
    let line = c.index-lines-number.result in
    let below = c.loop-number-test.true in (
      line,
      there c.args.lines.now c.loop-number.number line below c.index-lines-number.is,
      unused-found s c.args.lines.now c.loop-number.number line c.loop-number.invariant below c.index-lines-number.is
          (ap (λ (l : JobLine). is_in_use s l.name) c.index-lines-number.is ∙ (ap (is_in_use s) (sym c.str_of.ensures) ∙ (sym c.has.ensures ∙ c.if-not-has.true))),
    )
