use Rattle.std.proofs.Common.{◌+◌, ◌≤◌, ℕ, List, sym, ap, ◌∙◌, arith}
use Rattle.std.specs.FinMap as finite
use Rattle.std.proofs.lemmas.List.{take_all}
use Rattle.query_lines.specs.declared.command.JobLine.{JobLine}
use Rattle.query_session.specs.Kept.{with_keeps}
use Rattle.query_session.specs.Values.{texts_of}
use Rattle.query_session.proofs.Sums.{len-texts}
use Rattle.query_session.proofs.Counting.{count-kept, count-more, count-same}
use Rattle.query_session.proofs.kept.names_after.Goals as goal
use Rattle.query_session.proofs.kept.names_after.Goals.{then-adds_name, else-adds_name}

pub loop-index-init : goal.loop-index-init
loop-index-init c =
    let few : finite.len c.args.names.now ≤ 256 = c.requires.few in
    let count = c.count-count.ensures in
    (count, omega (arith, few, len-texts c.args.names.now, count))

pub loop-index-preserved : goal.loop-index-preserved
loop-index-preserved c =
    let s = texts_of c.args.names.now in
    let most = c.loop-index.invariant.1 in
    elim c.if-adds_name.branch [
      | then-adds_name w ↦ (
        let more = count-more s c.args.jobs.now c.loop-index.index c.index-jobs-index.result c.loop-index-test.true c.index-jobs-index.is (sym c.adds_name.ensures ∙ w.if-adds_name.true) in
            w.count-is ∙ (ap (λ (n : ℕ). n + 1) c.loop-index.invariant.0 ∙ sym more),
        let is = w.count-is in omega (arith, is, most),
      )
      | else-adds_name w ↦ (
        let same = count-same s c.args.jobs.now c.loop-index.index c.index-jobs-index.result c.loop-index-test.true c.index-jobs-index.is (sym c.adds_name.ensures ∙ w.if-adds_name.false) in
            w.count-is ∙ (c.loop-index.invariant.0 ∙ sym same),
        let is = w.count-is in omega (arith, is, most),
      )
    ]

pub returns : goal.returns
returns c =
    let s = texts_of c.args.names.now in
    λ pairs same.
    c.loop-index.invariant.0 ∙ (ap (λ (js : List JobLine). finite.len (with_keeps s js)) (take_all c.loop-index.index c.args.jobs.now c.loop-index-test.false)
    ∙ count-kept s c.args.jobs.now pairs same)
