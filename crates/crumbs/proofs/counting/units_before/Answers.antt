use Rattle.std.proofs.Common.{◌≡◌, ap, ◌∙◌, min, arith}
use Rattle.word_units.specs.Counting.{units_begun, units_within}
use Rattle.word_units.proofs.Spreading.{within_more}
use Rattle.crumbs.proofs.counting.units_before.Goals as goal

pub bytes-preserved : goal.bytes-preserved
bytes-preserved c =
    let more = within_more units_begun c.bytes.p c.args.word in
    record { units = omega (arith, more, c.units_at-units.ensures.value); few = omega (arith, c.units_at-units.ensures.few) }

pub returns-clause-few : goal.returns-clause-few
returns-clause-few c = omega arith

pub returns-then-left-ge8-clause-value : goal.returns-then-left-ge8-clause-value
returns-then-left-ge8-clause-value c =
    let all : 8 ≡ min 8 c.args.left = omega arith in
    c.units_in.ensures.value ∙ ap (λ n. units_within n c.args.word) all

pub returns-clause-value : goal.returns-clause-value
returns-clause-value c =
    let all : c.bytes.p ≡ min 8 c.args.left = omega arith in
    c.bytes.invariant.units ∙ ap (λ n. units_within n c.args.word) all
