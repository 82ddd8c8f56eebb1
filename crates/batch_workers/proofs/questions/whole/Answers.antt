use Rattle.std.proofs.Common.{◌≡◌, true, OnErr, ap, subst, ◌∙◌, length, IfOk, arith}
use Rattle.text_spec.proofs.Walk.{start-zero}
use Rattle.str_value.specs.Meaning.{storage_of}
use Rattle.batch_workers.specs.Ops.{text_reply, takes_memory}
use Rattle.batch_workers.proofs.Boundaries.{boundary-there}
use Rattle.batch_workers.proofs.Parts.{between-ends}
use Rattle.batch_workers.proofs.questions.whole.Goals as goal

pub between-requires-clause-low : goal.between-requires-clause-low
between-requires-clause-low c = boundary-there (storage_of c.args.text.now.row) c.args.text.now.text 0 _ (omega arith) c.low-low.ensures.value

pub between-requires-clause-high : goal.between-requires-clause-high
between-requires-clause-high c =
    boundary-there (storage_of c.args.text.now.row) c.args.text.now.text (length c.args.text.now.text) _ (omega arith) c.high-high.ensures.value

pub between-requires-clause-order : goal.between-requires-clause-order
between-requires-clause-order c = omega (arith, c.low-low.ensures.value ∙ start-zero _ _)

pub returns-clause-answer : goal.returns-clause-answer
returns-clause-answer c =
    subst (λ wanted. IfOk c.between.result (λ reply. reply ≡ wanted))
    (ap (text_reply c.args.spent) (between-ends c.args.text.now _ _ c.low-low.ensures.value c.high-high.ensures.value))
    c.between.ensures.answer

pub returns-clause-free : goal.returns-clause-free
returns-clause-free c =
    subst (λ wanted. OnErr c.between.result (takes_memory wanted ≡ true))
    (ap (text_reply c.args.spent) (between-ends c.args.text.now _ _ c.low-low.ensures.value c.high-high.ensures.value))
    c.between.ensures.free
