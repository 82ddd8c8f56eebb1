use Rattle.std.proofs.Common.{◌≡◌, sym, ap, subst, ◌∙◌, true, IfOk, OnErr}
use Rattle.std.proofs.lemmas.Bool.{cond-false}
use Rattle.text_spec.specs.declared.encoding.Encoding.TheVariants.{Utf16}
use Rattle.text_spec.specs.Views.{width_in}
use Rattle.text_spec.proofs.Downward.{down-length}
use Rattle.str_value.specs.Meaning.{Meaning, storage_of, text_between}
use Rattle.batch_workers.specs.Ops.{is_out, text_reply, takes_memory}
use Rattle.batch_workers.proofs.Boundaries.{boundary-there, places-in-order}
use Rattle.batch_workers.proofs.Parts.{between-places}
use Rattle.batch_workers.proofs.questions.slice.Goals as goal

pub between-requires-clause-low : goal.between-requires-clause-low
between-requires-clause-low g c =
    let t = c.args.text.now.text in
    rw c.part_at.ensures.kept (boundary-there (storage_of c.args.text.now.row) t _ _ (down-length (width_in Utf16) t c.args.a) c.in-Ok.ensures.low)

pub between-requires-clause-high : goal.between-requires-clause-high
between-requires-clause-high g c =
    let t = c.args.text.now.text in
    rw c.part_at.ensures.kept (boundary-there (storage_of c.args.text.now.row) t _ _ (down-length (width_in Utf16) t c.args.b) c.in-Ok.ensures.high)

pub between-requires-clause-order : goal.between-requires-clause-order
between-requires-clause-order g c =
    places-in-order (storage_of c.args.text.now.row) Utf16 c.args.text.now.text c.args.a c.args.b _ _ c.in-Ok.ensures.order c.in-Ok.ensures.low c.in-Ok.ensures.high

pub returns-in-Ok-clause-answer : goal.returns-in-Ok-clause-answer
returns-in-Ok-clause-answer g c =
    let now = c.args.text.now in
    let low = c.in-Ok.part.low in
    let high = c.in-Ok.part.high in
    subst (λ wanted. IfOk c.between.result (λ reply. reply ≡ wanted))
    (ap (λ (m : Meaning). text_reply c.args.spent (text_between m low high)) c.part_at.ensures.kept
    ∙ ap (text_reply c.args.spent) (between-places now c.args.a c.args.b low high c.in-Ok.ensures.low c.in-Ok.ensures.high)
    ∙ sym (cond-false (is_out now.text c.args.a c.args.b) _ _ c.in-Ok.ensures.inside))
    c.between.ensures.answer

pub returns-in-Ok-clause-free : goal.returns-in-Ok-clause-free
returns-in-Ok-clause-free g c =
    let now = c.args.text.now in
    let low = c.in-Ok.part.low in
    let high = c.in-Ok.part.high in
    subst (λ wanted. OnErr c.between.result (takes_memory wanted ≡ true))
    (ap (λ (m : Meaning). text_reply c.args.spent (text_between m low high)) c.part_at.ensures.kept
    ∙ ap (text_reply c.args.spent) (between-places now c.args.a c.args.b low high c.in-Ok.ensures.low c.in-Ok.ensures.high)
    ∙ sym (cond-false (is_out now.text c.args.a c.args.b) _ _ c.in-Ok.ensures.inside))
    c.between.ensures.free
