use Rattle.std.proofs.Common.{◌≡◌, refl, List, ℕ, Result, sym, ap, subst, ◌∙◌, chars, IfOk, OnOk, OnErr, IsOk}
use Rattle.std.proofs.lemmas.Bool.{cond-false}
use Rattle.std.specs.Result.{result_unwrap_or}
use Rattle.text_spec.specs.declared.encoding.Encoding.TheVariants.{Utf16}
use Rattle.text_spec.specs.Views.{width_in}
use Rattle.text_spec.proofs.Downward.{down-length}
use Rattle.query_lines.specs.declared.reply.OpReply.{OpReply}
use Rattle.str_value.specs.Meaning.{Meaning, storage_of, spliced}
use Rattle.batch_workers.specs.Ops.{is_out, within_limit, edit_reply}
use Rattle.batch_workers.specs.Working.{IsWorked, edits_of}
use Rattle.batch_workers.proofs.Boundaries.{boundary-there, inside-there, places-in-order}
use Rattle.batch_workers.proofs.Parts.{spliced-places}
use Rattle.batch_workers.proofs.Working.{worked-nothing}
use Rattle.batch_workers.proofs.edits.edit.Goals as goal

pub edit_between-requires-clause-low : goal.edit_between-requires-clause-low
edit_between-requires-clause-low g c =
    let t = c.args.text.now.text in
    rw c.part_at.ensures.kept (boundary-there (storage_of c.args.text.now.row) t _ _ (down-length (width_in Utf16) t c.args.a) c.in-Ok.ensures.low)

pub edit_between-requires-clause-high : goal.edit_between-requires-clause-high
edit_between-requires-clause-high g c =
    let t = c.args.text.now.text in
    rw c.part_at.ensures.kept (boundary-there (storage_of c.args.text.now.row) t _ _ (down-length (width_in Utf16) t c.args.b) c.in-Ok.ensures.high)

pub edit_between-requires-clause-order : goal.edit_between-requires-clause-order
edit_between-requires-clause-order g c =
    places-in-order (storage_of c.args.text.now.row) Utf16 c.args.text.now.text c.args.a c.args.b _ _ c.in-Ok.ensures.order c.in-Ok.ensures.low c.in-Ok.ensures.high

pub edit_between-requires-clause-inside : goal.edit_between-requires-clause-inside
edit_between-requires-clause-inside g c =
    rw c.part_at.ensures.kept (inside-there (storage_of c.args.text.now.row) c.args.text.now.text _ _ c.in-Ok.ensures.high)

pub returns-in-Ok-clause-answer : goal.returns-in-Ok-clause-answer
returns-in-Ok-clause-answer g c =
    let now = c.args.text.now in
    let with = chars c.args.with.now in
    subst (λ (wanted : Result (List ℕ) OpReply). IfOk c.edit_between.result (λ reply. reply ≡ edit_reply wanted))
    (ap (λ (m : Meaning). within_limit (spliced m c.in-Ok.part.low c.in-Ok.part.high with)) c.part_at.ensures.kept
    ∙ ap within_limit (spliced-places now c.args.a c.args.b c.in-Ok.part.low c.in-Ok.part.high with c.in-Ok.ensures.low c.in-Ok.ensures.high)
    ∙ sym (cond-false (is_out now.text c.args.a c.args.b) _ _ c.in-Ok.ensures.inside))
    c.edit_between.ensures.answer

pub returns-in-Ok-clause-text : goal.returns-in-Ok-clause-text
returns-in-Ok-clause-text g c =
    let now = c.args.text.now in
    let with = chars c.args.with.now in
    subst (λ (wanted : Result (List ℕ) OpReply). OnOk c.edit_between.result (c.edit_between.new.text.text ≡ result_unwrap_or wanted now.text))
    (ap (λ (m : Meaning). within_limit (spliced m c.in-Ok.part.low c.in-Ok.part.high with)) c.part_at.ensures.kept
    ∙ ap within_limit (spliced-places now c.args.a c.args.b c.in-Ok.part.low c.in-Ok.part.high with c.in-Ok.ensures.low c.in-Ok.ensures.high)
    ∙ sym (cond-false (is_out now.text c.args.a c.args.b) _ _ c.in-Ok.ensures.inside))
    (subst (λ (m : Meaning). OnOk c.edit_between.result (c.edit_between.new.text.text ≡ result_unwrap_or (within_limit (spliced c.part_at.new.text c.in-Ok.part.low c.in-Ok.part.high with)) m.text))
    c.part_at.ensures.kept c.edit_between.ensures.text)

pub returns-in-Ok-clause-free : goal.returns-in-Ok-clause-free
returns-in-Ok-clause-free g c =
    let now = c.args.text.now in
    let with = chars c.args.with.now in
    subst (λ (wanted : Result (List ℕ) OpReply). OnErr c.edit_between.result (IsOk wanted))
    (ap (λ (m : Meaning). within_limit (spliced m c.in-Ok.part.low c.in-Ok.part.high with)) c.part_at.ensures.kept
    ∙ ap within_limit (spliced-places now c.args.a c.args.b c.in-Ok.part.low c.in-Ok.part.high with c.in-Ok.ensures.low c.in-Ok.ensures.high)
    ∙ sym (cond-false (is_out now.text c.args.a c.args.b) _ _ c.in-Ok.ensures.inside))
    c.edit_between.ensures.free

pub returns-in-Err-clause-worked : goal.returns-in-Err-clause-worked
returns-in-Err-clause-worked g c =
    worked-nothing c.args.pass.now c.args.pass.now c.args.text.now c.part_at.new.text (edits_of c.out_of_bounds.result) refl c.part_at.ensures.kept c.requires.heap

pub returns-in-Ok-clause-left : goal.returns-in-Ok-clause-left
returns-in-Ok-clause-left g c =
    subst (λ (m : Meaning). OnErr c.edit_between.result ((c.edit_between.new.text.text ≡ m.text) × IsWorked c.args.pass.now m c.edit_between.new.pass c.edit_between.new.text 0)) c.part_at.ensures.kept
    c.edit_between.ensures.left
