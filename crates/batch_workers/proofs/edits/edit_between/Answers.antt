use Rattle.std.proofs.Common.{◌≡◌, sym, ap, subst, ◌∙◌, ⊎_elim, chars}
use Rattle.std.specs.Result.{result_unwrap_or}
use Rattle.text_spec.specs.Text.{utf8}
use Rattle.object_words.specs.Rows.{form_of}
use Rattle.str_value.specs.Meaning.{Meaning, spliced}
use Rattle.edit_cow.specs.declared.error.EditError.TheVariants as refusal
use Rattle.batch_workers.proofs.Edited.{edited-is, refused-for, made-long, made-ok}
use Rattle.batch_workers.specs.Ops.{edit_reply}
use Rattle.batch_workers.specs.Working.{IsForSlot, IsSoleIfNative, IsWorked, edits_of}
use Rattle.batch_workers.proofs.Working.{worked-nothing}
use Rattle.batch_workers.proofs.Written.{too-long-cause, left-kept, left-worked, written-worked, written-sole, written-native}
use Rattle.batch_workers.proofs.edits.edit_between.Goals as goal

-- the edit can be refused for its length alone

pub unreachable-requires : goal.unreachable-requires
unreachable-requires g c =
    let is = edited-is c.encoding-encoding.result c.args.text.now c.bounds-low.result.0 c.bounds-low.result.1 c.args.low c.args.high c.index_from-from.result c.index_from-to.result c.args.with.now
    c.bounds-low.ensures c.encoding-encoding.ensures c.index_from-from.ensures c.index_from-to.ensures c.requires.order c.requires.inside c.requires.utf8 in
    ⊎_elim
    (λ m. let no : refusal.OutOfBounds c.in-Err-OutOfBounds.field-0-0 ≡ refusal.OutOfMemory = sym c.in-Err-OutOfBounds.field-0-is ∙ m in cc)
    (λ long. let no : refusal.OutOfBounds c.in-Err-OutOfBounds.field-0-0 ≡ refusal.TooLong (long.0) = sym c.in-Err-OutOfBounds.field-0-is ∙ long.1 in cc)
    (refused-for c.args.text.now c.index_from-from.result c.index_from-to.result c.args.with.now (spliced c.args.text.now c.args.low c.args.high (chars c.args.with.now)) c.in-Err-OutOfBounds.field-0 is
    c.in-Err-OutOfBounds.ensures.refused)

pub unreachable-requires-in-Err-Reversed : goal.unreachable-requires-in-Err-Reversed
unreachable-requires-in-Err-Reversed g c =
    let is = edited-is c.encoding-encoding.result c.args.text.now c.bounds-low.result.0 c.bounds-low.result.1 c.args.low c.args.high c.index_from-from.result c.index_from-to.result c.args.with.now
    c.bounds-low.ensures c.encoding-encoding.ensures c.index_from-from.ensures c.index_from-to.ensures c.requires.order c.requires.inside c.requires.utf8 in
    ⊎_elim
    (λ m. let no : refusal.Reversed c.in-Err-Reversed.field-0-0 c.in-Err-Reversed.field-0-1 ≡ refusal.OutOfMemory = sym c.in-Err-Reversed.field-0-is ∙ m in cc)
    (λ long. let no : refusal.Reversed c.in-Err-Reversed.field-0-0 c.in-Err-Reversed.field-0-1 ≡ refusal.TooLong (long.0) = sym c.in-Err-Reversed.field-0-is ∙ long.1 in cc)
    (refused-for c.args.text.now c.index_from-from.result c.index_from-to.result c.args.with.now (spliced c.args.text.now c.args.low c.args.high (chars c.args.with.now)) c.in-Err-Reversed.field-0 is
    c.in-Err-Reversed.ensures.refused)

pub unreachable-requires-in-Err-NotUtf8 : goal.unreachable-requires-in-Err-NotUtf8
unreachable-requires-in-Err-NotUtf8 g c =
    let is = edited-is c.encoding-encoding.result c.args.text.now c.bounds-low.result.0 c.bounds-low.result.1 c.args.low c.args.high c.index_from-from.result c.index_from-to.result c.args.with.now
    c.bounds-low.ensures c.encoding-encoding.ensures c.index_from-from.ensures c.index_from-to.ensures c.requires.order c.requires.inside c.requires.utf8 in
    ⊎_elim
    (λ m. let no : refusal.NotUtf8 c.in-Err-NotUtf8.field-0-0 ≡ refusal.OutOfMemory = sym c.in-Err-NotUtf8.field-0-is ∙ m in cc)
    (λ long. let no : refusal.NotUtf8 c.in-Err-NotUtf8.field-0-0 ≡ refusal.TooLong (long.0) = sym c.in-Err-NotUtf8.field-0-is ∙ long.1 in cc)
    (refused-for c.args.text.now c.index_from-from.result c.index_from-to.result c.args.with.now (spliced c.args.text.now c.args.low c.args.high (chars c.args.with.now)) c.in-Err-NotUtf8.field-0 is
    c.in-Err-NotUtf8.ensures.refused)

-- the edit's text is too long for a value, and nothing was done
pub returns-in-Err-TooLong-clause-worked : goal.returns-in-Err-TooLong-clause-worked
returns-in-Err-TooLong-clause-worked g c =
    let cause = too-long-cause _ c.in-Err-TooLong.field-0 c.in-Err-TooLong.field-0-0 c.in-Err-TooLong.field-0-is c.in-Err-TooLong.ensures.refused in
    let kept = left-kept c.args.pass.now c.args.text.now c.replace.new.pass c.replace.new.s _ _ cause c.in-Err-TooLong.ensures.left in
    worked-nothing c.args.pass.now c.replace.new.pass c.args.text.now c.replace.new.s 0 kept.1 kept.0 c.requires.heap

pub returns-in-Err-TooLong-clause-unedited : goal.returns-in-Err-TooLong-clause-unedited
returns-in-Err-TooLong-clause-unedited g c _ =
    let cause = too-long-cause _ c.in-Err-TooLong.field-0 c.in-Err-TooLong.field-0-0 c.in-Err-TooLong.field-0-is c.in-Err-TooLong.ensures.refused in
    (left-kept c.args.pass.now c.args.text.now c.replace.new.pass c.replace.new.s _ _ cause c.in-Err-TooLong.ensures.left).0

pub returns-in-Err-TooLong-clause-text : goal.returns-in-Err-TooLong-clause-text
returns-in-Err-TooLong-clause-text g c =
    let now = c.args.text.now in
    let is = edited-is c.encoding-encoding.result now c.bounds-low.result.0 c.bounds-low.result.1 c.args.low c.args.high c.index_from-from.result c.index_from-to.result c.args.with.now
    c.bounds-low.ensures c.encoding-encoding.ensures c.index_from-from.ensures c.index_from-to.ensures c.requires.order c.requires.inside c.requires.utf8 in
    let cause = too-long-cause _ c.in-Err-TooLong.field-0 c.in-Err-TooLong.field-0-0 c.in-Err-TooLong.field-0-is c.in-Err-TooLong.ensures.refused in
    let kept = left-kept c.args.pass.now now c.replace.new.pass c.replace.new.s _ _ cause c.in-Err-TooLong.ensures.left in
    ap (λ (m : Meaning). m.text) kept.0
    ∙ sym (ap (λ o. result_unwrap_or o now.text) (made-long (spliced now c.args.low c.args.high (chars c.args.with.now)) c.in-Err-TooLong.field-0-0 (sym is ∙ cause)))

-- the text was edited
pub returns-in-Ok-clause-answer : goal.returns-in-Ok-clause-answer
returns-in-Ok-clause-answer g c =
    let now = c.args.text.now in
    let is = edited-is c.encoding-encoding.result now c.bounds-low.result.0 c.bounds-low.result.1 c.args.low c.args.high c.index_from-from.result c.index_from-to.result c.args.with.now
    c.bounds-low.ensures c.encoding-encoding.ensures c.index_from-from.ensures c.index_from-to.ensures c.requires.order c.requires.inside c.requires.utf8 in
    let ok = made-ok (spliced now c.args.low c.args.high (chars c.args.with.now)) c.replace.new.s.text (sym is ∙ c.in-Ok.ensures.text) in
    c.counts.ensures.counts ∙ sym (ap edit_reply ok)

pub returns-in-Ok-clause-text : goal.returns-in-Ok-clause-text
returns-in-Ok-clause-text g c =
    let now = c.args.text.now in
    let is = edited-is c.encoding-encoding.result now c.bounds-low.result.0 c.bounds-low.result.1 c.args.low c.args.high c.index_from-from.result c.index_from-to.result c.args.with.now
    c.bounds-low.ensures c.encoding-encoding.ensures c.index_from-from.ensures c.index_from-to.ensures c.requires.order c.requires.inside c.requires.utf8 in
    let ok = made-ok (spliced now c.args.low c.args.high (chars c.args.with.now)) c.replace.new.s.text (sym is ∙ c.in-Ok.ensures.text) in
    ap (λ (m : Meaning). m.text) c.counts.ensures.kept ∙ sym (ap (λ o. result_unwrap_or o now.text) ok)

pub returns-in-Ok-clause-worked : goal.returns-in-Ok-clause-worked
returns-in-Ok-clause-worked g c =
    let now = c.args.text.now in
    let done = written-worked c.args.pass.now now (utf8 c.replace.new.s.text) c.replace.new.pass c.replace.new.s c.requires.heap c.in-Ok.ensures.heap c.in-Ok._wrote _ c.in-Ok.ensures.written.2 in
    subst (λ (m : Meaning). IsWorked c.args.pass.now now c.replace.new.pass m (edits_of c.counts.result)) (sym c.counts.ensures.kept)
    (subst (λ reply. IsWorked c.args.pass.now now c.replace.new.pass c.replace.new.s (edits_of reply)) (sym c.counts.ensures.counts) done)

pub returns-in-Ok-clause-sole : goal.returns-in-Ok-clause-sole
returns-in-Ok-clause-sole g c _ =
    let is = written-sole c.in-Ok._wrote c.args.pass.now c.args.text.now _ (utf8 c.replace.new.s.text) c.replace.new.pass c.replace.new.s c.in-Ok.ensures.written.2 in
    subst IsSoleIfNative (sym c.counts.ensures.kept) is

pub returns-in-Ok-clause-native : goal.returns-in-Ok-clause-native
returns-in-Ok-clause-native g c _ suits shows =
    let kept = ap (λ (m : Meaning). m.text) c.counts.ensures.kept in
    let here = subst (IsForSlot c.args.pass.now) kept suits in
    ap (λ (m : Meaning). form_of m.row) c.counts.ensures.kept
    ∙ written-native c.in-Ok._wrote c.args.pass.now c.args.text.now _ (utf8 c.replace.new.s.text) c.replace.new.pass c.replace.new.s c.in-Ok.ensures.written.2 here.long
    (record { fits = here.fits; shows = shows })

-- memory is wanting
pub returns-in-Err-OutOfMemory-clause-left : goal.returns-in-Err-OutOfMemory-clause-left
returns-in-Err-OutOfMemory-clause-left g c = left-worked c.args.pass.now c.args.text.now c.replace.new.pass c.replace.new.s _ c.in-Err-OutOfMemory.ensures.left c.requires.heap
