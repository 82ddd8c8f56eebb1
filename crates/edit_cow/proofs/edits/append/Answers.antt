use Rattle.std.proofs.Common.{◌≡◌, sym, ap, subst, ◌∙◌, ◌⊎◌, length, OnOk, OnErr, IfErr, Ok, Err, arith}
use Rattle.text_spec.specs.Offsets.{start, down}
use Rattle.text_spec.specs.Views.{width_in}
use Rattle.text_spec.proofs.Walk.{down-end}
use Rattle.str_value.specs.Meaning.{storage_of, byte_place}
use Rattle.str_value.specs.Editing.{IsWritten}
use Rattle.text_spec.specs.Text.{utf8}
use Rattle.text_spec.proofs.Bytes.{length-utf8}
use Rattle.std.specs.Char.{len_utf8}
use Rattle.str_value.proofs.Between.{start-boundary}
use Rattle.edit_cow.specs.declared.error.EditError.TheVariants as refusal
use Rattle.edit_cow.specs.Edits.{rewritten_between, appended, IsLeft}
use Rattle.edit_cow.proofs.Outcomes.{at-end, ok-of}
use Rattle.edit_cow.proofs.edits.append.Goals as goal
use Rattle.edit_cow.proofs.edits.append.Goals.{After-rewrite}
use Rattle.edit_cow.proofs.edits.append.Given.{Over}

pub rewrite-requires-clause-low : goal.rewrite-requires-clause-low
rewrite-requires-clause-low g c =
    let now = c.args.s.now in
    start-boundary (storage_of now.row) now.text (length now.text) c.count-end.result (omega arith) c.count-end.ensures.value

pub rewrite-requires-clause-high : goal.rewrite-requires-clause-high
rewrite-requires-clause-high g c =
    let now = c.args.s.now in
    start-boundary (storage_of now.row) now.text (length now.text) c.count-end.result (omega arith) c.count-end.ensures.value

-- at the end of the text
behind : (g : Over) (c : After-rewrite g)
    → rewritten_between c.args.s.now c.count-end.result c.count-end.result c.args.with.now ≡ appended c.args.s.now.text c.args.with.now
behind g c =
    let now = c.args.s.now in
    let w = width_in (storage_of now.row) in
    at-end now.text c.args.with.now (down w now.text c.count-end.result) (down-end w now.text c.count-end.result (omega (arith, c.count-end.ensures.value)))

pub returns-clause-text : goal.returns-clause-text
returns-clause-text g c = subst (λ o. OnOk c.rewrite.result (o ≡ Ok c.rewrite.new.s.text)) (behind g c) c.rewrite.ensures.text

pub returns-clause-refused : goal.returns-clause-refused
returns-clause-refused g c =
    subst (λ o. IfErr c.rewrite.result (λ e. (e ≡ refusal.OutOfMemory) ⊎ (o ≡ Err e))) (behind g c) c.rewrite.ensures.refused

pub returns-clause-cause : goal.returns-clause-cause
returns-clause-cause g c e h = c.rewrite.ensures.cause e (behind g c ∙ h)

pub returns-clause-copied_is_free : goal.returns-clause-copied_is_free
returns-clause-copied_is_free g c none text h = c.rewrite.ensures.copied_is_free none text (behind g c ∙ h)

pub returns-clause-left : goal.returns-clause-left
returns-clause-left g c =
    subst (λ o. OnErr c.rewrite.result (IsLeft c.args.pass.now c.args.s.now o c.rewrite.new.pass c.rewrite.new.s)) (behind g c) c.rewrite.ensures.left

pub returns-clause-written : goal.returns-clause-written
returns-clause-written g c =
    let now = c.args.s.now in
    let end : byte_place now c.count-end.result ≡ length (utf8 now.text) =
    ap (start len_utf8 now.text) (down-end (width_in (storage_of now.row)) now.text c.count-end.result (omega (arith, c.count-end.ensures.value))) ∙ sym (length-utf8 now.text) in
    ok-of c.rewrite.result _ _ (λ w h. subst (λ n. IsWritten w c.args.pass.now now n (utf8 c.rewrite.new.s.text) c.rewrite.new.pass c.rewrite.new.s) end h) c.rewrite.ensures.written

pub returns-clause-no_longer_is_free : goal.returns-clause-no_longer_is_free
returns-clause-no_longer_is_free g c none text h = c.rewrite.ensures.no_longer_is_free none text (behind g c ∙ h)
