use Rattle.std.proofs.Common.{◌≡◌, ◌≢◌, refl, sym, ap, subst, ◌∙◌, ◌⊎◌, inl, inr, ⊎_elim, ◌<◌, length, chars, OnErr, IfErr, Ok, Err, rules}
use Rattle.text_spec.specs.Editing.{replaced}
use Rattle.text_spec.specs.declared.encoding.Encoding.TheVariants.{Utf8, Utf16}
use Rattle.text_spec.specs.Offsets.{down}
use Rattle.text_spec.specs.Text.{utf8}
use Rattle.text_spec.specs.Views.{width_in}
use Rattle.object_words.specs.Rows.{form_of}
use Rattle.object_words.specs.declared.form.Form.TheVariants as form
use Rattle.str_value.specs.Meaning.{storage_of, byte_place}
use Rattle.str_value.specs.Editing.{IsWritten}
use Rattle.edit_cow.specs.declared.error.EditError.TheVariants as refusal
use Rattle.edit_cow.specs.Edits.{rewritten_between, refusal_of, IsLeft}
use Rattle.str_value.specs.Making.{HasRoom}
use Rattle.edit_cow.proofs.Outcomes.{valid, invalid, made-text, made-refused, made-cause, limit-text, no-memory, left-refused, made-left}
use Rattle.edit_cow.proofs.edits.rewrite.Goals as goal

pub returns-in-Err-clause-refused : goal.returns-in-Err-clause-refused
returns-in-Err-clause-refused g c =
    let is =
    invalid c.args.s.now.text c.args.with.now (down (width_in (storage_of c.args.s.now.row)) c.args.s.now.text c.args.low)
    (down (width_in (storage_of c.args.s.now.row)) c.args.s.now.text c.args.high) c.valid_up_to.result c.in-Err.ensures.cases.0
    (c.valid_up_to.ensures ∙ c.in-Err.ensures.valid_len) in
    inr is

pub returns-in-Err-clause-cause : goal.returns-in-Err-clause-cause
returns-in-Err-clause-cause g c e h =
    let is =
    invalid c.args.s.now.text c.args.with.now (down (width_in (storage_of c.args.s.now.row)) c.args.s.now.text c.args.low)
    (down (width_in (storage_of c.args.s.now.row)) c.args.s.now.text c.args.high) c.valid_up_to.result c.in-Err.ensures.cases.0
    (c.valid_up_to.ensures ∙ c.in-Err.ensures.valid_len) in
    cc (is, h)

pub returns-in_err-splice-clause-refused : goal.returns-in_err-splice-clause-refused
returns-in_err-splice-clause-refused g c =
    let m = c.in_err-splice.field-0.0 in
    let gone : c.from_residual.result ≡ Err (refusal_of m) = search rules in
    let text = replaced c.args.s.now.text (down (width_in (storage_of c.args.s.now.row)) c.args.s.now.text c.args.low) (down (width_in (storage_of c.args.s.now.row)) c.args.s.now.text c.args.high) (chars c.in-Ok.text.now) in
    let is = valid c.args.s.now.text c.args.with.now c.in-Ok.text.now _ _ c.in-Ok.ensures.cases.0 c.in-Ok.ensures.cases.1 in
    subst (λ r. IfErr r (λ e. (e ≡ refusal.OutOfMemory) ⊎ (rewritten_between c.args.s.now c.args.low c.args.high c.args.with.now ≡ Err e))) (sym gone)
    (⊎_elim (λ l. inl l) (λ l. inr (is ∙ l)) (made-refused m text c.in_err-splice.ensures.too_long c.in_err-splice.ensures.not_utf8))

pub returns-in_err-splice-clause-cause : goal.returns-in_err-splice-clause-cause
returns-in_err-splice-clause-cause g c e h =
    let m = c.in_err-splice.field-0.0 in
    let gone : c.from_residual.result ≡ Err (refusal_of m) = search rules in
    let text = replaced c.args.s.now.text (down (width_in (storage_of c.args.s.now.row)) c.args.s.now.text c.args.low) (down (width_in (storage_of c.args.s.now.row)) c.args.s.now.text c.args.high) (chars c.in-Ok.text.now) in
    let is = valid c.args.s.now.text c.args.with.now c.in-Ok.text.now _ _ c.in-Ok.ensures.cases.0 c.in-Ok.ensures.cases.1 in
    gone ∙ ap Err (made-cause m text c.in_err-splice.ensures.too_long e (sym is ∙ h))

pub returns-clause-text : goal.returns-clause-text
returns-clause-text g c =
    let text = replaced c.args.s.now.text (down (width_in (storage_of c.args.s.now.row)) c.args.s.now.text c.args.low) (down (width_in (storage_of c.args.s.now.row)) c.args.s.now.text c.args.high) (chars c.in-Ok.text.now) in
    let is = valid c.args.s.now.text c.args.with.now c.in-Ok.text.now _ _ c.in-Ok.ensures.cases.0 c.in-Ok.ensures.cases.1 in
    is ∙ made-text text c.in_ok-splice.field-0 c.in_ok-splice.ensures.too_long ∙ ap Ok (sym c.in_ok-splice.ensures.text)

pub returns-clause-cause : goal.returns-clause-cause
returns-clause-cause g c e h =
    let text = replaced c.args.s.now.text (down (width_in (storage_of c.args.s.now.row)) c.args.s.now.text c.args.low) (down (width_in (storage_of c.args.s.now.row)) c.args.s.now.text c.args.high) (chars c.in-Ok.text.now) in
    let is = valid c.args.s.now.text c.args.with.now c.in-Ok.text.now _ _ c.in-Ok.ensures.cases.0 c.in-Ok.ensures.cases.1 in
    let made = is ∙ made-text text c.in_ok-splice.field-0 c.in_ok-splice.ensures.too_long in
    cc (made, h)

pub returns-in_err-splice-clause-no_longer_is_free : goal.returns-in_err-splice-clause-no_longer_is_free
returns-in_err-splice-clause-no_longer_is_free g c none new h =
    let m = c.in_err-splice.field-0.0 in
    let gone : c.from_residual.result ≡ Err (refusal_of m) = search rules in
    let wanting : refusal_of m ≡ refusal.OutOfMemory = cc (gone, none) in
    let text = replaced c.args.s.now.text (down (width_in (storage_of c.args.s.now.row)) c.args.s.now.text c.args.low) (down (width_in (storage_of c.args.s.now.row)) c.args.s.now.text c.args.high) (chars c.in-Ok.text.now) in
    let is = valid c.args.s.now.text c.args.with.now c.in-Ok.text.now _ _ c.in-Ok.ensures.cases.0 c.in-Ok.ensures.cases.1 in
    subst (λ t. (storage_of c.args.s.now.row ≡ Utf16) ⊎ (form_of c.args.s.now.row ≢ form.Owned) ⊎ (length (utf8 c.args.s.now.text) < length (utf8 t))) (sym (limit-text text new (sym is ∙ h)))
    (c.in_err-splice.ensures.no_longer_is_free (ap Err (no-memory m wanting)))

pub returns-in-Err-clause-left : goal.returns-in-Err-clause-left
returns-in-Err-clause-left g c =
    let is =
    invalid c.args.s.now.text c.args.with.now (down (width_in (storage_of c.args.s.now.row)) c.args.s.now.text c.args.low)
    (down (width_in (storage_of c.args.s.now.row)) c.args.s.now.text c.args.high) c.valid_up_to.result c.in-Err.ensures.cases.0
    (c.valid_up_to.ensures ∙ c.in-Err.ensures.valid_len) in
    left-refused _ _ _ _ _ _ is refl refl

pub returns-in_err-splice-clause-copied_is_free : goal.returns-in_err-splice-clause-copied_is_free
returns-in_err-splice-clause-copied_is_free g c none new h =
    let m = c.in_err-splice.field-0.0 in
    let gone : c.from_residual.result ≡ Err (refusal_of m) = search rules in
    let wanting : refusal_of m ≡ refusal.OutOfMemory = cc (gone, none) in
    let text = replaced c.args.s.now.text (down (width_in (storage_of c.args.s.now.row)) c.args.s.now.text c.args.low) (down (width_in (storage_of c.args.s.now.row)) c.args.s.now.text c.args.high) (chars c.in-Ok.text.now) in
    let is = valid c.args.s.now.text c.args.with.now c.in-Ok.text.now _ _ c.in-Ok.ensures.cases.0 c.in-Ok.ensures.cases.1 in
    subst (λ t. (15 < length (utf8 t)) × ¬ (HasRoom c.args.pass.now Utf8 (length (utf8 t)))) (sym (limit-text text new (sym is ∙ h)))
    (c.in_err-splice.ensures.copied_is_free (ap Err (no-memory m wanting)))

pub returns-in_err-splice-clause-left : goal.returns-in_err-splice-clause-left
returns-in_err-splice-clause-left g c =
    let m = c.in_err-splice.field-0.0 in
    let gone : c.from_residual.result ≡ Err (refusal_of m) = search rules in
    let text = replaced c.args.s.now.text (down (width_in (storage_of c.args.s.now.row)) c.args.s.now.text c.args.low) (down (width_in (storage_of c.args.s.now.row)) c.args.s.now.text c.args.high) (chars c.in-Ok.text.now) in
    let is = valid c.args.s.now.text c.args.with.now c.in-Ok.text.now _ _ c.in-Ok.ensures.cases.0 c.in-Ok.ensures.cases.1 in
    subst (λ r. OnErr r (IsLeft c.args.pass.now c.args.s.now (rewritten_between c.args.s.now c.args.low c.args.high c.args.with.now) c.splice.new.pass c.splice.new.self)) (sym gone)
    (made-left c.args.pass.now c.args.s.now c.splice.new.pass c.splice.new.self m text _ is c.in_err-splice.ensures.too_long c.in_err-splice.ensures.not_utf8 c.in_err-splice.ensures.kept c.in_err-splice.ensures.unwritten)

pub returns-clause-written : goal.returns-clause-written
returns-clause-written g c =
    subst (λ t. IsWritten c.in_ok-splice.field-0 c.args.pass.now c.args.s.now (byte_place c.args.s.now c.args.low) (utf8 t) c.splice.new.pass c.splice.new.self) (sym c.in_ok-splice.ensures.text)
    c.in_ok-splice.ensures.written
