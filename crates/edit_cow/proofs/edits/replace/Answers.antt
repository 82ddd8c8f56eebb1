use Rattle.std.proofs.Common.{◌≡◌, ◌≢◌, refl, sym, ap, subst, ◌∙◌, ◌⊎◌, inr, ◌<◌, length, OnOk, OnErr, IfErr, Some, Ok, Err}
use Rattle.text_spec.specs.declared.encoding.Encoding.TheVariants.{Utf16}
use Rattle.text_spec.specs.Text.{utf8}
use Rattle.object_words.specs.Rows.{form_of}
use Rattle.object_words.specs.declared.form.Form.TheVariants as form
use Rattle.str_value.specs.Meaning.{Meaning, storage_of, own_part, byte_place}
use Rattle.str_value.specs.Editing.{IsWritten}
use Rattle.word_units.specs.Parts.{IsBoundaryIn, scalars_before}
use Rattle.rounding.specs.Refusals.{scalar_of}
use Rattle.edit_cow.specs.declared.error.EditError.TheVariants as refusal
use Rattle.edit_cow.specs.Edits.{rewritten_between, edited, IsLeft}
use Rattle.edit_cow.proofs.Outcomes.{reversed, ordered, left-refused, ok-of}
use Rattle.edit_cow.proofs.edits.replace.Goals as goal
use Rattle.edit_cow.proofs.edits.replace.Goals.{Then-to-from, After-rewrite}
use Rattle.edit_cow.proofs.edits.replace.Given.{Over}

-- the first boundary is behind the second
wrong : (g : Over) (c : Then-to-from g) → edited c.args.s.now c.args.a c.args.b c.args.with.now ≡ Err (refusal.Reversed c.args.a c.args.b)
wrong g c =
    let now = c.args.s.now in
    let same = c.in_ok-from.ensures.kept in
    reversed now c.args.a c.args.b c.args.with.now c.in_ok-from.from c.in_ok-to.to c.in_ok-from.ensures.number
    (subst (λ m. scalar_of (own_part m) c.args.b ≡ Some (scalars_before (own_part m) c.in_ok-to.to)) same c.in_ok-to.ensures.number)
    c.in_ok-from.ensures.boundary
    (subst (λ m. IsBoundaryIn (own_part m) c.in_ok-to.to) same c.in_ok-to.ensures.boundary) c.if-to-from.true

pub returns-then-to-from-clause-refused : goal.returns-then-to-from-clause-refused
returns-then-to-from-clause-refused g c = inr (wrong g c)

pub returns-then-to-from-clause-cause : goal.returns-then-to-from-clause-cause
returns-then-to-from-clause-cause g c e h = let is = wrong g c in cc (is, h)

-- it isn't
right : (g : Over) (c : After-rewrite g)
    → rewritten_between c.scalar_boundary-2.new.t c.in_ok-from.from c.in_ok-to.to c.args.with.now ≡ edited c.args.s.now c.args.a c.args.b c.args.with.now
right g c =
    let now = c.args.s.now in
    let same = c.in_ok-from.ensures.kept in
    ap (λ m. rewritten_between m c.in_ok-from.from c.in_ok-to.to c.args.with.now) (c.in_ok-to.ensures.kept ∙ same)
    ∙ sym (ordered now c.args.a c.args.b c.args.with.now c.in_ok-from.from c.in_ok-to.to c.in_ok-from.ensures.number
    (subst (λ m. scalar_of (own_part m) c.args.b ≡ Some (scalars_before (own_part m) c.in_ok-to.to)) same c.in_ok-to.ensures.number) c.if-to-from.false)

pub returns-clause-text : goal.returns-clause-text
returns-clause-text g c = subst (λ o. OnOk c.rewrite.result (o ≡ Ok c.rewrite.new.s.text)) (right g c) c.rewrite.ensures.text

pub returns-clause-refused : goal.returns-clause-refused
returns-clause-refused g c =
    subst (λ o. IfErr c.rewrite.result (λ e. (e ≡ refusal.OutOfMemory) ⊎ (o ≡ Err e))) (right g c) c.rewrite.ensures.refused

pub returns-clause-cause : goal.returns-clause-cause
returns-clause-cause g c e h = c.rewrite.ensures.cause e (right g c ∙ h)

pub returns-clause-copied_is_free : goal.returns-clause-copied_is_free
returns-clause-copied_is_free g c none text h = c.rewrite.ensures.copied_is_free none text (right g c ∙ h)

pub returns-then-to-from-clause-left : goal.returns-then-to-from-clause-left
returns-then-to-from-clause-left g c = left-refused _ _ _ _ _ _ (wrong g c) (c.in_ok-to.ensures.kept ∙ c.in_ok-from.ensures.kept) refl

pub returns-clause-left : goal.returns-clause-left
returns-clause-left g c =
    let now = c.args.s.now in
    subst (λ o. OnErr c.rewrite.result (IsLeft c.args.pass.now now o c.rewrite.new.pass c.rewrite.new.s)) (right g c)
    (subst (λ (m : Meaning). OnErr c.rewrite.result (IsLeft c.args.pass.now m (rewritten_between c.scalar_boundary-2.new.t c.in_ok-from.from c.in_ok-to.to c.args.with.now) c.rewrite.new.pass c.rewrite.new.s))
    (c.in_ok-to.ensures.kept ∙ c.in_ok-from.ensures.kept) c.rewrite.ensures.left)

pub returns-clause-written : goal.returns-clause-written
returns-clause-written g c =
    let now = c.args.s.now in
    ok-of c.rewrite.result _ _
    (λ w h. (
      scalars_before (own_part now) c.in_ok-from.from,
      c.in_ok-from.ensures.number,
      subst (λ (m : Meaning). IsWritten w c.args.pass.now m (byte_place m c.in_ok-from.from) (utf8 c.rewrite.new.s.text) c.rewrite.new.pass c.rewrite.new.s)
          (c.in_ok-to.ensures.kept ∙ c.in_ok-from.ensures.kept) h,
    ))
    c.rewrite.ensures.written

pub returns-clause-no_longer_is_free : goal.returns-clause-no_longer_is_free
returns-clause-no_longer_is_free g c none text h =
    subst (λ m. (storage_of m.row ≡ Utf16) ⊎ (form_of m.row ≢ form.Owned) ⊎ (length (utf8 m.text) < length (utf8 text))) (c.in_ok-to.ensures.kept ∙ c.in_ok-from.ensures.kept)
    (c.rewrite.ensures.no_longer_is_free none text (right g c ∙ h))
