use Rattle.std.proofs.Common.{sym, ap, ◌∙◌, arith}
use Rattle.std.specs.Cmp.Lexicographic.{bytes_decides}
use Rattle.text_spec.specs.Text.{utf8}
use Rattle.unicode_normalization.specs.Forms.{nfc}
use Rattle.canon_order.proofs.AsciiCodes.{nfc-ascii, shared_words}
use Rattle.canon_order.proofs.Encoded.{same_texts}
use Rattle.canon_order.proofs.order.equal.Goals as goal

-- ASCII texts are their own forms
pub returns-then-ascii-2-clause-answer : goal.returns-then-ascii-2-clause-answer
returns-then-ascii-2-clause-answer g c =
    let left = nfc-ascii c.args.a.now.text (c.ascii.ensures.below (sym c.ascii.ensures.value ∙ c.if-ascii.true)) in
    let right = nfc-ascii c.args.b.now.text (c.ascii-then-ascii.ensures.below (sym c.ascii-then-ascii.ensures.value ∙ c.if-ascii-2.true)) in
    let same = c.equal_ascii.ensures.answer in (λ h. left ∙ same.0 h ∙ sym right, λ h. same.1 (sym left ∙ h ∙ right))

-- one key is one form's
pub returns-clause-answer : goal.returns-clause-answer
returns-clause-answer g c =
    let left = c.as_slice.ensures.value ∙ c.in_ok-left.ensures.answer in
    let right = c.as_slice-2.ensures.value ∙ c.in_ok-right.ensures.answer in
    let same = bytes_decides c.as_slice.result.now c.as_slice-2.result.now in (
      λ h. same_texts (nfc c.args.a.now.text) (nfc c.args.b.now.text) (sym left ∙ same.0 (sym c.eq.ensures ∙ h) ∙ right),
      λ h. c.eq.ensures ∙ same.1 (left ∙ ap utf8 h ∙ sym right),
    )

pub returns-then-ascii-2-clause-byte_cost : goal.returns-then-ascii-2-clause-byte_cost
returns-then-ascii-2-clause-byte_cost g c = λ is8 other8.
    let below = c.ascii.ensures.below (sym c.ascii.ensures.value ∙ c.if-ascii.true) in
    let other = c.ascii-then-ascii.ensures.below (sym c.ascii-then-ascii.ensures.value ∙ c.if-ascii-2.true) in
    omega (arith, c.equal_ascii.ensures.cost, shared_words _ _ c.args.a.now.text c.args.b.now.text below other is8 other8)
