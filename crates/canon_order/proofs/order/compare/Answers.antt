use Rattle.std.proofs.Common.{sym, ap, ◌∙◌, arith}
use Rattle.std.specs.Cmp.Lexicographic.{slice_cmp}
use Rattle.std.specs.Ordering.{nat_cmp}
use Rattle.text_spec.specs.Text.{utf8}
use Rattle.unicode_normalization.specs.Forms.{nfc}
use Rattle.canon_order.proofs.AsciiCodes.{nfc-ascii, shared_words}
use Rattle.canon_order.proofs.Encoded.{utf8_compares}
use Rattle.canon_order.proofs.order.compare.Goals as goal

-- ASCII texts are their own forms
pub returns-then-ascii-2-clause-answer : goal.returns-then-ascii-2-clause-answer
returns-then-ascii-2-clause-answer g c =
    let a = c.args.a.now.text in
    let b = c.args.b.now.text in
    let left = nfc-ascii a (c.ascii.ensures.below (sym c.ascii.ensures.value ∙ c.if-ascii.true)) in
    let right = nfc-ascii b (c.ascii-then-ascii.ensures.below (sym c.ascii-then-ascii.ensures.value ∙ c.if-ascii-2.true)) in
    c.compare_ascii.ensures.order ∙ ap (λ t. slice_cmp nat_cmp t b) (sym left) ∙ ap (slice_cmp nat_cmp (nfc a)) (sym right)

-- the keys compare as the texts do
pub returns-clause-answer : goal.returns-clause-answer
returns-clause-answer g c =
    let left = c.as_slice.ensures.value ∙ c.in_ok-left.ensures.answer in
    let right = c.as_slice-2.ensures.value ∙ c.in_ok-right.ensures.answer in
    c.cmp.ensures ∙ ap (λ l. slice_cmp nat_cmp l c.as_slice-2.result.now) left ∙ ap (slice_cmp nat_cmp (utf8 (nfc c.args.a.now.text))) right
    ∙ utf8_compares (nfc c.args.a.now.text) (nfc c.args.b.now.text)

pub returns-then-ascii-2-clause-byte_cost : goal.returns-then-ascii-2-clause-byte_cost
returns-then-ascii-2-clause-byte_cost g c = λ is8 other8.
    let below = c.ascii.ensures.below (sym c.ascii.ensures.value ∙ c.if-ascii.true) in
    let other = c.ascii-then-ascii.ensures.below (sym c.ascii-then-ascii.ensures.value ∙ c.if-ascii-2.true) in
    omega (arith, c.compare_ascii.ensures.cost, shared_words _ _ c.args.a.now.text c.args.b.now.text below other is8 other8)
