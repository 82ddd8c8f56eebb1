use Rattle.std.proofs.Common.{sym, ap, ◌∙◌, length}
use Rattle.std.proofs.lemmas.Bool.{false≢true}
use Rattle.std.proofs.lemmas.Map.Text.{is_eq-slice_cmp}
use Rattle.std.specs.Cmp.Lexicographic.{bytes_decides}
use Rattle.std.specs.Ordering.{is_eq}
use Rattle.canon_order.proofs.AsciiCodes.{size-ascii}
use Rattle.canon_order.proofs.ascii.equal_ascii.Goals as goal

-- the same text would have one length
pub returns-then-count-clause-answer : goal.returns-then-count-clause-answer
returns-then-count-clause-answer g c =
    let left = size-ascii _ (g.T.Text.part c.args.a.now).whole (c.ascii-ascii.ensures.below c.requires.ascii) in
    let right = size-ascii _ (g.T.Text.part c.args.b.now).whole (c.ascii-other_ascii.ensures.below c.requires.other_ascii) in (
      λ h. absurd (false≢true h),
      λ same. absurd (c.if-count.true (c.count.ensures.value ∙ left ∙ ap length same ∙ sym (c.count-2.ensures.value ∙ right))),
    )

pub returns-clause-answer : goal.returns-clause-answer
returns-clause-answer g c =
    let a = (g.T.Text.part c.args.a.now).whole in
    let b = (g.T.Text.part c.args.b.now).whole in
    let tested = c.is_eq.ensures ∙ ap is_eq c.compare_ascii.ensures.order ∙ is_eq-slice_cmp a b in
    let same = bytes_decides a b in (λ h. same.0 (sym tested ∙ h), λ h. tested ∙ same.1 h)

pub returns-clause-unread : goal.returns-clause-unread
returns-clause-unread g c = λ apart.
    let left = size-ascii _ (g.T.Text.part c.args.a.now).whole (c.ascii-ascii.ensures.below c.requires.ascii) in
    let right = size-ascii _ (g.T.Text.part c.args.b.now).whole (c.ascii-other_ascii.ensures.below c.requires.other_ascii) in
    absurd (apart (sym (c.count.ensures.value ∙ left) ∙ c.if-count.false ∙ c.count-2.ensures.value ∙ right))
