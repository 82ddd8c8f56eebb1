use Rattle.std.proofs.Common.{sym, ap, ◌∙◌, length, min, arith}
use Rattle.std.specs.Ordering.{nat_cmp}
use Rattle.canon_order.specs.Codes.{in_a_word, wider}
use Rattle.canon_order.proofs.AsciiCodes.{shorter, size-ascii, next_block, words_grow}
use Rattle.canon_order.proofs.Comparing.{lengths_decide}
use Rattle.canon_order.proofs.ascii.compare_ascii.Goals as goal

pub compare_block-order-requires-clause-inside : goal.compare_block-order-requires-clause-inside
compare_block-order-requires-clause-inside g c =
    let shared = shorter _ _ (g.T.Text.part c.args.a.now).whole (g.T.Text.part c.args.b.now).whole _ _ _ (c.ascii-ascii.ensures.below c.requires.ascii) (c.ascii-other_ascii.ensures.below c.requires.other_ascii)
    c.count-count.ensures.value c.count-other.ensures.value c.min-shared.ensures in
    rw c.parts.invariant.same (omega (arith, shared, c.min-to.ensures))

pub compare_block-order-requires-clause-other_inside : goal.compare_block-order-requires-clause-other_inside
compare_block-order-requires-clause-other_inside g c =
    let shared = shorter _ _ (g.T.Text.part c.args.a.now).whole (g.T.Text.part c.args.b.now).whole _ _ _ (c.ascii-ascii.ensures.below c.requires.ascii) (c.ascii-other_ascii.ensures.below c.requires.other_ascii)
    c.count-count.ensures.value c.count-other.ensures.value c.min-shared.ensures in
    rw c.parts.invariant.other_same (omega (arith, shared, c.min-to.ensures))

pub returns-then-is_ne-clause-cost : goal.returns-then-is_ne-clause-cost
returns-then-is_ne-clause-cost g c =
    let e = (g.T.Text.part c.args.a.now).storage in
    let i = c.parts.invariant in
    let wide = wider e (g.T.Text.part c.args.b.now).storage in
    let shared = shorter _ _ (g.T.Text.part c.args.a.now).whole (g.T.Text.part c.args.b.now).whole _ _ _ (c.ascii-ascii.ensures.below c.requires.ascii) (c.ascii-other_ascii.ensures.below c.requires.other_ascii)
    c.count-count.ensures.value c.count-other.ensures.value c.min-shared.ensures in
    let size = c.in_a_word-size.ensures ∙ ap in_a_word (c.wider.ensures ∙ ap (λ x. wider x c.encoding-2.result) c.encoding.ensures ∙ ap (wider e) c.encoding-2.ensures) in
    let next = next_block wide c.parts.at c.min-shared.result c.min-to.result _ c.parts-test.true (i.aligned c.parts-test.true) size c.min-to.ensures in
    let whole = words_grow wide c.min-to.result (min (length (g.T.Text.part c.args.a.now).whole) (length (g.T.Text.part c.args.b.now).whole)) (omega (arith, next.within, shared)) in
    omega (arith, c.compare_block-order.ensures.cost, i.cost, next.cost, whole)

pub returns-clause-order : goal.returns-clause-order
returns-clause-order g c =
    let a = (g.T.Text.part c.args.a.now).whole in
    let b = (g.T.Text.part c.args.b.now).whole in
    let i = c.parts.invariant in
    let left = size-ascii _ a (c.ascii-ascii.ensures.below c.requires.ascii) in
    let right = size-ascii _ b (c.ascii-other_ascii.ensures.below c.requires.other_ascii) in
    let shared = shorter _ _ a b _ _ _ (c.ascii-ascii.ensures.below c.requires.ascii) (c.ascii-other_ascii.ensures.below c.requires.other_ascii)
    c.count-count.ensures.value c.count-other.ensures.value c.min-shared.ensures in
    c.cmp.ensures ∙ ap (λ n. nat_cmp n c.count-other.result) (c.count-count.ensures.value ∙ left) ∙ ap (nat_cmp (length a)) (c.count-other.ensures.value ∙ right)
    ∙ sym (i.order ∙ lengths_decide a b c.parts.at (omega (arith, i.within, c.parts-test.false, shared)))

pub returns-clause-cost : goal.returns-clause-cost
returns-clause-cost g c =
    let i = c.parts.invariant in
    let wide = wider (g.T.Text.part c.args.a.now).storage (g.T.Text.part c.args.b.now).storage in
    let shared = shorter _ _ (g.T.Text.part c.args.a.now).whole (g.T.Text.part c.args.b.now).whole _ _ _ (c.ascii-ascii.ensures.below c.requires.ascii) (c.ascii-other_ascii.ensures.below c.requires.other_ascii)
    c.count-count.ensures.value c.count-other.ensures.value c.min-shared.ensures in
    let whole = words_grow wide c.parts.at (min (length (g.T.Text.part c.args.a.now).whole) (length (g.T.Text.part c.args.b.now).whole)) (omega (arith, i.within, shared)) in
    omega (arith, i.cost, whole)
