use Rattle.std.proofs.Common.{◌≡◌, refl, sym, ap, ◌∙◌, ℕ, ◌+◌, ◌-◌, ◌<◌, ◌≤◌, get_or, drop, arith}
use Rattle.std.specs.Cmp.Lexicographic.{slice_cmp}
use Rattle.std.specs.Ordering.{nat_cmp}
use Rattle.canon_order.specs.Codes.{code_in}
use Rattle.canon_order.proofs.Comparing.{passes_places}
use Rattle.canon_order.proofs.ascii.compare_words.Goals as goal

-- the same words hold the same scalars
pub returns-then-same_words : goal.returns-then-same_words
returns-then-same_words c = λ a b held other.
    let from = c.args.from in
    let same = c.if-same_words.ensures refl in
    let long : from + (c.args.to - from) ≡ c.args.to = omega (arith, c.requires) in
    let codes : (p : ℕ) → from ≤ p → p < from + (c.args.to - from) → get_or a p 0 ≡ get_or b p 0 = λ p above before.
    held.codes p above (omega (arith, long)) ∙ ap (λ e. code_in e c.args.left p) same.0 ∙ ap (λ w. code_in c.args.encodings.1 w p) same.1 ∙ sym (other.codes p above (omega (arith, long))) in
    passes_places a b from (c.args.to - from) (omega (arith, long, held.inside)) (omega (arith, long, other.inside)) codes
    ∙ ap (λ p. slice_cmp nat_cmp (drop p a) (drop p b)) long
