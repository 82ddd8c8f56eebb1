use Rattle.std.proofs.Common.{◌≡◌, sym, ap, subst, ◌∙◌, arith}
use Rattle.index_words.specs.Fields.{position_of, stride_of}
use Rattle.char_view.specs.Answers.{character_index, offset_at, IsTrueAt}
use Rattle.char_view.proofs.Parts.{text_of}
use Rattle.view_tests.proofs.char_view_tests.after_first.Goals as goal

pub after_true-requires-clause-holds : goal.after_true-requires-clause-holds
after_true-requires-clause-holds g c =
    let t = g.T.Text.part c.after.new.t in
    let text = text_of t.storage _ c.count-count.result t.whole t.first t.end c.count-count.ensures.value c.count-count.ensures.small c.count-count.ensures.denotes
    c.low-low.ensures.order c.high-high.ensures.inside in
    let is : c.start-start.result ≡ character_index t 0 =
    subst (λ t. c.start-start.result ≡ character_index (g.T.Text.part t) 0) (sym (c.after.ensures.kept ∙ c.start-start.ensures.kept)) c.start-start.ensures.value in
    subst (λ i. IsTrueAt t i (offset_at t (position_of i))) (sym is)
    (c.kept_strides_are_true.ensures t 0 text (λ none. omega (arith, c.if-stride-eq0.false, c.stride.ensures.value, ap stride_of is, none)))
