use Rattle.std.proofs.Common.{◌∙◌, ap, refl, get_or}
use Rattle.text_spec.specs.Offsets.{len_utf16, down}
use Rattle.word_units.proofs.Running.{plain_run, code_run}
use Rattle.word_units.proofs.run.pass_units.Goals as goal

pub returns-then-has_no_half-clause-passes : goal.returns-then-has_no_half-clause-passes
returns-then-has_no_half-clause-passes g c =
    let plain = c.has_no_half.ensures in
    let yes = c.if-has_no_half.true in
    let sum = c.bytes_of_units.ensures in
    plain_run _ (g.T.Text.words c.args.t.now) _ (g.T.Text.part c.args.t.now).whole _ _ c.requires.encoding c.count-count.ensures.value c.count-count.ensures.denotes
    c.args.at c.args.most c.word-word.result c.bytes_of_units.result c.requires.fits c.if-most-ge-WORD_BYTES.true c.if-at-eq0.true c.word-word.ensures.value c.requires.boundary
    (plain.first yes) (plain.second yes) (plain.third yes) (plain.fourth yes) sum.value sum.some sum.most

pub returns-clause-passes : goal.returns-clause-passes
returns-clause-passes g c =
    let read = c.code16_beside-code.ensures in
    let kept = c.word-word.ensures.kept in
    code_run _ (g.T.Text.words c.args.t.now) _ (g.T.Text.part c.args.t.now).whole _ _ c.requires.encoding c.count-count.ensures.value c.count-count.ensures.denotes
    c.args.at c.args.most _ c.code16_beside-code.result.0 c.code16_beside-code.result.1 c.bytes_of_code.result c.requires.inside c.requires.boundary
    (read.code ∙ ap (λ t. get_or (g.T.Text.part t).whole (down len_utf16 (g.T.Text.part t).whole c.args.at) 0) kept)
    (read.width ∙ ap (λ t. len_utf16 (get_or (g.T.Text.part t).whole (down len_utf16 (g.T.Text.part t).whole c.args.at) 0)) kept)
    c.bytes_of_code.ensures.value refl
