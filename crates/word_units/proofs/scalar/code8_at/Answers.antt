use Rattle.std.proofs.Common.{◌≡◌, sym, ap, subst, ◌∙◌, ◌+◌, ◌-◌, ◌*◌, ◌/◌, ◌%◌, ◌^◌, get_or, arith}
use Rattle.std.specs.Char.{IsScalar}
use Rattle.word_units.proofs.Telling.{told8, width-is, code-is, behind}
use Rattle.word_units.proofs.scalar.code8_at.Goals as goal

pub byte_word_behind-far-requires-clause-inside : goal.byte_word_behind-far-requires-clause-inside
byte_word_behind-far-requires-clause-inside g c =
    let ws = g.T.Text.words c.args.t.now in
    let b = (g.T.Text.part c.args.t.now).whole in
    let s = told8 _ ws _ b c.args.p c.requires.encoding c.count-count.ensures.value c.count-count.ensures.denotes c.requires.inside c.requires.boundary in
    let w = c.width_of_lead-width.ensures in
    let lead = c.byte_in-lead.ensures ∙ ap (λ n. n / 2 ^ (8 * (c.args.p % 8)) % 256) c.word-near.ensures.value in
    let width = width-is ws c.args.p _ _ s.stands lead _ w.one w.two w.three w.four in
    rw (c.word-near.ensures.kept, c.requires.encoding) (omega (arith, s.fits, s.some, width))

pub returns-clause-width : goal.returns-clause-width
returns-clause-width g c =
    let ws = g.T.Text.words c.args.t.now in
    let b = (g.T.Text.part c.args.t.now).whole in
    let s = told8 _ ws _ b c.args.p c.requires.encoding c.count-count.ensures.value c.count-count.ensures.denotes c.requires.inside c.requires.boundary in
    let w = c.width_of_lead-width.ensures in
    let lead = c.byte_in-lead.ensures ∙ ap (λ n. n / 2 ^ (8 * (c.args.p % 8)) % 256) c.word-near.ensures.value in
    width-is ws c.args.p _ _ s.stands lead _ w.one w.two w.three w.four

pub returns-clause-code : goal.returns-clause-code
returns-clause-code g c =
    let ws = g.T.Text.words c.args.t.now in
    let b = (g.T.Text.part c.args.t.now).whole in
    let p = c.args.p in
    let s = told8 _ ws _ b p c.requires.encoding c.count-count.ensures.value c.count-count.ensures.denotes c.requires.inside c.requires.boundary in
    let w = c.width_of_lead-width.ensures in
    let near = c.word-near.ensures.value in
    let lead = c.byte_in-lead.ensures ∙ ap (λ n. n / 2 ^ (8 * (p % 8)) % 256) near in
    let width = width-is ws p _ _ s.stands lead _ w.one w.two w.three w.four in
    let far : c.byte_word_behind-far.result ≡ get_or ws ((p + c.width_of_lead-width.result - 1) / 8) 0 =
    c.byte_word_behind-far.ensures.value ∙ ap (λ v. get_or (g.T.Text.words v) ((p + c.width_of_lead-width.result - 1) / 8) 0) c.word-near.ensures.kept in
    let code = c.code_of_bytes.ensures in
    code-is ws p _ _ s.stands lead _ _ _ _
    (λ h. c.byte_of_two-second.ensures ws near (behind ws p 1 _ _ (omega arith) (omega (arith, s.few, width)) far))
    (λ h. c.byte_of_two-third.ensures ws near (behind ws p 2 _ _ (omega arith) (omega (arith, s.few, width)) far))
    (λ h. c.byte_of_two-fourth.ensures ws near (behind ws p 3 _ _ (omega arith) (omega (arith, s.few, width)) far))
    code.one code.two code.three code.four

pub returns-clause-scalar : goal.returns-clause-scalar
returns-clause-scalar g c =
    let ws = g.T.Text.words c.args.t.now in
    let b = (g.T.Text.part c.args.t.now).whole in
    let s = told8 _ ws _ b c.args.p c.requires.encoding c.count-count.ensures.value c.count-count.ensures.denotes c.requires.inside c.requires.boundary in
    subst IsScalar (sym (returns-clause-code g c)) s.stands.scalar
