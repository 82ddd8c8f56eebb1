use Rattle.std.proofs.Common.{sym, ap, ◌∙◌, ◌*◌, ◌/◌, ◌%◌, ◌^◌, get_or, arith}
use Rattle.text_spec.specs.declared.encoding.Encoding.TheVariants.{Utf16}
use Rattle.text_spec.specs.Views.{size_in}
use Rattle.text_spec.proofs.Denoting.{units_of-at, units_of-past}
use Rattle.word_units.proofs.reading.raw_unit_or_zero.Goals as goal

pub returns-then-q-count-clause-value : goal.returns-then-q-count-clause-value
returns-then-q-count-clause-value g c =
    let size = c.count.ensures.value ∙ ap (λ e. size_in e (g.T.Text.part c.args.t.now).whole) c.requires.encoding in
    sym (units_of-past (g.T.Text.words c.args.t.now) (size_in Utf16 (g.T.Text.part c.args.t.now).whole) c.args.q (omega (arith, size, c.if-q-count.true)))

pub returns-then-q-p-clause-value : goal.returns-then-q-p-clause-value
returns-then-q-p-clause-value g c =
    let ws = g.T.Text.words c.args.t.now in
    let size = c.count.ensures.value ∙ ap (λ e. size_in e (g.T.Text.part c.args.t.now).whole) c.requires.encoding in
    c.unit_in.ensures
    ∙ ap (λ n. n / 2 ^ (16 * (c.args.q % 4)) % 65536) (c.requires.near ∙ ap (λ i. get_or ws i 0) (sym c.if-q-p.true))
    ∙ sym (units_of-at ws (size_in Utf16 (g.T.Text.part c.args.t.now).whole) c.args.q (omega (arith, size, c.if-q-count.false)))

pub returns-clause-value : goal.returns-clause-value
returns-clause-value g c =
    let size = c.count.ensures.value ∙ ap (λ e. size_in e (g.T.Text.part c.args.t.now).whole) c.requires.encoding in
    c.raw_unit_at.ensures.value
    ∙ sym (units_of-at (g.T.Text.words c.args.t.now) (size_in Utf16 (g.T.Text.part c.args.t.now).whole) c.args.q (omega (arith, size, c.if-q-count.false)))
