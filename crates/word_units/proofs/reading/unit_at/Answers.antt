use Rattle.std.proofs.Common.{◌≡◌, sym, ap, ◌∙◌, ◌+◌, ◌-◌, ◌*◌, ◌/◌, ◌%◌, ◌^◌, get_or, arith}
use Rattle.text_spec.specs.declared.encoding.Encoding.TheVariants.{Utf16}
use Rattle.text_spec.specs.Packed.{units_of}
use Rattle.text_spec.specs.Text.{utf16}
use Rattle.text_spec.specs.Views.{size_in}
use Rattle.text_spec.proofs.Denoting.{denoted_as, utf16_words}
use Rattle.text_spec.proofs.Units.{unit_read_as}
use Rattle.word_units.proofs.reading.unit_at.Goals as goal

pub returns-clause-value : goal.returns-clause-value
returns-clause-value g c =
    let b = (g.T.Text.part c.args.t.now).whole in
    let ws = g.T.Text.words c.args.t.now in
    let p = c.args.p in
    let us = units_of ws (size_in Utf16 b) in
    let w = utf16_words ws (size_in Utf16 b) b (denoted_as _ Utf16 ws _ b c.requires.encoding c.count-count.ensures.value c.count-count.ensures.denotes) in
    let unit : c.unit_in-unit.result ≡ get_or us p 0 = c.unit_in-unit.ensures ∙ ap (λ n. n / 2 ^ (16 * (p % 4)) % 65536) c.word-word.ensures.value ∙ sym (w.unit p c.requires.inside) in
    let half = c.other_half-beside.ensures in
    let same = c.word-word.ensures.kept in
    let read = c.repaired_unit.ensures in
    unit_read_as us w.fits p (omega (arith, w.count, c.requires.inside)) _ _ _ unit
    (λ low high. half.next low high ∙ ap (λ v. get_or (units_of (g.T.Text.words v) (size_in Utf16 (g.T.Text.part v).whole)) (p + 1) 0) same)
    (λ low high some. half.before low high some ∙ ap (λ v. get_or (units_of (g.T.Text.words v) (size_in Utf16 (g.T.Text.part v).whole)) (p - 1) 0) same)
    half.none read.first read.second read.alone
    ∙ ap (λ t. get_or (utf16 t) p 0) w.text
