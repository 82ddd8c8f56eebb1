use Rattle.std.proofs.Common.{◌≡◌, ap, ◌∙◌, ◌*◌, ◌/◌, ◌%◌, ◌^◌, get_or}
use Rattle.text_spec.specs.Offsets.{len_utf16, down}
use Rattle.word_units.proofs.Telling.{told16}
use Rattle.word_units.proofs.scalar.code16_beside.Goals as goal

told : (g : _) (c : goal.After-code_of_units g) → let b = (g.T.Text.part c.args.t.now).whole in
    (c.code_of_units.result.0 ≡ get_or b (down len_utf16 b c.args.p) 0) × (c.code_of_units.result.1 ≡ len_utf16 (get_or b (down len_utf16 b c.args.p) 0))
told g c =
    let ws = g.T.Text.words c.args.t.now in
    let p = c.args.p in
    let unit = c.unit_in-unit.ensures ∙ ap (λ n. n / 2 ^ (16 * (p % 4)) % 65536) c.requires.here in
    told16 _ ws _ (g.T.Text.part c.args.t.now).whole p _ _ _ _ c.requires.encoding c.count-count.ensures.value c.count-count.ensures.denotes c.requires.inside c.requires.boundary unit
    (λ low high. c.other_half-beside.ensures.next low high)
    (c.code_of_units.ensures.pair, c.code_of_units.ensures.alone)

pub returns-clause-code : goal.returns-clause-code
returns-clause-code g c = (told g c).0

pub returns-clause-width : goal.returns-clause-width
returns-clause-width g c = (told g c).1
