use Rattle.std.proofs.Common.{ap, ◌∙◌, ◌-◌, ◌*◌, ◌/◌, ◌%◌, ◌^◌, get_or}
use Rattle.std.proofs.lemmas.Bool.{iff_false}
use Rattle.text_spec.specs.declared.encoding.Encoding.TheVariants.{Utf16}
use Rattle.text_spec.specs.Packed.{units_of}
use Rattle.text_spec.specs.Views.{size_in}
use Rattle.word_units.proofs.Backing.{backs16}
use Rattle.word_units.proofs.floor.floor16.Goals as goal

pub returns-then-is_pair-clause-value : goal.returns-then-is_pair-clause-value
returns-then-is_pair-clause-value g c =
    let ws = g.T.Text.words c.args.t.now in
    let p = c.args.p in
    let unit = c.unit_in-unit.ensures ∙ ap (λ n. n / 2 ^ (16 * (p % 4)) % 65536) c.word-word.ensures.value in
    let half = c.other_half-beside.ensures in
    let told = backs16 _ ws _ (g.T.Text.part c.args.t.now).whole p _ _ c.requires.encoding c.count-count.ensures.value c.count-count.ensures.denotes c.requires.inside unit
    (λ low high some. half.before low high some ∙ ap (λ v. get_or (units_of (g.T.Text.words v) (size_in Utf16 (g.T.Text.part v).whole)) (p - 1) 0) c.word-word.ensures.kept)
    half.none in
    (told.0 (c.is_pair.ensures.0 c.if-is_pair.true)).1

pub returns-else-is_pair-clause-value : goal.returns-else-is_pair-clause-value
returns-else-is_pair-clause-value g c =
    let ws = g.T.Text.words c.args.t.now in
    let p = c.args.p in
    let unit = c.unit_in-unit.ensures ∙ ap (λ n. n / 2 ^ (16 * (p % 4)) % 65536) c.word-word.ensures.value in
    let half = c.other_half-beside.ensures in
    let told = backs16 _ ws _ (g.T.Text.part c.args.t.now).whole p _ _ c.requires.encoding c.count-count.ensures.value c.count-count.ensures.denotes c.requires.inside unit
    (λ low high some. half.before low high some ∙ ap (λ v. get_or (units_of (g.T.Text.words v) (size_in Utf16 (g.T.Text.part v).whole)) (p - 1) 0) c.word-word.ensures.kept)
    half.none in
    told.1 (iff_false c.is_pair.ensures c.if-is_pair.false)
