use Rattle.std.proofs.Common.{sym, ap, subst, ◌∙◌, ◌≤◌, chars, IsUtf8, arith}
use Rattle.object_words.specs.Rows.{small}
use Rattle.word_units.specs.Parts.{high_of}
use Rattle.str_value.specs.Meaning.{own_part}
use Rattle.str_value.proofs.Between.{scalars-part}
use Rattle.str_value.proofs.Measuring.{boundary-inside}
use Rattle.str_value.proofs.Pieces.{part-of_piece}
use Rattle.str_value.proofs.Spliced.{scalars-kept}
use Rattle.str_value.proofs.parts.small_part.Goals as goal

pub fill_forward-size-requires-clause-high : goal.fill_forward-size-requires-clause-high
fill_forward-size-requires-clause-high g c =
    subst (λ m. c.args.low ≤ high_of (own_part m)) (sym c.utf8_length-length.ensures.kept) (omega (arith, boundary-inside c.args.value.now c.args.low c.requires.low))

pub small-requires : goal.small-requires
small-requires g c =
    let front = part-of_piece c.args.value.now c.utf8_length-length.new.self c.utf8_length-length.ensures.kept c.args.low c.args.high c.utf8_length-length.result
    c.fill_forward-size.result.1 c.fill_forward-size.result.0 c.fill_forward-size.new.buf c.fill_forward-size.ensures.piece (omega arith) c.fill_forward-size.ensures.most
    c.requires.order c.utf8_length-length.ensures.value (omega (arith, c.requires.few, c.utf8_length-length.ensures.value)) in
    subst IsUtf8 (sym front) (scalars-part c.args.value.now c.args.low c.args.high (scalars-kept _ _ c.args.value.now c.value.invariant c.value.view_is)).0

pub returns-clause-text : goal.returns-clause-text
returns-clause-text g c =
    let front = part-of_piece c.args.value.now c.utf8_length-length.new.self c.utf8_length-length.ensures.kept c.args.low c.args.high c.utf8_length-length.result
    c.fill_forward-size.result.1 c.fill_forward-size.result.0 c.fill_forward-size.new.buf c.fill_forward-size.ensures.piece (omega arith) c.fill_forward-size.ensures.most
    c.requires.order c.utf8_length-length.ensures.value (omega (arith, c.requires.few, c.utf8_length-length.ensures.value)) in
    c.in-Some.ensures.text ∙ ap chars front ∙ (scalars-part c.args.value.now c.args.low c.args.high (scalars-kept _ _ c.args.value.now c.value.invariant c.value.view_is)).1

pub returns-clause-row : goal.returns-clause-row
returns-clause-row g c =
    let front = part-of_piece c.args.value.now c.utf8_length-length.new.self c.utf8_length-length.ensures.kept c.args.low c.args.high c.utf8_length-length.result
    c.fill_forward-size.result.1 c.fill_forward-size.result.0 c.fill_forward-size.new.buf c.fill_forward-size.ensures.piece (omega arith) c.fill_forward-size.ensures.most
    c.requires.order c.utf8_length-length.ensures.value (omega (arith, c.requires.few, c.utf8_length-length.ensures.value)) in
    c.in-Some.ensures.row ∙ ap small front
