use Rattle.std.proofs.Common.{sym, ap, subst, ◌∙◌, ◌≤◌, IsUtf8, length, chars, arith}
use Rattle.std.proofs.lemmas.List.{length-take-le}
use Rattle.text_spec.specs.Offsets.{start, down}
use Rattle.text_spec.specs.Text.{utf8}
use Rattle.text_spec.specs.Views.{width_in}
use Rattle.text_spec.proofs.Walk.{start-zero, start-le}
use Rattle.object_words.specs.Rows.{small}
use Rattle.str_value.specs.Meaning.{storage_of}
use Rattle.str_value.proofs.Between.{start-boundary}
use Rattle.str_value.proofs.Pieces.{pieces-joined, pieces-few}
use Rattle.str_value.proofs.Spliced.{length-splice}
use Rattle.str_value.proofs.value.Str.small_after.Goals as goal

pub fill_forward-size-requires-clause-low : goal.fill_forward-size-requires-clause-low
fill_forward-size-requires-clause-low g c = let now = c.args.self.now in omega (arith, start-zero (width_in (storage_of now.row)) now.text)

pub fill_forward-size-requires-clause-boundary : goal.fill_forward-size-requires-clause-boundary
fill_forward-size-requires-clause-boundary g c =
    let now = c.args.self.now in
    start-boundary (storage_of now.row) now.text 0 0 (omega arith) (sym (start-zero (width_in (storage_of now.row)) now.text))

pub fill_forward-size-requires-2-clause-high : goal.fill_forward-size-requires-2-clause-high
fill_forward-size-requires-2-clause-high g c =
    let now = c.args.self.now in
    let w = width_in (storage_of now.row) in
    subst (λ m. c.args.high ≤ start (width_in (storage_of m.row)) m.text (length m.text)) (sym c.fill_forward-size.ensures.kept)
    (omega (arith, c.requires.high, start-le w now.text (down w now.text c.args.high)))

pub slice_bounds-front-end : goal.slice_bounds-front-end
slice_bounds-front-end g c =
    omega (arith, c.requires.few, length-splice (utf8 c.args.self.now.text) c.args.with.now c.args.part.low c.args.part.high c.requires.order c.requires.inside)

pub slice_bounds-small_of-end : goal.slice_bounds-small_of-end
slice_bounds-small_of-end g c =
    let now = c.args.self.now in
    let few = length-splice (utf8 now.text) c.args.with.now c.args.part.low c.args.part.high c.requires.order c.requires.inside in
    sym (length-take-le c.args.part.low c.fill_forward-size.new.buf (omega (arith, c.requires.few, few)))

pub small_of-requires-clause-utf8 : goal.small_of-requires-clause-utf8
small_of-requires-clause-utf8 g c =
    let first = c.fill_forward-size in
    let second = c.fill_forward-size-2 in
    subst IsUtf8
    (sym (pieces-joined c.args.self.now first.new.t first.ensures.kept c.args.high c.args.part.low c.args.part.high c.args.with.now c.requires.high8 c.requires.order
    c.requires.inside c.requires.few first.result.1 first.result.0 first.new.buf first.ensures.piece (omega arith) first.ensures.most
    second.result.1 second.result.0 second.new.buf second.ensures.piece (omega arith) second.ensures.most))
    c.requires.utf8

pub small_of-requires-clause-few : goal.small_of-requires-clause-few
small_of-requires-clause-few g c =
    let first = c.fill_forward-size in
    let second = c.fill_forward-size-2 in
    pieces-few c.args.self.now first.new.t first.ensures.kept c.args.high c.args.part.low c.args.part.high c.args.with.now c.requires.high8 c.requires.order
    c.requires.inside c.requires.few first.result.1 first.result.0 first.new.buf first.ensures.piece (omega arith) first.ensures.most
    second.result.1 second.result.0 second.new.buf second.ensures.piece (omega arith) second.ensures.most

pub returns-clause-text : goal.returns-clause-text
returns-clause-text g c =
    let first = c.fill_forward-size in
    let second = c.fill_forward-size-2 in
    c.small_of.ensures.text ∙ ap chars
    (pieces-joined c.args.self.now first.new.t first.ensures.kept c.args.high c.args.part.low c.args.part.high c.args.with.now c.requires.high8 c.requires.order
    c.requires.inside c.requires.few first.result.1 first.result.0 first.new.buf first.ensures.piece (omega arith) first.ensures.most
    second.result.1 second.result.0 second.new.buf second.ensures.piece (omega arith) second.ensures.most)

pub returns-clause-row : goal.returns-clause-row
returns-clause-row g c =
    let first = c.fill_forward-size in
    let second = c.fill_forward-size-2 in
    c.small_of.ensures.row ∙ ap small
    (pieces-joined c.args.self.now first.new.t first.ensures.kept c.args.high c.args.part.low c.args.part.high c.args.with.now c.requires.high8 c.requires.order
    c.requires.inside c.requires.few first.result.1 first.result.0 first.new.buf first.ensures.piece (omega arith) first.ensures.most
    second.result.1 second.result.0 second.new.buf second.ensures.piece (omega arith) second.ensures.most)
