use Rattle.std.proofs.Common.{sym, ap, subst, ◌∙◌, length, arith}
use Rattle.text_spec.specs.Offsets.{down}
use Rattle.text_spec.specs.Views.{width_in}
use Rattle.text_spec.proofs.Walk.{start-zero, start-le}
use Rattle.text_spec.specs.Boundaries.{IsScalarBoundary}
use Rattle.text_spec.specs.Text.{utf8}
use Rattle.str_value.specs.Meaning.{Meaning, storage_of, text_between}
use Rattle.str_value.proofs.Kept.{limit-kept}
use Rattle.str_value.proofs.Between.{start-boundary}
use Rattle.str_value.proofs.Spliced.{places8, end-kept, scalars-kept}
use Rattle.str_value.proofs.value.Str.part_utf8.Goals as goal

pub utf8_length-before-requires-clause-low : goal.utf8_length-before-requires-clause-low
utf8_length-before-requires-clause-low c =
    let now = c.args.self.now in
    start-boundary (storage_of now.row) now.text 0 0 (omega arith) (sym (start-zero (width_in (storage_of now.row)) now.text))

pub utf8_length-behind-requires-clause-high : goal.utf8_length-behind-requires-clause-high
utf8_length-behind-requires-clause-high c =
    let now = c.args.self.now in
    subst (λ (m : Meaning). IsScalarBoundary (width_in (storage_of m.row)) m.text c.count-end.result) (sym (c.utf8_length-within.ensures.kept ∙ c.utf8_length-before.ensures.kept))
    (start-boundary (storage_of now.row) now.text (length now.text) c.count-end.result (omega arith) (end-kept _ _ c.args.self.now c.count-end.result c.self.invariant c.self.view_is c.count-end.ensures))

pub utf8_length-behind-requires-clause-order : goal.utf8_length-behind-requires-clause-order
utf8_length-behind-requires-clause-order c =
    let now = c.args.self.now in
    let w = width_in (storage_of now.row) in
    omega (arith, c.requires.high, start-le w now.text (down w now.text c.args.high), (end-kept _ _ c.args.self.now c.count-end.result c.self.invariant c.self.view_is c.count-end.ensures))

pub returns-clause-low : goal.returns-clause-low
returns-clause-low c =
    let now = c.args.self.now in
    c.utf8_length-before.ensures.value ∙ (places8 now c.args.low c.args.high c.count-end.result (end-kept _ _ c.args.self.now c.count-end.result c.self.invariant c.self.view_is c.count-end.ensures) c.requires.order).first

pub returns-clause-high : goal.returns-clause-high
returns-clause-high c =
    let now = c.args.self.now in
    let p = places8 now c.args.low c.args.high c.count-end.result (end-kept _ _ c.args.self.now c.count-end.result c.self.invariant c.self.view_is c.count-end.ensures) c.requires.order in
    let within = ap (λ (m : Meaning). length (utf8 (text_between m c.args.low c.args.high))) c.utf8_length-before.ensures.kept in
    omega (arith, within, c.utf8_length-before.ensures.value, c.utf8_length-within.ensures.value, p.first, p.second)

pub returns-clause-count : goal.returns-clause-count
returns-clause-count c =
    let now = c.args.self.now in
    let p = places8 now c.args.low c.args.high c.count-end.result (end-kept _ _ c.args.self.now c.count-end.result c.self.invariant c.self.view_is c.count-end.ensures) c.requires.order in
    let within = ap (λ (m : Meaning). length (utf8 (text_between m c.args.low c.args.high))) c.utf8_length-before.ensures.kept in
    let behind = ap (λ (m : Meaning). length (utf8 (text_between m c.args.high c.count-end.result))) (c.utf8_length-within.ensures.kept ∙ c.utf8_length-before.ensures.kept) in
    omega (arith, within, behind, c.utf8_length-before.ensures.value, c.utf8_length-within.ensures.value, c.utf8_length-behind.ensures.value, p.first, p.second, p.third)

pub returns-clause-limit : goal.returns-clause-limit
returns-clause-limit c =
    omega (arith, returns-clause-count c, limit-kept _ _ c.args.self.now c.self.invariant c.self.view_is)

pub returns-clause-scalars : goal.returns-clause-scalars
returns-clause-scalars c = scalars-kept _ _ c.args.self.now c.self.invariant c.self.view_is
