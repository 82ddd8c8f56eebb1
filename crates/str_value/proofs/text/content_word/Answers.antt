use Rattle.std.proofs.Common.{ap, ◌∙◌, length, arith}
use Rattle.word_units.specs.Packing.{byte_word, unit_word}
use Rattle.str_value.proofs.Kept.{two-words, object-word, word-in, native-inside, native-word, foreign-inside, foreign-word, literal-inside, literal-word, byte-inside, byte-word, unit-inside, unit-word}
use Rattle.str_value.proofs.text.content_word.Goals as goal
use Rattle.str_value.proofs.text.content_word.Goals.{in-Words, in-Native, in-Foreign, in-Literal, in-Bytes, in-Units}

pub object_word-requires : goal.object_word-requires
object_word-requires c = two-words _ _ c.args.value.now c.args.k c.value.invariant c.value.view_is c.requires c.in-Words.is

pub overflow_cast-k : goal.overflow_cast-k
overflow_cast-k c = omega (arith, word-in _ _ c.args.value.now c.args.k c.value.invariant c.value.view_is c.requires)

pub overflow_add-k : goal.overflow_add-k
overflow_add-k c = omega (arith, word-in _ _ c.args.value.now c.args.k c.value.invariant c.value.view_is c.requires)

pub overflow_cast-k-in-Foreign : goal.overflow_cast-k-in-Foreign
overflow_cast-k-in-Foreign c = omega (arith, word-in _ _ c.args.value.now c.args.k c.value.invariant c.value.view_is c.requires)

pub overflow_add-k-in-Foreign : goal.overflow_add-k-in-Foreign
overflow_add-k-in-Foreign c = omega (arith, word-in _ _ c.args.value.now c.args.k c.value.invariant c.value.view_is c.requires)

pub overflow_cast-k-in-Literal : goal.overflow_cast-k-in-Literal
overflow_cast-k-in-Literal c = omega (arith, word-in _ _ c.args.value.now c.args.k c.value.invariant c.value.view_is c.requires)

pub overflow_add-k-in-Literal : goal.overflow_add-k-in-Literal
overflow_add-k-in-Literal c = omega (arith, word-in _ _ c.args.value.now c.args.k c.value.invariant c.value.view_is c.requires)

pub read-requires : goal.read-requires
read-requires c = native-inside _ _ c.args.value.now c.args.k c.value.invariant c.value.view_is c.requires _ _ c.in-Native.is

pub read-requires-in-Foreign : goal.read-requires-in-Foreign
read-requires-in-Foreign c = foreign-inside _ _ c.args.value.now c.args.k c.value.invariant c.value.view_is c.requires _ c.in-Foreign.is

pub read-requires-in-Literal : goal.read-requires-in-Literal
read-requires-in-Literal c = literal-inside _ _ c.args.value.now c.args.k c.value.invariant c.value.view_is c.requires _ c.in-Literal.is

pub byte_word-requires : goal.byte_word-requires
byte_word-requires c =
    omega (arith, ap length c.as_slice.ensures.value, byte-inside _ _ c.args.value.now c.args.k c.value.invariant c.value.view_is c.requires _ c.in-Bytes.is)

pub unit_word-requires : goal.unit_word-requires
unit_word-requires c =
    omega (arith, ap length c.as_slice-in-Units.ensures.value, unit-inside _ _ c.args.value.now c.args.k c.value.invariant c.value.view_is c.requires _ c.in-Units.is)

-- each form has its words where its code reads them
pub returns-clause-word : goal.returns-clause-word
returns-clause-word c =
    let o = c.value.inside.object in
    let s = c.value.inside.storage in
    let now = c.args.value.now in
    let k = c.args.k in
    let is = c.value.invariant in
    let e = c.value.view_is in
    let h = c.requires in
    elim c.match-value.branch [
      | in-Words w ↦ w.result-is ∙ w.object_word.ensures ∙ object-word o s now k is e h w.in-Words.is
      | in-Native w ↦ w.result-is ∙ w.read.ensures.word ∙ native-word o s now k is e h _ _ w.in-Native.is
      | in-Foreign w ↦ w.result-is ∙ w.read-in-Foreign.ensures.word ∙ foreign-word o s now k is e h _ w.in-Foreign.is
      | in-Literal w ↦ w.result-is ∙ w.read-in-Literal.ensures.word ∙ literal-word o s now k is e h _ w.in-Literal.is
      | in-Bytes w ↦ w.result-is ∙ w.byte_word.ensures ∙ ap (λ bytes. byte_word bytes k) w.as_slice.ensures.value ∙ byte-word o s now k is e h _ w.in-Bytes.is
      | in-Units w ↦ w.result-is ∙ w.unit_word.ensures ∙ ap (λ units. unit_word units k) w.as_slice-in-Units.ensures.value ∙ unit-word o s now k is e h _ w.in-Units.is
    ]
