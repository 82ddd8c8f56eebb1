use Rattle.std.proofs.Common.{◌≡◌, ◌-◌, ap, ◌∙◌, List, ◌∷◌, ◌++◌, ℕ, length, arith}
use Rattle.std.specs.List.{splice}
use Rattle.text_spec.specs.Text.{utf8}
use Rattle.word_units.specs.Packing.{byte_words}
use Rattle.str_value.specs.Meaning.{Meaning}
use Rattle.str_value.specs.Drafting.{Writing, utf8_from}
use Rattle.str_value.proofs.Drafted.{before-none, begins, three-pieces}
use Rattle.str_value.proofs.drafting.draft_spliced.Goals as goal

pub push_text-requires-clause-boundary : goal.push_text-requires-clause-boundary
push_text-requires-clause-boundary g c = begins c.is_ascii_spliced-ascii.new.value

pub push_text-requires-clause-inside : goal.push_text-requires-clause-inside
push_text-requires-clause-inside g c =
    let s = c.is_ascii_spliced-ascii.new.value in
    omega (
      arith,
      before-none s,
      c.requires.order,
      c.requires.inside,
      c.requires.count,
      ap (λ (m : Meaning). length (utf8 m.text)) c.is_ascii_spliced-ascii.ensures.kept,
    )

pub returns-clause-words : goal.returns-clause-words
returns-clause-words g c =
    let s = c.args.value.now in
    let p = c.args.part in
    let w = c.args.with.now in
    let d = c.args.draft in
    let kept = c.is_ascii_spliced-ascii.ensures.kept in
    let front = utf8_from c.is_ascii_spliced-ascii.new.value 0 p.low in
    let back = utf8_from c.push_text.new.value c.args.high (p.count - p.high) in
    let first : front ≡ utf8_from s 0 p.low = ap (λ (m : Meaning). utf8_from m 0 p.low) kept in
    let last : back ≡ utf8_from s c.args.high (p.count - p.high) =
    ap (λ (m : Meaning). utf8_from m c.args.high (p.count - p.high)) (c.push_text.ensures.kept ∙ kept) in
    let whole : (front ++ w) ++ back ≡ splice (utf8 s.text) p.low p.high w =
    ap (λ (l : List ℕ). (l ++ w) ++ back) first ∙ ap (λ (l : List ℕ). (utf8_from s 0 p.low ++ w) ++ l) last
    ∙ three-pieces s p.low c.args.high p.high (p.count - p.high) w c.requires.high8 (omega (arith, c.requires.inside, c.requires.count)) in
    c.finish.ensures ∙ ap (λ (x : Writing). record x.start { written = x.start.written ++ byte_words x.bytes })
    (c.push_text-2.ensures.bytes ∙ ap (λ (x : Writing). record x { bytes = x.bytes ++ back }) c.push.ensures
    ∙ ap (λ (x : Writing). record x { bytes = (x.bytes ++ w) ++ back }) c.push_text.ensures.bytes
    ∙ ap (λ (x : Writing). record x { bytes = ((x.bytes ++ front) ++ w) ++ back }) c.begin-writer.ensures)
    ∙ ap (λ (v : ℕ). record d { written = v ∷ byte_words ((front ++ w) ++ back) }) c.w0.ensures
    ∙ ap (λ (l : List ℕ). record d { written = c.native-object.result.0 ∷ byte_words l }) whole
