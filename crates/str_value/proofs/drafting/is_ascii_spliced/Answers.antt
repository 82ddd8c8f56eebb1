use Rattle.std.proofs.Common.{◌≡◌, refl, ◌-◌, sym, ◌∙◌, ap, true, false, arith}
use Rattle.std.proofs.Math.Bool.{true-and, false-and}
use Rattle.text_spec.specs.Text.{utf8}
use Rattle.object_words.specs.Rows.{is_ascii}
use Rattle.str_value.specs.Meaning.{Meaning}
use Rattle.str_value.specs.Drafting.{utf8_from}
use Rattle.str_value.proofs.Spliced.{ascii-marked, ascii-added}
use Rattle.str_value.proofs.Drafted.{before-none, begins, scalars-ascii, ascii-spliced}
use Rattle.str_value.proofs.drafting.is_ascii_spliced.Goals as goal
use Rattle.str_value.proofs.drafting.is_ascii_spliced.Goals.{then-ascii-via-then-ascii, then-ascii-via-else-ascii+then-not-added}

-- all is ASCII before, or something is added that isn't
pub returns-then-ascii-clause-ascii : goal.returns-then-ascii-clause-ascii
returns-then-ascii-clause-ascii g c =
    let t = c.args.value.now.text in
    let w = c.args.with.now in
    let e = c.ascii.ensures in
    elim c.then-ascii.branch [
      | then-ascii-via-then-ascii b ↦ c.is_ascii-added.ensures
          ∙ ascii-marked (utf8 t) w c.args.part.low c.args.part.high (scalars-ascii t (e.below (sym e.value ∙ b.if-ascii.true)))
      | then-ascii-via-else-ascii+then-not-added b ↦ c.is_ascii-added.ensures
          ∙ ascii-added (utf8 t) w c.args.part.low c.args.part.high (sym c.is_ascii-added.ensures ∙ b.if-not-added.true)
    ]

pub is_ascii_text-requires-clause-boundary : goal.is_ascii_text-requires-clause-boundary
is_ascii_text-requires-clause-boundary g c = begins c.args.value.now

pub is_ascii_text-requires-clause-inside : goal.is_ascii_text-requires-clause-inside
is_ascii_text-requires-clause-inside g c = omega (arith, before-none c.args.value.now, c.requires.order, c.requires.inside, c.requires.count)

-- front and back tell it
pub returns-then-is_ascii_text-clause-ascii : goal.returns-then-is_ascii_text-clause-ascii
returns-then-is_ascii_text-clause-ascii g c =
    let s = c.args.value.now in
    let p = c.args.part in
    let back = c.is_ascii_text-then-is_ascii_text.result in
    let shown : back ≡ is_ascii (utf8_from s c.args.high (p.count - p.high)) =
    c.is_ascii_text-then-is_ascii_text.ensures.ascii ∙ ap (λ (m : Meaning). is_ascii (utf8_from m c.args.high (p.count - p.high))) c.is_ascii_text.ensures.kept in
    sym (true-and back)
    ∙ ascii-spliced s p.low c.args.high p.high (p.count - p.high) c.args.with.now true back c.requires.high8 (omega (arith, c.requires.inside, c.requires.count))
    (sym c.is_ascii-added.ensures ∙ c.if-not-added.false) (sym c.if-is_ascii_text.true ∙ c.is_ascii_text.ensures.ascii) shown

pub returns-else-is_ascii_text-clause-ascii : goal.returns-else-is_ascii_text-clause-ascii
returns-else-is_ascii_text-clause-ascii g c =
    let s = c.args.value.now in
    let p = c.args.part in
    let back = is_ascii (utf8_from s c.args.high (p.count - p.high)) in
    c.if-is_ascii_text.false ∙ sym (false-and back)
    ∙ ascii-spliced s p.low c.args.high p.high (p.count - p.high) c.args.with.now false back c.requires.high8 (omega (arith, c.requires.inside, c.requires.count))
    (sym c.is_ascii-added.ensures ∙ c.if-not-added.false) (sym c.if-is_ascii_text.false ∙ c.is_ascii_text.ensures.ascii) refl
