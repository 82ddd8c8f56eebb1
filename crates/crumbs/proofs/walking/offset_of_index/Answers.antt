use Rattle.std.proofs.Common.{◌≡◌, ℕ, sym, ap, subst, ◌∙◌, ◌+◌, ◌-◌, ◌≤◌, ⊎_elim, inl, inr, arith}
use Rattle.std.specs.Char.{len_utf8}
use Rattle.text_spec.specs.declared.encoding.Encoding.TheVariants.{Utf8}
use Rattle.text_spec.specs.Offsets.{len_utf16, down}
use Rattle.text_spec.specs.Views.{size_in}
use Rattle.index_words.specs.Fields.{position_of, transcoded_of}
use Rattle.rounding.specs.Resolving.{Reaches}
use Rattle.crumbs.specs.Searching.{IsLastCrumb, words_through, words_to_byte}
use Rattle.crumbs.specs.Scanning.{Stands}
use Rattle.crumbs.proofs.Crumbing.{size16-le}
use Rattle.crumbs.proofs.Walks.{to_byte, last_unique, offset_within, offset_else}
use Rattle.crumbs.proofs.WordsRead.{through-most}
use Rattle.text_spec.proofs.Walk.{start-le}
use Rattle.word_units.specs.Parts.{all_of}
use Rattle.crumbs.proofs.walking.offset_of_index.Given.{Over}
use Rattle.crumbs.proofs.walking.offset_of_index.Goals as goal

-- the breadcrumb's scalar begins in the text as it was
pub scalar_over-scalar-requires-clause-begun : goal.scalar_over-scalar-requires-clause-begun
scalar_over-scalar-requires-clause-begun g c =
    let b = (g.T.Text.part c.args.t.now).whole in
    let crumb = c.near-unit.result.1 in
    let f = to_byte b g.T.Text.STRIDE c.args.i c.near-unit.result.0 crumb c.requires.some c.near-unit.ensures.last in
    let past : c.from-past.result ≡ transcoded_of crumb = c.from-past.ensures ∙ c.transcoded.ensures.value in
    subst (λ t. Reaches (all_of Utf8 (g.T.Text.part t).whole) c.position.result (c.near-unit.result.0 - c.from-past.result)) (sym c.near-unit.ensures.kept)
    (subst (λ p. Reaches (all_of Utf8 b) p (c.near-unit.result.0 - c.from-past.result)) (sym c.position.ensures.value)
    (subst (λ x. Reaches (all_of Utf8 b) (position_of crumb) (c.near-unit.result.0 - x)) (sym past) f.reaches))

pub scalar_over-scalar-requires-clause-within : goal.scalar_over-scalar-requires-clause-within
scalar_over-scalar-requires-clause-within g c =
    let f = to_byte (g.T.Text.part c.args.t.now).whole g.T.Text.STRIDE c.args.i c.near-unit.result.0 c.near-unit.result.1 c.requires.some c.near-unit.ensures.last in
    subst (λ t. c.position.result ≤ size_in Utf8 (g.T.Text.part t).whole) (sym c.near-unit.ensures.kept) (omega (arith, f.within, c.position.ensures.value))

pub scalar_over-scalar-requires-clause-order : goal.scalar_over-scalar-requires-clause-order
scalar_over-scalar-requires-clause-order g c =
    let b = (g.T.Text.part c.args.t.now).whole in
    let f = to_byte b g.T.Text.STRIDE c.args.i c.near-unit.result.0 c.near-unit.result.1 c.requires.some c.near-unit.ensures.last in
    subst (λ t. down len_utf8 (g.T.Text.part t).whole c.position.result ≤ down len_utf8 (g.T.Text.part t).whole c.position-position.result) (sym c.near-unit.ensures.kept)
    (subst (λ p. down len_utf8 b p ≤ down len_utf8 b c.position-position.result) (sym c.position.ensures.value)
    (subst (λ p. down len_utf8 b (position_of c.near-unit.result.1) ≤ down len_utf8 b p) (sym c.position-position.ensures.value) f.order))

-- the scalar that covers the index's byte, of the text as it was
covers : (g : Over) (old now : g.row.T.Denot) (i p begins units takes : ℕ) → now ≡ old → p ≡ position_of i → Stands (g.T.Text.part now).whole (down len_utf8 (g.T.Text.part now).whole p) begins units takes
    → Stands (g.T.Text.part old).whole (down len_utf8 (g.T.Text.part old).whole (position_of i)) begins units takes
covers g old now i p begins units takes same is stands =
    subst (λ q. Stands (g.T.Text.part old).whole (down len_utf8 (g.T.Text.part old).whole q) begins units takes) is
    (subst (λ t. Stands (g.T.Text.part t).whole (down len_utf8 (g.T.Text.part t).whole p) begins units takes) same stands)

pub overflow_add-result : goal.overflow_add-result
overflow_add-result g c =
    let b = (g.T.Text.part c.args.t.now).whole in
    let over = covers g c.args.t.now _ c.args.i _ _ _ _ c.near-unit.ensures.kept c.position-position.ensures.value c.scalar_over-scalar.ensures.stands in
    omega (
      arith,
      over.units_are,
      start-le len_utf16 b (down len_utf8 b (position_of c.args.i)),
      size16-le (g.T.Text.part c.args.t.now).storage b,
      c.count-count.ensures.value,
      c.count-count.ensures.small,
      c.from-passed.ensures,
      c.transcoded-2.ensures.small,
    )

pub returns-then-passed-scalar-clause-offset : goal.returns-then-passed-scalar-clause-offset
returns-then-passed-scalar-clause-offset g c =
    let b = (g.T.Text.part c.args.t.now).whole in
    let over = covers g c.args.t.now _ c.args.i _ _ _ _ c.near-unit.ensures.kept c.position-position.ensures.value c.scalar_over-scalar.ensures.stands in
    let passed : c.from-passed.result ≡ transcoded_of c.args.i = c.from-passed.ensures ∙ c.transcoded-2.ensures.value in
    ap (λ x. c.scalar_over-scalar.result.units + x) passed
    ∙ offset_within b c.args.i _ _ _ over c.requires.inside (omega (arith, c.if-scalar-position.true, c.position-position.ensures.value)) (omega (arith, c.if-passed-scalar.true, passed))

pub returns-clause-offset : goal.returns-clause-offset
returns-clause-offset g c =
    let b = (g.T.Text.part c.args.t.now).whole in
    let over = covers g c.args.t.now _ c.args.i _ _ _ _ c.near-unit.ensures.kept c.position-position.ensures.value c.scalar_over-scalar.ensures.stands in
    let passed : c.from-passed.result ≡ transcoded_of c.args.i = c.from-passed.ensures ∙ c.transcoded-2.ensures.value in
    offset_else b c.args.i _ _ _ over
    (⊎_elim (λ past. inr (omega (arith, past.1, passed))) (λ (apart : c.scalar_over-scalar.result.begins ≡ c.position-position.result → ⊥). inl (λ e. apart (e ∙ sym c.position-position.ensures.value)))
    c.else-scalar-position.either)

-- how many words the walk reads
read : (g : Over) (old now : g.row.T.Denot) (n i m word from p other crumb : ℕ) → now ≡ old → from ≡ position_of word → p ≡ position_of i → 1 ≤ n
    → IsLastCrumb (g.T.Text.part old).whole n i m word → IsLastCrumb (g.T.Text.part old).whole n i other crumb
    → words_through (g.T.Text.part now).whole (down len_utf8 (g.T.Text.part now).whole from) (down len_utf8 (g.T.Text.part now).whole p) ≡ words_to_byte (g.T.Text.part old).whole other (position_of i)
read g old now n i m word from p other crumb same at is some last also =
    let b = (g.T.Text.part old).whole in
    let f = to_byte b n i m word some last in
    ap (λ t. words_through (g.T.Text.part t).whole (down len_utf8 (g.T.Text.part t).whole from) (down len_utf8 (g.T.Text.part t).whole p)) same
    ∙ ap (λ q. words_through b (down len_utf8 b from) (down len_utf8 b q)) is
    ∙ ap (λ j. words_through b j (down len_utf8 b (position_of i))) (ap (down len_utf8 b) at ∙ f.number ∙ ap (down len_utf16 b) (last_unique b n i m word other crumb last also))

pub returns-then-passed-scalar-clause-cost : goal.returns-then-passed-scalar-clause-cost
returns-then-passed-scalar-clause-cost g c =
    let b = (g.T.Text.part c.args.t.now).whole in
    let n = g.T.Text.STRIDE in
    let last = c.near-unit.ensures.last in
    λ m crumb digits also h. omega (arith, c.near-unit.ensures.cost digits h, c.scalar_over-scalar.ensures.cost, read g c.args.t.now _ n c.args.i _ _ _ _ m crumb c.near-unit.ensures.kept c.position.ensures.value c.position-position.ensures.value c.requires.some last also)

pub returns-then-passed-scalar-clause-counted : goal.returns-then-passed-scalar-clause-counted
returns-then-passed-scalar-clause-counted g c =
    let b = (g.T.Text.part c.args.t.now).whole in
    let n = g.T.Text.STRIDE in
    let last = c.near-unit.ensures.last in
    λ m crumb digits also h. omega (arith, c.near-unit.ensures.counted digits h, c.scalar_over-scalar.ensures.cost, read g c.args.t.now _ n c.args.i _ _ _ _ m crumb c.near-unit.ensures.kept c.position.ensures.value c.position-position.ensures.value c.requires.some last also)

pub returns-then-passed-scalar-clause-few : goal.returns-then-passed-scalar-clause-few
returns-then-passed-scalar-clause-few g c =
    let b = (g.T.Text.part c.args.t.now).whole in
    let n = g.T.Text.STRIDE in
    let last = c.near-unit.ensures.last in
    let f = to_byte b n c.args.i c.near-unit.result.0 c.near-unit.result.1 c.requires.some last in
    let words = read g c.args.t.now _ n c.args.i _ _ _ _ _ _ c.near-unit.ensures.kept c.position.ensures.value c.position-position.ensures.value c.requires.some last last in
    let most = through-most b (down len_utf16 b c.near-unit.result.0) (down len_utf8 b (position_of c.args.i)) n f.few in
    λ digits h. omega (arith, c.near-unit.ensures.cost digits h, c.scalar_over-scalar.ensures.cost, words, most)

pub returns-clause-cost : goal.returns-clause-cost
returns-clause-cost g c =
    let b = (g.T.Text.part c.args.t.now).whole in
    let n = g.T.Text.STRIDE in
    let last = c.near-unit.ensures.last in
    λ m crumb digits also h. omega (arith, c.near-unit.ensures.cost digits h, c.scalar_over-scalar.ensures.cost, read g c.args.t.now _ n c.args.i _ _ _ _ m crumb c.near-unit.ensures.kept c.position.ensures.value c.position-position.ensures.value c.requires.some last also)

pub returns-clause-counted : goal.returns-clause-counted
returns-clause-counted g c =
    let b = (g.T.Text.part c.args.t.now).whole in
    let n = g.T.Text.STRIDE in
    let last = c.near-unit.ensures.last in
    λ m crumb digits also h. omega (arith, c.near-unit.ensures.counted digits h, c.scalar_over-scalar.ensures.cost, read g c.args.t.now _ n c.args.i _ _ _ _ m crumb c.near-unit.ensures.kept c.position.ensures.value c.position-position.ensures.value c.requires.some last also)

pub returns-clause-few : goal.returns-clause-few
returns-clause-few g c =
    let b = (g.T.Text.part c.args.t.now).whole in
    let n = g.T.Text.STRIDE in
    let last = c.near-unit.ensures.last in
    let f = to_byte b n c.args.i c.near-unit.result.0 c.near-unit.result.1 c.requires.some last in
    let words = read g c.args.t.now _ n c.args.i _ _ _ _ _ _ c.near-unit.ensures.kept c.position.ensures.value c.position-position.ensures.value c.requires.some last last in
    let most = through-most b (down len_utf16 b c.near-unit.result.0) (down len_utf8 b (position_of c.args.i)) n f.few in
    λ digits h. omega (arith, c.near-unit.ensures.cost digits h, c.scalar_over-scalar.ensures.cost, words, most)
