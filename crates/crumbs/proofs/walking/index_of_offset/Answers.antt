use Rattle.std.proofs.Common.{◌≡◌, ◌≢◌, ℕ, sym, ap, subst, ◌∙◌, ◌+◌, ◌-◌, ◌*◌, ◌/◌, ◌≤◌, arith}
use Rattle.std.proofs.lemmas.Bool.{cond-false, ne_eqb}
use Rattle.std.specs.Char.{len_utf8}
use Rattle.text_spec.specs.declared.encoding.Encoding.TheVariants.{Utf8}
use Rattle.index_words.specs.Crumbs.{size16, index16}
use Rattle.text_spec.specs.Offsets.{len_utf16, down}
use Rattle.text_spec.specs.Views.{size_in}
use Rattle.index_words.specs.Fields.{position_of, transcoded_of}
use Rattle.word_units.specs.Parts.{all_of}
use Rattle.rounding.specs.Resolving.{Reaches}
use Rattle.crumbs.specs.Searching.{words_through, words_to_unit}
use Rattle.crumbs.specs.Scanning.{Stands}
use Rattle.crumbs.proofs.Seeing.{long8}
use Rattle.crumbs.proofs.Walks.{FromCrumb, to_unit, Over16, over16, index_over}
use Rattle.crumbs.proofs.WordsRead.{through-most}
use Rattle.crumbs.proofs.walking.index_of_offset.Given.{Over}
use Rattle.crumbs.proofs.walking.index_of_offset.Goals as goal

-- the breadcrumb before the offset, of the text as it was
starts : (g : Over) (old now : g.row.T.Denot) (n stride o word : ℕ) → now ≡ old → stride ≡ n → 1 ≤ n → o ≤ size16 (g.T.Text.part old).whole
    → word ≡ index16 (g.T.Text.part now).whole (o / n * n) → FromCrumb (g.T.Text.part old).whole n (o / stride * stride) (down len_utf16 (g.T.Text.part old).whole o) word
starts g old now n stride o word same is some inside crumb =
    subst (λ s. FromCrumb (g.T.Text.part old).whole n (o / s * s) (down len_utf16 (g.T.Text.part old).whole o) word) (sym is)
    (to_unit (g.T.Text.part old).whole n o word some inside (crumb ∙ ap (λ t. index16 (g.T.Text.part t).whole (o / n * n)) same))

pub scalar_over-scalar-requires-clause-begun : goal.scalar_over-scalar-requires-clause-begun
scalar_over-scalar-requires-clause-begun g c =
    let b = (g.T.Text.part c.args.t.now).whole in
    let m = c.args.offset / c.stride-stride.result * c.stride-stride.result in
    let word = c.for_offset-crumb.result in
    let f = starts g c.args.t.now _ g.T.Text.STRIDE c.stride-stride.result c.args.offset word c.length16-high.ensures.kept c.stride-stride.ensures c.requires.some
    (omega (arith, c.if-offset-high.false, c.length16-high.ensures.value)) c.for_offset-crumb.ensures.value in
    let past : c.from-past.result ≡ transcoded_of word = c.from-past.ensures ∙ c.transcoded.ensures.value in
    subst (λ t. Reaches (all_of Utf8 (g.T.Text.part t).whole) c.position.result (m - c.from-past.result)) (sym (c.for_offset-crumb.ensures.kept ∙ c.length16-high.ensures.kept))
    (subst (λ p. Reaches (all_of Utf8 b) p (m - c.from-past.result)) (sym c.position.ensures.value)
    (subst (λ x. Reaches (all_of Utf8 b) (position_of word) (m - x)) (sym past) f.reaches))

pub scalar_over-scalar-requires-clause-within : goal.scalar_over-scalar-requires-clause-within
scalar_over-scalar-requires-clause-within g c =
    let f = starts g c.args.t.now _ g.T.Text.STRIDE c.stride-stride.result c.args.offset c.for_offset-crumb.result c.length16-high.ensures.kept c.stride-stride.ensures c.requires.some
    (omega (arith, c.if-offset-high.false, c.length16-high.ensures.value)) c.for_offset-crumb.ensures.value in
    subst (λ t. c.position.result ≤ size_in Utf8 (g.T.Text.part t).whole) (sym (c.for_offset-crumb.ensures.kept ∙ c.length16-high.ensures.kept))
    (omega (arith, f.within, c.position.ensures.value))

pub scalar_over-scalar-requires-clause-order : goal.scalar_over-scalar-requires-clause-order
scalar_over-scalar-requires-clause-order g c =
    let f = starts g c.args.t.now _ g.T.Text.STRIDE c.stride-stride.result c.args.offset c.for_offset-crumb.result c.length16-high.ensures.kept c.stride-stride.ensures c.requires.some
    (omega (arith, c.if-offset-high.false, c.length16-high.ensures.value)) c.for_offset-crumb.ensures.value in
    subst (λ t. down len_utf8 (g.T.Text.part t).whole c.position.result ≤ down len_utf16 (g.T.Text.part t).whole c.args.offset) (sym (c.for_offset-crumb.ensures.kept ∙ c.length16-high.ensures.kept))
    (subst (λ p. down len_utf8 (g.T.Text.part c.args.t.now).whole p ≤ down len_utf16 (g.T.Text.part c.args.t.now).whole c.args.offset) (sym c.position.ensures.value) f.order)

-- the scalar that covers the offset, of the text as it was
ends : (g : Over) (old now : g.row.T.Denot) (o begins units takes : ℕ) → now ≡ old → o ≤ size16 (g.T.Text.part old).whole
    → Stands (g.T.Text.part now).whole (down len_utf16 (g.T.Text.part now).whole o) begins units takes
    → (Stands (g.T.Text.part old).whole (down len_utf16 (g.T.Text.part old).whole o) begins units takes) × Over16 (g.T.Text.part old).whole o begins units
ends g old now o begins units takes same inside stands =
    let s = subst (λ t. Stands (g.T.Text.part t).whole (down len_utf16 (g.T.Text.part t).whole o) begins units takes) same stands in
    (s, over16 (g.T.Text.part old).whole o begins units takes inside s)

pub overflow_sub-offset : goal.overflow_sub-offset
overflow_sub-offset g c =
    let over = ends g c.args.t.now _ c.args.offset _ _ _ (c.for_offset-crumb.ensures.kept ∙ c.length16-high.ensures.kept)
    (omega (arith, c.if-offset-high.false, c.length16-high.ensures.value)) c.scalar_over-scalar.ensures.stands in
    over.1.order

pub index_of_crumb-requires-clause-small : goal.index_of_crumb-requires-clause-small
index_of_crumb-requires-clause-small g c =
    let over = ends g c.args.t.now _ c.args.offset _ _ _ (c.for_offset-crumb.ensures.kept ∙ c.length16-high.ensures.kept)
    (omega (arith, c.if-offset-high.false, c.length16-high.ensures.value)) c.scalar_over-scalar.ensures.stands in
    let long = long8 (g.T.Text.part c.args.t.now).storage c.count-count.result (g.T.Text.part c.args.t.now).whole (c.crumbs_known-known.ensures.storage c.requires.known) c.count-count.ensures.value in
    omega (arith, over.1.within, long, c.count-count.ensures.small)

pub index_of_crumb-requires-clause-most : goal.index_of_crumb-requires-clause-most
index_of_crumb-requires-clause-most g c =
    let over = ends g c.args.t.now _ c.args.offset _ _ _ (c.for_offset-crumb.ensures.kept ∙ c.length16-high.ensures.kept)
    (omega (arith, c.if-offset-high.false, c.length16-high.ensures.value)) c.scalar_over-scalar.ensures.stands in
    over.1.few

-- how many words the walk reads
pub read : (g : Over) (old now : g.row.T.Denot) (n m from o word : ℕ) → now ≡ old → from ≡ position_of word → FromCrumb (g.T.Text.part old).whole n m (down len_utf16 (g.T.Text.part old).whole o) word
    → words_through (g.T.Text.part now).whole (down len_utf8 (g.T.Text.part now).whole from) (down len_utf16 (g.T.Text.part now).whole o)
    ≡ words_through (g.T.Text.part old).whole (down len_utf16 (g.T.Text.part old).whole m) (down len_utf16 (g.T.Text.part old).whole o)
read g old now n m from o word same at f =
    let b = (g.T.Text.part old).whole in
    ap (λ t. words_through (g.T.Text.part t).whole (down len_utf8 (g.T.Text.part t).whole from) (down len_utf16 (g.T.Text.part t).whole o)) same
    ∙ ap (λ j. words_through b j (down len_utf16 b o)) (ap (down len_utf8 b) at ∙ f.number)

pub returns-clause-few : goal.returns-clause-few
returns-clause-few g c =
    let b = (g.T.Text.part c.args.t.now).whole in
    let f = starts g c.args.t.now _ g.T.Text.STRIDE c.stride-stride.result c.args.offset c.for_offset-crumb.result c.length16-high.ensures.kept c.stride-stride.ensures c.requires.some
    (omega (arith, c.if-offset-high.false, c.length16-high.ensures.value)) c.for_offset-crumb.ensures.value in
    let words = read g c.args.t.now _ g.T.Text.STRIDE _ _ c.args.offset _ (c.for_offset-crumb.ensures.kept ∙ c.length16-high.ensures.kept) c.position.ensures.value f in
    let m = c.args.offset / c.stride-stride.result * c.stride-stride.result in
    omega (arith, c.length16-high.ensures.cost, c.for_offset-crumb.ensures.cost, c.scalar_over-scalar.ensures.cost, words, through-most b (down len_utf16 b m) (down len_utf16 b c.args.offset) g.T.Text.STRIDE f.few)

pub returns-clause-cost : goal.returns-clause-cost
returns-clause-cost g c =
    let b = (g.T.Text.part c.args.t.now).whole in
    let o = c.args.offset in
    let n = g.T.Text.STRIDE in
    let f = starts g c.args.t.now _ g.T.Text.STRIDE c.stride-stride.result c.args.offset c.for_offset-crumb.result c.length16-high.ensures.kept c.stride-stride.ensures c.requires.some
    (omega (arith, c.if-offset-high.false, c.length16-high.ensures.value)) c.for_offset-crumb.ensures.value in
    let words = read g c.args.t.now _ g.T.Text.STRIDE _ _ c.args.offset _ (c.for_offset-crumb.ensures.kept ∙ c.length16-high.ensures.kept) c.position.ensures.value f in
    let same : o / c.stride-stride.result * c.stride-stride.result ≡ o / n * n = ap (λ s. o / s * s) c.stride-stride.ensures in
    let other : o / n * n ≢ o = λ e. c.if-begun-offset.false (same ∙ e) in
    let all : words_to_unit b n o ≡ 2 + words_through b (down len_utf16 b (o / n * n)) (down len_utf16 b o) = ap (λ k. 2 + k) (cond-false _ _ _ (ne_eqb (o / n * n) o other)) in
    omega (arith, c.length16-high.ensures.cost, c.for_offset-crumb.ensures.cost, c.scalar_over-scalar.ensures.cost, words, all, ap (λ k. words_through b (down len_utf16 b k) (down len_utf16 b o)) same)

pub returns-clause-index : goal.returns-clause-index
returns-clause-index g c =
    let b = (g.T.Text.part c.args.t.now).whole in
    let over = ends g c.args.t.now _ c.args.offset _ _ _ (c.for_offset-crumb.ensures.kept ∙ c.length16-high.ensures.kept)
    (omega (arith, c.if-offset-high.false, c.length16-high.ensures.value)) c.scalar_over-scalar.ensures.stands in (
      omega (arith, c.if-offset-high.false, c.length16-high.ensures.value),
      c.index_of_crumb.ensures ∙ index_over b c.args.offset _ _ _ over.0,
    )
