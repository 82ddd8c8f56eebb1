use Rattle.std.proofs.Common.{◌≡◌, ℕ, suc, refl, ap, subst, ◌∙◌, ◌-◌, ◌<◌, arith}
use Rattle.std.specs.Char.{len_utf8}
use Rattle.text_spec.specs.declared.encoding.Encoding.TheVariants.{Utf8}
use Rattle.text_spec.specs.Offsets.{start, down}
use Rattle.text_spec.specs.Views.{size_in}
use Rattle.crumbs.specs.Searching.{words_begun}
use Rattle.crumbs.specs.Scanning.{number_at, Scanned}
use Rattle.crumbs.proofs.Seeing.{long8}
use Rattle.crumbs.proofs.Scans.{walk_on, walk_ends, walk_begins}
use Rattle.crumbs.proofs.WordsRead.{words-none, words-more, through-inside, through-end}
use Rattle.crumbs.proofs.scanning.scalar_over.Given.{Over}
use Rattle.crumbs.proofs.scanning.scalar_over.Goals as goal

-- what a word tells, of the text as it was
scanned : (g : Over) (old now : g.row.T.Denot) (limit : _) (at begins units takes : ℕ) → now ≡ old
    → Scanned (g.T.Text.part now).whole limit at begins units takes → Scanned (g.T.Text.part old).whole limit at begins units takes
scanned g old now limit at begins units takes same s = subst (λ t. Scanned (g.T.Text.part t).whole limit at begins units takes) same s

pub words-init : goal.words-init
words-init g c =
    let b = (g.T.Text.part c.args.t.now).whole in
    record {
      same = refl;
      walked = walk_begins b c.args.limit c.args.from c.args.units c.requires.begun c.requires.within c.requires.order;
      cost = omega (arith, words-none b (down len_utf8 b c.args.from) (down len_utf8 b c.args.from) (omega arith));
    }

pub words-preserved : goal.words-preserved
words-preserved g c =
    let b = (g.T.Text.part c.args.t.now).whole in
    let first = down len_utf8 b c.args.from in
    let l = c.words in
    let w = l.invariant.walked in
    let long = long8 (g.T.Text.part c.args.t.now).storage c.count-count.result b c.requires.storage c.count-count.ensures.value in
    let inside : l.at < size_in Utf8 b = omega (arith, long) in
    let s = scanned g c.args.t.now _ c.args.limit l.at _ _ _ (c.word-word.ensures.kept ∙ l.invariant.same) c.scan_word-scalar.ensures in
    let next = walk_on b c.args.limit first l.at l.reached _ _ _ w inside s (omega (arith, c.if-scalar-gt0.false)) in
    let read = words-more b first (down len_utf8 b l.at) (down len_utf8 b c.scan_word-scalar.result.begins) w.order next.1 next.2
    (λ h. omega (arith, w.fresh h inside, w.reaches.boundary)) in
    record {
      same = c.word-word.ensures.kept ∙ l.invariant.same;
      walked = next.0;
      cost = omega (arith, c.word-word.ensures.cost, l.invariant.cost, read);
    }

pub returns-then-scalar-gt0-clause-stands : goal.returns-then-scalar-gt0-clause-stands
returns-then-scalar-gt0-clause-stands g c =
    let s = scanned g c.args.t.now _ c.args.limit c.words.at _ _ _ (c.word-word.ensures.kept ∙ c.words.invariant.same) c.scan_word-scalar.ensures in
    (s.found (omega (arith, c.if-scalar-gt0.true))).0

pub returns-then-scalar-gt0-clause-cost : goal.returns-then-scalar-gt0-clause-cost
returns-then-scalar-gt0-clause-cost g c =
    let b = (g.T.Text.part c.args.t.now).whole in
    let first = down len_utf8 b c.args.from in
    let l = c.words in
    let w = l.invariant.walked in
    let last = number_at b c.args.limit in
    let long = long8 (g.T.Text.part c.args.t.now).storage c.count-count.result b c.requires.storage c.count-count.ensures.value in
    let inside : l.at < size_in Utf8 b = omega (arith, long) in
    let s = scanned g c.args.t.now _ c.args.limit l.at _ _ _ (c.word-word.ensures.kept ∙ l.invariant.same) c.scan_word-scalar.ensures in
    let found = s.found (omega (arith, c.if-scalar-gt0.true)) in
    let e : suc last - 1 ≡ last = omega arith in
    let read = words-more b first (down len_utf8 b l.at) (suc last) w.order (omega (arith, w.before)) (omega (arith, ap (start len_utf8 b) e, found.0.begins_at, found.1, w.reaches.boundary))
    (λ h. omega (arith, w.fresh h inside, w.reaches.boundary)) in
    omega (arith, c.word-word.ensures.cost, l.invariant.cost, read, through-inside b first last found.2)

pub returns-clause-stands : goal.returns-clause-stands
returns-clause-stands g c =
    let b = (g.T.Text.part c.args.t.now).whole in
    let l = c.words in
    let long = long8 (g.T.Text.part c.args.t.now).storage c.count-count.result b c.requires.storage c.count-count.ensures.value in
    (walk_ends b c.args.limit (down len_utf8 b c.args.from) l.at l.reached l.invariant.walked (omega (arith, long))).0

pub returns-clause-cost : goal.returns-clause-cost
returns-clause-cost g c =
    let b = (g.T.Text.part c.args.t.now).whole in
    let first = down len_utf8 b c.args.from in
    let l = c.words in
    let long = long8 (g.T.Text.part c.args.t.now).storage c.count-count.result b c.requires.storage c.count-count.ensures.value in
    let ends = walk_ends b c.args.limit first l.at l.reached l.invariant.walked (omega (arith, long)) in
    l.invariant.cost ∙ omega (arith, ap (words_begun b first) ends.1, through-end b first (number_at b c.args.limit) (omega (arith, ends.2)))
