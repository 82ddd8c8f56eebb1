use Rattle.std.proofs.Common.{◌≡◌, refl, sym, ap, subst, ◌∙◌, ◌+◌, ◌-◌, ◌*◌, ◌/◌, ◌%◌, min, get_or, arith}
use Rattle.word_units.specs.Counting.{units_within}
use Rattle.crumbs.specs.Counting.{Seen}
use Rattle.crumbs.proofs.Seeing.{seen_none, seen_word, seen_end, place_of_word}
use Rattle.crumbs.proofs.counting.count_units.Goals as goal

pub words-init : goal.words-init
words-init g c =
    let b = (g.T.Text.part c.args.t.now).whole in
    let first : 0 ≡ place_of_word c.count-count.result 0 = omega arith in
    record { same = refl; seen = subst (λ p. Seen b p 0) first (seen_none b); few = omega arith; cost = omega arith }

pub words-preserved : goal.words-preserved
words-preserved g c =
    let ws = g.T.Text.words c.args.t.now in
    let l = c.words in
    let b = (g.T.Text.part c.args.t.now).whole in
    let word : c.word-word.result ≡ get_or ws l.k 0 = c.word-word.ensures.value ∙ ap (λ v. get_or (g.T.Text.words v) l.k 0) l.invariant.same in
    let seen = seen_word (g.T.Text.part c.args.t.now).storage ws c.count-count.result b l.k l.reached c.word-word.result 8
    c.requires.storage c.count-count.ensures.value c.count-count.ensures.denotes l.invariant.seen (omega arith) word (omega arith) in
    let units : l.reached + units_within 8 c.word-word.result ≡ l.reached + c.units_in-reached.result = omega (arith, c.units_in-reached.ensures.value) in
    record {
      same = c.word-word.ensures.kept ∙ l.invariant.same;
      seen = subst (Seen b (place_of_word c.count-count.result (l.k + 1))) units seen;
      few = omega (arith, c.units_in-reached.ensures.few);
      cost = omega arith;
    }

pub returns-then-left-eq0-clause-units : goal.returns-then-left-eq0-clause-units
returns-then-left-eq0-clause-units g c =
    seen_end (g.T.Text.part c.args.t.now).storage c.count-count.result (g.T.Text.part c.args.t.now).whole (place_of_word c.count-count.result c.words.k) c.words.reached
    c.requires.storage c.count-count.ensures.value c.words.invariant.seen (omega arith)

pub returns-clause-units : goal.returns-clause-units
returns-clause-units g c =
    let ws = g.T.Text.words c.args.t.now in
    let l = c.words in
    let n = c.count-count.result in
    let b = (g.T.Text.part c.args.t.now).whole in
    let k : n / 8 ≡ l.k = omega arith in
    let word : c.word-word-2.result ≡ get_or ws l.k 0 = c.word-word-2.ensures.value ∙ ap (λ v. get_or (g.T.Text.words v) (n / 8) 0) l.invariant.same ∙ ap (λ i. get_or ws i 0) k in
    let size : n % 8 ≡ min 8 (n - 8 * l.k) = omega arith in
    let seen = seen_word (g.T.Text.part c.args.t.now).storage ws n b l.k l.reached c.word-word-2.result (n % 8)
    c.requires.storage c.count-count.ensures.value c.count-count.ensures.denotes l.invariant.seen (omega arith) word size in
    let few : min 8 (n % 8) ≡ n % 8 = omega arith in
    let units : l.reached + units_within (n % 8) c.word-word-2.result ≡ l.reached + c.units_before.result =
    ap (λ u. l.reached + u) (ap (λ m. units_within m c.word-word-2.result) (sym few) ∙ sym c.units_before.ensures.value) in
    seen_end (g.T.Text.part c.args.t.now).storage n b (place_of_word n (l.k + 1)) (l.reached + c.units_before.result)
    c.requires.storage c.count-count.ensures.value (subst (Seen b (place_of_word n (l.k + 1))) units seen) (omega arith)
