use Rattle.std.proofs.Common.{◌≡◌, true, false, ◌∙◌, ◌*◌, arith}
use Rattle.index_words.specs.Crumbs.{size16}
use Rattle.crumbs.proofs.Crumbing.{size16-le, quotient_le, multiple_in, index16-word, crumb_read}
use Rattle.crumbs.proofs.crumb.crumb.Goals as goal

pub overflow_add-number : goal.overflow_add-number
overflow_add-number g c =
    let b = (g.T.Text.part c.args.t.now).whole in
    omega (arith, size16-le (g.T.Text.part c.args.t.now).storage b, quotient_le (size16 b) g.T.Text.STRIDE c.requires.some)

-- the word is that of the breadcrumb, and so an index word
pub unreachable-requires : goal.unreachable-requires
unreachable-requires g c =
    let b = (g.T.Text.part c.args.t.now).whole in
    let n = g.T.Text.STRIDE in
    let word = crumb_read b n c.args.number c.crumb_word-word.result c.requires.inside (c.crumb_word-word.ensures.value c.requires.known) in
    let w = index16-word b (c.args.number * n) (multiple_in (size16 b) n c.args.number c.requires.inside) in
    let no : false ≡ true = c.in-None.ensures.found.1 (rw word w.is_index) in
    cc

pub returns-clause-value : goal.returns-clause-value
returns-clause-value g c =
    c.in-Some.ensures.same
    ∙ crumb_read (g.T.Text.part c.args.t.now).whole g.T.Text.STRIDE c.args.number c.crumb_word-word.result c.requires.inside (c.crumb_word-word.ensures.value c.requires.known)
