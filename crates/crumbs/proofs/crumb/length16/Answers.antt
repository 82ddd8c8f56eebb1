use Rattle.std.proofs.Common.{◌≡◌, ◌<◌, length, arith}
use Rattle.index_words.specs.Crumbs.{size16, crumbs}
use Rattle.crumbs.proofs.Crumbing.{size16-le}
use Rattle.crumbs.proofs.crumb.length16.Goals as goal

pub returns-clause-small : goal.returns-clause-small
returns-clause-small g c =
    let b = (g.T.Text.part c.args.t.now).whole in
    let some : 0 < length (crumbs b g.T.Text.STRIDE) = omega arith in
    let is : c.crumb_word.result ≡ size16 b = c.crumb_word.ensures.value c.requires.known some in
    omega (arith, is, size16-le (g.T.Text.part c.args.t.now).storage b)
