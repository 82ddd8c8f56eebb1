use Rattle.std.proofs.Common.{◌≡◌, refl, sym, ap, subst, ◌∙◌, ◌+◌, ◌*◌, ◌/◌, ◌<◌, ◌≤◌, arith}
use Rattle.index_words.specs.Crumbs.{size16, index16}
use Rattle.index_words.specs.Fields.{place_of}
use Rattle.crumbs.specs.Searching.{IsLastCrumb}
use Rattle.crumbs.proofs.Crumbing.{last_crumb}
use Rattle.crumbs.proofs.asking.near.Goals as goal

pub returns-clause-last : goal.returns-clause-last
returns-clause-last g c =
    let b = (g.T.Text.part c.args.t.now).whole in
    let n = g.T.Text.STRIDE in
    let number = c.last_before-number.result in
    let e = c.last_before-number.ensures in
    let same = c.length16.ensures.kept in
    let most : c.length16.result / c.stride-stride.result ≡ size16 b / n = rw (c.length16.ensures.value, c.stride-stride.ensures) refl in
    let found : IsLastCrumb b n c.args.i (number * n) c.crumb.result =
    last_crumb b n c.args.i number c.crumb.result c.requires.some (omega (arith, most, e.within))
    (c.crumb.ensures.value ∙ ap (λ t. index16 (g.T.Text.part t).whole (number * n)) (e.kept ∙ same))
    (subst (λ t. place_of (index16 (g.T.Text.part t).whole (number * n)) ≤ place_of c.args.i) same e.before)
    (λ h. subst (λ t. place_of c.args.i < place_of (index16 (g.T.Text.part t).whole ((number + 1) * n))) same (e.after (omega (arith, most, h)))) in
    subst (λ s. IsLastCrumb b n c.args.i (number * s) c.crumb.result) (sym c.stride-stride.ensures) found
