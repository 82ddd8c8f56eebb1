use Rattle.std.proofs.Common.{◌≡◌, sym, ap, subst, ◌∙◌, ◌+◌, ◌<◌, ◌≤◌, get_or, take, arith}
use Rattle.std.specs.Char.{len_utf8}
use Rattle.text_spec.specs.Offsets.{start, down}
use Rattle.text_spec.specs.Views.{width_in, size_in}
use Rattle.text_spec.proofs.Walk.{start-le}
use Rattle.word_units.specs.Filling.{IsPiece}
use Rattle.word_units.proofs.FillingLemmas.{reaches}
use Rattle.word_units.proofs.fill.fill_backward.Given.{Over}
use Rattle.word_units.proofs.fill.fill_backward.Goals as goal

pub reach_back-from-requires-clause-inside : goal.reach_back-from-requires-clause-inside
reach_back-from-requires-clause-inside g c =
    omega (arith, c.requires.high, start-le (width_in (g.T.Text.part c.args.t.now).storage) (g.T.Text.part c.args.t.now).whole (g.T.Text.part c.args.t.now).end)

pub fill-size-requires-clause-inside : goal.fill-size-requires-clause-inside
fill-size-requires-clause-inside g c =
    subst (λ t. c.args.p ≤ size_in (g.T.Text.part t).storage (g.T.Text.part t).whole) (sym c.reach_back-from.ensures.kept)
    (omega (arith, c.requires.high, start-le (width_in (g.T.Text.part c.args.t.now).storage) (g.T.Text.part c.args.t.now).whole (g.T.Text.part c.args.t.now).end))

-- what was written, of the text as it was
piece : (g : Over) (c : goal.After-fill-size g)
    → IsPiece (g.T.Text.part c.args.t.now) c.reach_back-from.result c.fill-size.result.1 (take c.fill-size.result.0 c.fill-size.new.buf)
piece g c =
    subst (λ t. IsPiece (g.T.Text.part t) c.reach_back-from.result c.fill-size.result.1 (take c.fill-size.result.0 c.fill-size.new.buf))
    c.reach_back-from.ensures.kept c.fill-size.ensures.piece

size : (g : Over) (c : goal.After-fill-size g) → let w = width_in (g.T.Text.part c.args.t.now).storage in let b = (g.T.Text.part c.args.t.now).whole in
    start len_utf8 b (down w b c.reach_back-from.result) + c.fill-size.result.0 ≡ start len_utf8 b (down w b c.fill-size.result.1)
size g c =
    subst (λ t. start len_utf8 (g.T.Text.part t).whole (down (width_in (g.T.Text.part t).storage) (g.T.Text.part t).whole c.reach_back-from.result) + c.fill-size.result.0
    ≡ start len_utf8 (g.T.Text.part t).whole (down (width_in (g.T.Text.part t).storage) (g.T.Text.part t).whole c.fill-size.result.1))
    c.reach_back-from.ensures.kept c.fill-size.ensures.size

-- there was room for all of it
all : (g : Over) (c : goal.After-fill-size g) → c.fill-size.result.1 ≡ c.args.p
all g c =
    let r = c.fill-size.result in
    let inside : c.args.p ≤ size_in (g.T.Text.part c.args.t.now).storage (g.T.Text.part c.args.t.now).whole = omega (arith, c.requires.high, start-le (width_in (g.T.Text.part c.args.t.now).storage) (g.T.Text.part c.args.t.now).whole (g.T.Text.part c.args.t.now).end) in
    let written = piece g c in
    reaches (g.T.Text.part c.args.t.now).storage (g.T.Text.part c.args.t.now).whole c.reach_back-from.result c.args.p r.1 r.0 c.fill-size.ensures.within inside written.end_boundary c.requires.boundary
    (size g c) c.reach_back-from.ensures.fits
    (subst (λ t. r.1 < c.args.p → 64 < r.0 + len_utf8 (get_or (g.T.Text.part t).whole (down (width_in (g.T.Text.part t).storage) (g.T.Text.part t).whole r.1) 0))
    c.reach_back-from.ensures.kept c.fill-size.ensures.most)

pub returns-clause-piece : goal.returns-clause-piece
returns-clause-piece g c =
    subst (λ to. IsPiece (g.T.Text.part c.args.t.now) c.reach_back-from.result to (take c.fill-size.result.0 c.fill-size.new.buf)) (all g c) (piece g c)

pub returns-clause-size : goal.returns-clause-size
returns-clause-size g c =
    size g c ∙ ap (λ p. start len_utf8 (g.T.Text.part c.args.t.now).whole (down (width_in (g.T.Text.part c.args.t.now).storage) (g.T.Text.part c.args.t.now).whole p)) (all g c)

pub returns-clause-most : goal.returns-clause-most
returns-clause-most g c = λ above. omega (arith, returns-clause-size g c, c.reach_back-from.ensures.most above)
