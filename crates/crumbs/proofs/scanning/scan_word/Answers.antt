use Rattle.std.proofs.Common.{◌≡◌, sym, ◌∙◌, ◌/◌, inl, inr, ⊎_elim, arith}
use Rattle.word_units.proofs.Passing.{passes_all}
use Rattle.crumbs.proofs.Seeing.{long8}
use Rattle.crumbs.proofs.Scans.{scan_begins, scan_more, scan_found, scan_ends}
use Rattle.crumbs.proofs.scanning.scan_word.Goals as goal

pub scalars-init : goal.scalars-init
scalars-init g c = scan_begins (g.T.Text.part c.args.t.now).whole c.args.limit c.args.at c.args.units c.requires.begun c.requires.inside c.requires.order

pub scalars-preserved : goal.scalars-preserved
scalars-preserved g c =
    let near : c.scalars.begins / 8 ≡ c.args.at / 8 = omega (arith, c.scalars.invariant.order, c.end_of_word-stop.ensures.near) in
    scan_more (g.T.Text.part c.args.t.now).whole c.args.limit c.args.at c.scalars.begins c.scalars.reached _ _ c.scalars.invariant (passes_all _ _ _ _ _ c.requires.storage c.pass_lead-end.ensures.passes) near
    (sym c.is_behind.ensures ∙ c.if-is_behind.false)

pub returns-then-is_behind : goal.returns-then-is_behind
returns-then-is_behind g c =
    let near : c.scalars.begins / 8 ≡ c.args.at / 8 = omega (arith, c.scalars.invariant.order, c.end_of_word-stop.ensures.near) in
    scan_found (g.T.Text.part c.args.t.now).whole c.args.limit c.args.at c.scalars.begins c.scalars.reached _ _ c.scalars.invariant (passes_all _ _ _ _ _ c.requires.storage c.pass_lead-end.ensures.passes) near
    (sym c.is_behind.ensures ∙ c.if-is_behind.true)

pub returns : goal.returns
returns g c =
    let b = (g.T.Text.part c.args.t.now).whole in
    let long = long8 (g.T.Text.part c.args.t.now).storage c.count.result b c.requires.storage c.count.ensures.value in
    scan_ends b c.args.limit c.args.at c.scalars.begins c.scalars.reached c.end_of_word-stop.result c.scalars.invariant c.end_of_word-stop.ensures.inside.0 (omega arith)
    (⊎_elim (λ h. inl (h ∙ long)) (λ h. inr h) c.end_of_word-stop.ensures.end)
