use Rattle.std.proofs.Common.{sym, ap, ◌∙◌, ℕ, arith}
use Rattle.word_units.specs.declared.bounds.OutOfBounds.{OutOfBounds}
use Rattle.utf16_view.proofs.Starting.{count_is, index_found}
use Rattle.utf16_view.proofs.from_crumbs.index_from_crumb.Goals as goal

pub returns-in-Ok-clause-index : goal.returns-in-Ok-clause-index
returns-in-Ok-clause-index g c =
    let all = c.crumbs_known-known.ensures.all c.requires.known in
    let t = g.T.Text.part c.args.t.now in (
      omega (arith, count_is t.whole t.first t.end all.0 all.1, c.in-Ok.ensures.index.0),
      index_found t.storage t.whole t.first t.end c.args.offset c.in-Ok.index (c.crumbs_known-known.ensures.storage c.requires.known) all.0 c.in-Ok.ensures.index.1,
    )

abbrev out : ℕ → ℕ → OutOfBounds
out offset count = record { position = offset; low = 0; high = count }

pub returns-in-Err-clause-refused : goal.returns-in-Err-clause-refused
returns-in-Err-clause-refused g c =
    let all = c.crumbs_known-known.ensures.all c.requires.known in
    let t = g.T.Text.part c.args.t.now in
    let count = count_is t.whole t.first t.end all.0 all.1 in (
      omega (arith, count, c.in-Err.ensures.refused.0),
      c.in-Err.ensures.refused.1 ∙ ap (λ n. out c.args.offset n) (sym count),
    )
