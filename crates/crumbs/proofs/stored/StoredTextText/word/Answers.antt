use Rattle.std.proofs.Common.{sym, ap, ◌∙◌, ◌+◌, drop, get_or, arith}
use Rattle.std.proofs.lemmas.List.{get_or_default, get_or-drop}
use Rattle.crumbs.proofs.Sampling.{word_in}
use Rattle.crumbs.proofs.stored.StoredTextText.word.Goals as goal

pub overflow_add-k : goal.overflow_add-k
overflow_add-k g c = omega (arith, (word_in _ _ _ _ c.args.k c.self.invariant c.self.view_is c.requires).1)

pub index-requires : goal.index-requires
index-requires g c = omega (arith, (word_in _ _ _ _ c.args.k c.self.invariant c.self.view_is c.requires).0)

pub returns-clause-value : goal.returns-clause-value
returns-clause-value g c =
    let inside = (word_in _ _ _ _ c.args.k c.self.invariant c.self.view_is c.requires).0 in
    c.index.ensures
    ∙ get_or_default c.self.inside.stored.items (c.args.k + 1) c.index.result.now 0 inside
    ∙ ap (λ i. get_or c.self.inside.stored.items i 0) {x = c.args.k + 1} {y = 1 + c.args.k} (omega arith)
    ∙ sym (get_or-drop 1 c.self.inside.stored.items c.args.k 0)
    ∙ ap (λ v. get_or (drop 1 (v.0)) c.args.k 0) c.self.view_is
