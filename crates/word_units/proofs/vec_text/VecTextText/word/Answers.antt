use Rattle.std.proofs.Common.{ap, ◌∙◌, get_or, arith}
use Rattle.std.proofs.lemmas.List.{get_or_default}
use Rattle.word_units.proofs.Owned.{word_inside}
use Rattle.word_units.proofs.vec_text.VecTextText.word.Goals as goal

-- the vector holds as many words as the code units take
pub index-requires : goal.index-requires
index-requires g c = omega (arith, word_inside _ _ _ _ c.args.k c.self.invariant.1 c.self.view_is c.requires)

pub returns-clause-value : goal.returns-clause-value
returns-clause-value g c =
    c.index.ensures
    ∙ get_or_default c.self.inside.words.items c.args.k c.index.result.now 0 (word_inside _ _ _ _ c.args.k c.self.invariant.1 c.self.view_is c.requires)
    ∙ ap (λ t. get_or (t.0) c.args.k 0) c.self.view_is
