use Rattle.std.proofs.Common.{◌<◌, ◌+◌, subst, suc, arith, ◌≡◌}
use Rattle.text_spec.proofs.Walk.{start-zero}
use Rattle.char_view.specs.Characters.{character_sizes, character_start}
use Rattle.char_view.proofs.Cuts.{start-more, start-count}
use Rattle.char_view.proofs.laws.characters_make_up_the_text.Goals as goal

pub returns-clause-first : goal.returns-clause-first
returns-clause-first c = λ text. start-zero (λ size. size) (character_sizes text)

pub returns-clause-increase : goal.returns-clause-increase
returns-clause-increase c = λ text n h.
    let next : suc n ≡ n + 1 = omega arith in
    subst (λ m. character_start text n < character_start text m) next (start-more text n h)

pub returns-clause-last : goal.returns-clause-last
returns-clause-last c = λ text. start-count text
