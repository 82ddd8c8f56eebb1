use Rattle.text_spec.proofs.Denoting.{denoted_size}
use Rattle.word_units.proofs.Owned.{text_of-denoted}
use Rattle.word_units.proofs.vec_text.VecTextText.count.Goals as goal

pub returns-clause-value : goal.returns-clause-value
returns-clause-value c = rw (← c.self.view_is) (denoted_size _ _ _ _ (text_of-denoted _ _ _ c.self.invariant.1))
