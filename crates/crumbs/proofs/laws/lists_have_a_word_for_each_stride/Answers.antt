use Rattle.crumbs.proofs.Crumbing.{length-crumbs}
use Rattle.crumbs.proofs.laws.lists_have_a_word_for_each_stride.Goals as goal

pub returns : goal.returns
returns c = record { words = length-crumbs }
