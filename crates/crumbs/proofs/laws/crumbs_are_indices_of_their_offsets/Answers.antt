use Rattle.std.proofs.Common.{◌∙◌, ◌*◌}
use Rattle.crumbs.proofs.Crumbing.{crumbs-at}
use Rattle.crumbs.proofs.Indexed.{index_is}
use Rattle.crumbs.proofs.laws.crumbs_are_indices_of_their_offsets.Goals as goal

pub returns : goal.returns
returns c = record { index = λ text n j within. crumbs-at text n j within ∙ index_is text (j * n) }
