use Rattle.str_value.proofs.Kept.{crumbs-utf8}
use Rattle.str_value.proofs.text.StrText.crumbs_known.Goals as goal

pub returns-clause-storage : goal.returns-clause-storage
returns-clause-storage c = crumbs-utf8 _ _ c.args.self.now c.self.invariant c.self.view_is
