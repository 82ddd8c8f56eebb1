use Rattle.std.proofs.Common.{rules}
use Rattle.slot_table.proofs.Looking.{reads_allowed}
use Rattle.slot_table.proofs.reference.Ref.read.Goals as goal

pub load-requires : goal.load-requires
load-requires g c = (search rules, search rules, reads_allowed g.A.Attach.fits _ _ _ _ _ _ c.self.invariant.1.role)
