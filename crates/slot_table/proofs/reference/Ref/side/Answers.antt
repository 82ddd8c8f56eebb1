use Rattle.std.proofs.Common.{rules}
use Rattle.slot_table.proofs.Seeing.{side_reads_allowed}
use Rattle.slot_table.proofs.reference.Ref.side.Goals as goal

pub load-requires : goal.load-requires
load-requires g c = (search rules, search rules, side_reads_allowed g.A.Attach.fits _ _ _ _ _ _ c.self.invariant.1.role)
