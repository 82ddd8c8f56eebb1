use Rattle.slot_table.proofs.Rewriting.{reads_last}
use Rattle.slot_table.proofs.laws.last_write_is_read.Goals as goal

pub returns : goal.returns
returns c = reads_last
