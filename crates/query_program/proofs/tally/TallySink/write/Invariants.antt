use Rattle.std.proofs.Common.{◌≡◌, ◌++◌, take}
use Rattle.query_program.proofs.tally.TallySink.write.Given as goal

abbrev pub invariant-loop-byte : goal.invariant-loop-byte
invariant-loop-byte l = (l.self.written ≡ l.fn.self.written ++ take l.byte-index l.buf) × (l.self.faults ≡ l.fn.self.faults)
