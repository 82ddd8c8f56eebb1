use Rattle.std.proofs.Common.{◌≡◌, ◌++◌, ◌*◌, take}
use Rattle.str_value.proofs.byte_writer.ByteWriter.push.Given as goal

abbrev pub invariant-loop-k : goal.invariant-loop-k
invariant-loop-k l = l.self ≡ record l.fn.self { bytes = l.fn.self.bytes ++ take (8 * l.k) l.bytes }
