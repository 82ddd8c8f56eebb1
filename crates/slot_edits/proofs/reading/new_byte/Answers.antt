use Rattle.std.proofs.Common.{◌≤◌, ◌∙◌, sym, length, arith}
use Rattle.slot_edits.specs.Words.{content_bytes}
use Rattle.slot_edits.proofs.Bytes.{length-bytes}
use Rattle.slot_edits.proofs.Splices.{splice-front, splice-with, splice-back}
use Rattle.slot_edits.proofs.reading.new_byte.Goals as goal

pub returns-then-p-part-clause-byte : goal.returns-then-p-part-clause-byte
returns-then-p-part-clause-byte g c =
    let known = c.args.reference.now.known in
    let p = c.args.part in
    let inside : p.low ≤ length (content_bytes known p.count) = omega (arith, length-bytes known p.count) in
    c.old_byte.ensures.byte ∙ sym (splice-front (content_bytes known p.count) c.args.with.now p.low p.high inside c.args.p (omega arith))

pub returns-then-p-end-clause-byte : goal.returns-then-p-end-clause-byte
returns-then-p-end-clause-byte g c =
    let known = c.args.reference.now.known in
    let p = c.args.part in
    let inside : p.low ≤ length (content_bytes known p.count) = omega (arith, length-bytes known p.count) in
    sym (splice-with (content_bytes known p.count) c.args.with.now p.low p.high inside c.args.p (omega arith) (omega arith))

pub returns-else-p-end-clause-byte : goal.returns-else-p-end-clause-byte
returns-else-p-end-clause-byte g c =
    let known = c.args.reference.now.known in
    let p = c.args.part in
    let inside : p.low ≤ length (content_bytes known p.count) = omega (arith, length-bytes known p.count) in
    c.old_byte-else-p-end.ensures.byte ∙ sym (splice-back (content_bytes known p.count) c.args.with.now p.low p.high inside c.args.p (omega arith))
