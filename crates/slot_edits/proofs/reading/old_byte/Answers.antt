use Rattle.std.proofs.Common.{◌∙◌, sym, ap, ◌*◌, ◌/◌, ◌%◌, ◌^◌, arith}
use Rattle.slot_edits.proofs.Bytes.{bytes-past, bytes-below, content-at}
use Rattle.slot_edits.proofs.reading.old_byte.Goals as goal

pub returns-then-p-count-clause-byte : goal.returns-then-p-count-clause-byte
returns-then-p-count-clause-byte g c = sym (bytes-past c.args.reference.now.known c.args.count c.args.p (omega arith))

pub returns-clause-byte : goal.returns-clause-byte
returns-clause-byte g c =
    c.byte_in.ensures ∙ ap (λ w. w / 2 ^ (8 * (c.args.p % 8)) % 256) c.read-word.ensures.word ∙ sym (bytes-below c.args.reference.now.known c.args.count c.args.p (omega arith) ∙ content-at c.args.reference.now.known c.args.p)
