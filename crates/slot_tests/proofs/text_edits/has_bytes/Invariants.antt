use Rattle.std.proofs.Common.{◌≡◌}
use Rattle.slot_tests.proofs.text_edits.has_bytes.Given as goal

abbrev pub invariant-loop-p : goal.invariant-loop-p
invariant-loop-p l = l.text ≡ l.fn.text
