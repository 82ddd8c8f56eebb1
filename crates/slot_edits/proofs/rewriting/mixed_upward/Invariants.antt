use Rattle.std.proofs.Common.{◌≡◌, ◌+◌, ◌-◌, max, length}
use Rattle.slot_edits.specs.Writes.{Wrote}
use Rattle.slot_edits.specs.Parts.{spliced}
use Rattle.slot_edits.specs.Words.{Rewrites}
use Rattle.slot_edits.proofs.rewriting.mixed_upward.Given as goal

-- the words so far are those of the new text
abbrev pub invariant-loop-k : goal.invariant-loop-k
invariant-loop-k g l = record {
  rewrites : Rewrites l.fn.reference.known (spliced l.fn.reference.known l.part l.with) l.from l.k l.reference.known;
  long : length l.reference.known ≡ max (length l.fn.reference.known) (l.k + 1);
  wrote : Wrote (l.k - l.from) l.fn.reference l.reference;
}
