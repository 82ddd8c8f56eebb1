use Rattle.std.proofs.Common.{◌≡◌, ◌-◌, ◌≤◌, length}
use Rattle.slot_edits.specs.Writes.{Wrote}
use Rattle.slot_edits.specs.Parts.{spliced}
use Rattle.slot_edits.specs.Words.{Rewrites}
use Rattle.slot_edits.proofs.rewriting.mixed_downward.Given as goal

-- the words from this one on are those of the new text
abbrev pub invariant-words : goal.invariant-words
invariant-words g l = record {
  rewrites : Rewrites l.fn.reference.known (spliced l.fn.reference.known l.part l.with) l.k l.to l.reference.known;
  long : length l.reference.known ≡ length l.fn.reference.known;
  wrote : Wrote (l.to - l.k) l.fn.reference l.reference;
  order : l.from ≤ l.k;
  last : l.k ≤ l.to;
}

abbrev pub decreases-words : goal.decreases-words
decreases-words g l = l.k
