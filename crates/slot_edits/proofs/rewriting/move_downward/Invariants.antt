use Rattle.std.proofs.Common.{◌≡◌, ◌+◌, ◌-◌, ◌*◌, ◌/◌, ◌≤◌, length}
use Rattle.slot_edits.specs.Writes.{Wrote}
use Rattle.slot_edits.specs.Parts.{spliced}
use Rattle.slot_edits.specs.Words.{content_bytes, HoldsAt, Rewrites}
use Rattle.slot_edits.proofs.rewriting.move_downward.Given as goal

-- the words from this one on are those of the new text, and the last old word is at hand
abbrev pub invariant-words : goal.invariant-words
invariant-words g l = record {
  rewrites : Rewrites l.fn.reference.known (spliced l.fn.reference.known l.part l.with) l.k l.to l.reference.known;
  long : length l.reference.known ≡ length l.fn.reference.known;
  wrote : Wrote (l.to - l.k) l.fn.reference l.reference;
  order : l.from ≤ l.k;
  last : l.k ≤ l.to;
  far : HoldsAt (content_bytes l.fn.reference.known l.part.count) (8 * ((l.part.high + (8 * l.from - (l.part.low + length l.with))) / 8 + (l.k - l.from))) l.far;
}

abbrev pub decreases-words : goal.decreases-words
decreases-words g l = l.k
