use Rattle.std.proofs.Common.{◌≡◌, ◌+◌, ◌-◌, ◌*◌, ◌/◌, max, length}
use Rattle.slot_edits.specs.Writes.{Wrote}
use Rattle.slot_edits.specs.Parts.{spliced}
use Rattle.slot_edits.specs.Words.{content_bytes, HoldsAt, Rewrites}
use Rattle.slot_edits.proofs.rewriting.move_upward.Given as goal

-- the words so far are those of the new text, and the next old word is at hand
abbrev pub invariant-loop-k : goal.invariant-loop-k
invariant-loop-k g l = record {
  rewrites : Rewrites l.fn.reference.known (spliced l.fn.reference.known l.part l.with) l.from l.k l.reference.known;
  long : length l.reference.known ≡ max (length l.fn.reference.known) (l.k + 1);
  wrote : Wrote (l.k - l.from) l.fn.reference l.reference;
  near : HoldsAt (content_bytes l.fn.reference.known l.part.count) (8 * ((l.part.high + (8 * l.from - (l.part.low + length l.with))) / 8 + (l.k - l.from))) l.near;
}
