use Rattle.std.proofs.Common.{◌≡◌, ◌+◌, ◌-◌, ◌*◌, ◌/◌, length}
use Rattle.slot_edits.specs.Parts.{spliced}
use Rattle.slot_edits.specs.Texts.{begun}
use Rattle.slot_edits.specs.Words.{content_bytes, HoldsAt}
use Rattle.slot_edits.proofs.copying.fill_moved.Given as goal

abbrev pub invariant-loop-k : goal.invariant-loop-k
invariant-loop-k g l = record {
  kept : l.reference ≡ l.fn.reference;
  words : l.draft ≡ record l.fn.draft { written = begun (spliced l.fn.reference.known l.part l.with) l.k };
  near : HoldsAt (content_bytes l.fn.reference.known l.part.count) (8 * ((l.part.high + (8 * l.from - (l.part.low + length l.with))) / 8 + (l.k - l.from))) l.near;
}
