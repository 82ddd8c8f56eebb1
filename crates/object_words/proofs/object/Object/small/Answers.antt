use Rattle.std.proofs.Common.{rules, w64, take, drop, ap, ◌∙◌}
use Rattle.std.specs.Int.{from_le_bytes}
use Rattle.object_words.specs.Rows.{small, Describes}
use Rattle.object_words.proofs.Reading.{pair}
use Rattle.object_words.proofs.object.Object.small.Goals as goal

described : (c : goal.After-word_of-2) → Describes (small c.args.bytes.now) (c.word_of.result, c.word_of-2.result)
described c = record {
  is_row = (c.if-bytes-gt-SMALL_CAPACITY.false, λ i. search (rules, c.type_inv.bytes i), c.requires);
  says = pair (c.word_of.ensures ∙ (ap (from_le_bytes w64) c.split_at.ensures.front ∙ ap (λ block. from_le_bytes w64 (take 8 block)) c.small_bytes-block.ensures))
      (c.word_of-2.ensures ∙ (ap (from_le_bytes w64) c.split_at.ensures.back ∙ ap (λ block. from_le_bytes w64 (drop 8 block)) c.small_bytes-block.ensures));
}

pub invariant_of-result : goal.invariant_of-result
invariant_of-result c = (small c.args.bytes.now, described c)
