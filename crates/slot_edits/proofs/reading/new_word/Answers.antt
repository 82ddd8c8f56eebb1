use Rattle.std.proofs.Common.{◌≡◌, ℕ, List, take, drop, subst, ◌<◌, ◌≤◌, ◌∙◌, sym, ap, ◌+◌, ◌-◌, ◌*◌, length, slice_index, arith}
use Rattle.std.proofs.lemmas.List.{take_all, length-drop, get_or-drop}
use Rattle.slot_edits.specs.Words.{content_bytes}
use Rattle.slot_edits.proofs.Bytes.{length-bytes, front-byte}
use Rattle.slot_edits.proofs.Splices.{splice-with, splice-back}
use Rattle.slot_edits.proofs.reading.new_word.Goals as goal

-- all of them come from behind the part
pub returns-then-begin-end-clause-word : goal.returns-then-begin-end-clause-word
returns-then-begin-end-clause-word g c = record {
  byte = λ i h.
      let known = c.args.reference.now.known in
      let p = c.args.part in
      let inside : p.low ≤ length (content_bytes known p.count) = omega (arith, length-bytes known p.count) in
      let place : p.high + (8 * c.args.k - (p.low + length c.args.with.now)) + i ≡ p.high + (8 * c.args.k + i - (p.low + length c.args.with.now)) = omega arith in
      c.word_at.ensures.word.byte i h ∙ ap (slice_index (content_bytes known p.count)) place
      ∙ sym (splice-back (content_bytes known p.count) c.args.with.now p.low p.high inside (8 * c.args.k + i) (omega arith));
}

-- all of them are new
pub returns-then-begin-end-2-clause-word : goal.returns-then-begin-end-2-clause-word
returns-then-begin-end-2-clause-word g c = record {
  byte = λ i h.
      let known = c.args.reference.now.known in
      let p = c.args.part in
      let inside : p.low ≤ length (content_bytes known p.count) = omega (arith, length-bytes known p.count) in
      let w = c.args.with.now in
      let b = 8 * c.args.k - p.low in
      let rest : take (length w - b) (drop b w) ≡ drop b w = take_all (length w - b) (drop b w) (omega (arith, length-drop b w)) in
      let long : 8 ≤ length (take (length w - b) (drop b w)) = omega (arith, ap length rest, length-drop b w) in
      let place : b + i ≡ 8 * c.args.k + i - p.low = omega arith in
      front-byte (take (length w - b) (drop b w)) _ i
      (λ j. subst (λ (l : List ℕ). slice_index l j < 256) (sym rest) (subst (λ n. n < 256) (sym (get_or-drop b w j 0)) (c.type_inv.with (b + j)).fits)) long c.byte_word.ensures h
      ∙ ap (λ (l : List ℕ). slice_index l i) rest ∙ get_or-drop b w i 0 ∙ ap (slice_index w) place
      ∙ sym (splice-with (content_bytes known p.count) w p.low p.high inside (8 * c.args.k + i) (omega arith) (omega arith));
}
