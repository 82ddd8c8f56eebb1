use Rattle.std.proofs.Common.{sym, ap, ◌∙◌, ◌∷◌, ◌++◌, [], length, map, arith}
use Rattle.std.specs.List.{range_with_len}
use Rattle.std.proofs.lemmas.List.FromFn.{map-range_with_len_more, length-map-range_with_len}
use Rattle.slot_table.specs.Owners.{DraftSeen}
use Rattle.word_units.specs.Packing.{byte_word}
use Rattle.str_value.proofs.making_utf8.write_utf8.Goals as goal

pub write-requires-in-loop-k : goal.write-requires-in-loop-k
write-requires-in-loop-k g c =
    omega (
      arith,
      ap (λ (d : DraftSeen). length d.written) c.loop-k.invariant,
      ap (λ (d : DraftSeen). d.heap.layout.capacity_words) c.loop-k.invariant,
      length-map-range_with_len (byte_word c.args.bytes.now) 0 c.loop-k.k,
      c.requires.room,
      c.loop-k-test.true,
    )

pub loop-k-preserved : goal.loop-k-preserved
loop-k-preserved g c =
    let f = byte_word c.args.bytes.now in
    let k = c.loop-k.k in
    c.write-in-loop-k.ensures
    ∙ ap (λ (d : DraftSeen). record d { written = d.written ++ c.byte_word.result ∷ [] }) c.loop-k.invariant
    ∙ ap (λ w. record c.args.draft.now { written = c.args.head ∷ (map f (range_with_len 0 k) ++ w ∷ []) }) c.byte_word.ensures
    ∙ ap (λ ws. record c.args.draft.now { written = c.args.head ∷ ws }) (sym (map-range_with_len_more f 0 k k (omega arith)))
