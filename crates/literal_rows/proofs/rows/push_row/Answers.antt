use Rattle.std.proofs.Common.{sym, ap, ◌∙◌, ◌∷◌, ◌++◌, [], List, ℕ, arith, append_assoc, map}
use Rattle.std.specs.List.{range_with_len}
use Rattle.std.proofs.lemmas.List.FromFn.{map-range_with_len_more}
use Rattle.word_units.specs.Packing.{byte_word}
use Rattle.literal_rows.specs.Rows.{row_head}
use Rattle.literal_rows.proofs.rows.push_row.Goals as goal

-- one word more is the next content word
pub loop-k-preserved : goal.loop-k-preserved
loop-k-preserved c =
    c.in_ok-push-2.ensures.items
    ∙ rw (c.loop-k.invariant, c.byte_word.ensures, c.as_bytes-bytes.ensures.value)
    (append_assoc c.args.words.now.items (row_head c.args.text.now ∷ map (byte_word c.args.text.now) (range_with_len 0 c.loop-k.k)) (byte_word c.args.text.now c.loop-k.k ∷ [])
    ∙ ap (λ (more : List ℕ). c.args.words.now.items ++ row_head c.args.text.now ∷ more) (sym (map-range_with_len_more (byte_word c.args.text.now) 0 c.loop-k.k c.loop-k.k (omega arith))))
