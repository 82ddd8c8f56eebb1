use Rattle.std.proofs.Common.{true, false, ap, ◌∙◌, length}
use Rattle.object_words.specs.CountWord.{count_word}
use Rattle.object_words.proofs.Reading.{ascii-told}
use Rattle.literal_rows.proofs.rows.row_head.Goals as goal

pub returns : goal.returns
returns c =
    let told = ascii-told c.is_ascii-ascii.result c.args.text.now c.is_ascii-ascii.ensures.cases in
    c.count_word.ensures ∙ ap (λ ascii. count_word ascii ascii false true false (length c.args.text.now)) told
