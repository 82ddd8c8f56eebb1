use Rattle.std.proofs.Common.{arith}
use Rattle.char_view.proofs.Indexing.{word_built}
use Rattle.char_view.proofs.indices.index_between.Goals as goal

pub returns : goal.returns
returns c =
    word_built c.fields_are_read_back.ensures.fields c.args.storage c.args.from c.args.to c.new.result c.with_scalar_aligned.result c.with_character_aligned-index.result c.with_stride.result
    c.requires.from_in (omega (arith, c.if-length-gt63.false)) c.new.ensures c.with_scalar_aligned.ensures c.with_character_aligned-index.ensures c.with_stride.ensures
