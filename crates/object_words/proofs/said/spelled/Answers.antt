use Rattle.std.proofs.Common.{rules, sym, subst, ◌∙◌}
use Rattle.std.specs.Str.{IsUtf8}
use Rattle.object_words.proofs.Forms.{spelled_bytes, small_again}
use Rattle.object_words.proofs.said.spelled.Goals as goal

pub returns-in-Ok : goal.returns-in-Ok
returns-in-Ok c bytes d =
    small_again _ _ bytes _ _ c.small.ensures.found c.small.ensures.row
    (c.as_bytes.ensures.value ∙ (c.in-Ok.ensures.cases.0 ∙ spelled_bytes bytes _ _ _ (search rules) d c.bytes_of-block.ensures)) d

pub returns-in-Err : goal.returns-in-Err
returns-in-Err c bytes d =
    absurd (c.in-Err.ensures.cases.0 (subst IsUtf8 (sym (spelled_bytes bytes _ _ _ (search rules) d c.bytes_of-block.ensures)) d.is_row.2))
