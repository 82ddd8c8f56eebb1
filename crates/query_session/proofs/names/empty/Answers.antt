use Rattle.std.proofs.Common.{refl, ap, ◌∙◌, [], Err, arith}
use Rattle.query_session.proofs.names.empty.Goals as goal

-- no bytes are the UTF-8 of the empty text
pub unreachable-requires-in-Err-NotUtf8 : goal.unreachable-requires-in-Err-NotUtf8
unreachable-requires-in-Err-NotUtf8 c =
    ((c.from_utf8.ensures.not_utf8 c.in-Err-NotUtf8.field-0-0).0 (c.in-Err-NotUtf8.is ∙ ap Err c.in-Err-NotUtf8.field-0-is)).0 ([], (refl, refl))

-- and within the limit
pub unreachable-requires-in-Err-TooLong : goal.unreachable-requires-in-Err-TooLong
unreachable-requires-in-Err-TooLong c =
    let long = (c.from_utf8.ensures.too_long c.in-Err-TooLong.field-0-0).0 (c.in-Err-TooLong.is ∙ ap Err c.in-Err-TooLong.field-0-is) in
    omega (arith, long.1, long.2)
