use Rattle.std.proofs.Common.{sym, arith}
use Rattle.str_value.proofs.Between.{utf8-kept, length-part8, part-limit}
use Rattle.str_value.proofs.Kept.{limit-kept}
use Rattle.str_value.proofs.Measuring.{other-part16}
use Rattle.str_value.proofs.value.Str.utf8_length.Goals as goal

pub returns-in-Utf8-clause-value : goal.returns-in-Utf8-clause-value
returns-in-Utf8-clause-value c =
    length-part8 c.args.self.now _ c.args.low c.args.high (utf8-kept _ _ c.args.self.now c.self.invariant c.self.view_is (sym c.in-Utf8.ensures)) c.requires.low c.requires.high c.requires.order

pub returns-in-Utf8-clause-limit : goal.returns-in-Utf8-clause-limit
returns-in-Utf8-clause-limit c =
    let same = length-part8 c.args.self.now _ c.args.low c.args.high (utf8-kept _ _ c.args.self.now c.self.invariant c.self.view_is (sym c.in-Utf8.ensures)) c.requires.low c.requires.high c.requires.order in
    omega (arith, same, part-limit c.args.self.now c.args.low c.args.high, limit-kept _ _ c.args.self.now c.self.invariant c.self.view_is)

pub returns-in-Utf16-clause-value : goal.returns-in-Utf16-clause-value
returns-in-Utf16-clause-value c = other-part16 c.args.self.now c.args.low c.args.high c.measured.result.0 (sym c.in-Utf16.ensures) c.requires.order c.measured.ensures.other

pub returns-in-Utf16-clause-limit : goal.returns-in-Utf16-clause-limit
returns-in-Utf16-clause-limit c =
    let same = other-part16 c.args.self.now c.args.low c.args.high c.measured.result.0 (sym c.in-Utf16.ensures) c.requires.order c.measured.ensures.other in
    omega (arith, same, part-limit c.args.self.now c.args.low c.args.high, limit-kept _ _ c.args.self.now c.self.invariant c.self.view_is)
