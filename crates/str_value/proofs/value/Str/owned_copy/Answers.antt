use Rattle.std.proofs.Common.{sym, ap, ◌∙◌, length, arith}
use Rattle.text_spec.specs.Text.{utf8, repair}
use Rattle.str_value.proofs.Between.{utf16-kept}
use Rattle.str_value.proofs.Copied.{owned-bytes, owned-units, all-bytes, all-units}
use Rattle.str_value.proofs.Kept.{limit-kept}
use Rattle.str_value.proofs.Spliced.{scalars-kept}
use Rattle.str_value.proofs.value.Str.owned_copy.Goals as goal

pub keep_bytes-requires-clause-utf8 : goal.keep_bytes-requires-clause-utf8
keep_bytes-requires-clause-utf8 c =
    let all = c.in_ok-bytes-in-Utf8.ensures.items ∙ all-bytes _ _ c.args.self.now c.self.invariant c.self.view_is c.count-count.result (sym c.in-Utf8.ensures) c.count-count.ensures.value in
    (c.args.self.now.text, (scalars-kept _ _ c.args.self.now c.self.invariant c.self.view_is, sym all))

pub keep_bytes-requires-clause-limit : goal.keep_bytes-requires-clause-limit
keep_bytes-requires-clause-limit c =
    let all = c.in_ok-bytes-in-Utf8.ensures.items ∙ all-bytes _ _ c.args.self.now c.self.invariant c.self.view_is c.count-count.result (sym c.in-Utf8.ensures) c.count-count.ensures.value in
    omega (arith, ap length all, limit-kept _ _ c.args.self.now c.self.invariant c.self.view_is)

pub returns-in_ok-bytes-in-Utf8-clause-owned : goal.returns-in_ok-bytes-in-Utf8-clause-owned
returns-in_ok-bytes-in-Utf8-clause-owned c =
    let all = c.in_ok-bytes-in-Utf8.ensures.items ∙ all-bytes _ _ c.args.self.now c.self.invariant c.self.view_is c.count-count.result (sym c.in-Utf8.ensures) c.count-count.ensures.value in
    owned-bytes _ _ c.args.self.now c.self.invariant c.self.view_is c.in_ok-bytes-in-Utf8.bytes.items c.keep_bytes.result (sym c.in-Utf8.ensures) all
    c.keep_bytes.ensures.text c.keep_bytes.ensures.row c.keep_bytes.ensures.place

pub keep_units-requires : goal.keep_units-requires
keep_units-requires c =
    let all = c.in_ok-units-in-Utf16.ensures.items ∙ all-units _ _ c.args.self.now c.self.invariant c.self.view_is c.count-count.result c.count-count.ensures.value in
    let kept = utf16-kept _ _ c.args.self.now c.self.invariant c.self.view_is (sym c.in-Utf16.ensures) in
    omega (arith, ap (λ us. length (utf8 (repair us))) all, ap (λ t. length (utf8 t)) kept.text, limit-kept _ _ c.args.self.now c.self.invariant c.self.view_is)

pub returns-in_ok-units-in-Utf16-clause-owned : goal.returns-in_ok-units-in-Utf16-clause-owned
returns-in_ok-units-in-Utf16-clause-owned c =
    let all = c.in_ok-units-in-Utf16.ensures.items ∙ all-units _ _ c.args.self.now c.self.invariant c.self.view_is c.count-count.result c.count-count.ensures.value in
    owned-units _ _ c.args.self.now c.self.invariant c.self.view_is c.in_ok-units-in-Utf16.units.items c.keep_units.result (sym c.in-Utf16.ensures) all
    c.keep_units.ensures.text c.keep_units.ensures.row c.keep_units.ensures.place
