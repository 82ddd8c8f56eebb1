use Rattle.std.proofs.Common.{sym, ap, ◌∙◌, Some, true≢false}
use Rattle.canon_order.specs.Equivalence.{order_of}
use Rattle.std.proofs.lemmas.Result.{IfOk-weaker}
use Rattle.query_session.specs.State.{text_of, is_in_use}
use Rattle.query_session.specs.Values.{Values, texts_of}
use Rattle.query_session.specs.Held.{held}
use Rattle.query_session.proofs.Held.{get-held, held-written, len-same, not_in_use, text_in_use, one-text}
use Rattle.query_session.proofs.Maps.{insert-same}
use Rattle.query_session.proofs.names.Names.compare_to.Goals as goal

pub unreachable-requires : goal.unreachable-requires
unreachable-requires c =
    true≢false (sym c.requires ∙ ap (λ (m : Values). is_in_use (texts_of m) c.args.name.now) (sym c.self.view_is)
    ∙ not_in_use c.self.inside.values c.args.name.now (sym c.in-None.ensures.value))

pub invariant_of-self : goal.invariant_of-self
invariant_of-self c =
    let m = c.self.inside.values in
    let name = c.args.name.now in
    let v = c.compare_values.new.right in
    let n = c.get_mut.follows.lender v in
    let some = sym c.in-Some.ensures.value in
    let stored = held-written m n name c.in-Some.right.now v some (c.get_mut.follows.holds v).3 in
    c.self.invariant ∙ sym (len-same (held m.entries) (held n.entries) name v c.in-Some.right.now stored (get-held m name ∙ some))

pub returns-clause-order : goal.returns-clause-order
returns-clause-order c =
    let there = ap (λ (m : Values). text_of (texts_of m) c.args.name.now) (sym c.self.view_is)
    ∙ text_in_use (held c.self.inside.values.entries) c.args.name.now c.in-Some.right.now (get-held c.self.inside.values c.args.name.now ∙ sym c.in-Some.ensures.value) in
    IfOk-weaker c.compare_values.result _ _ (λ order is. λ right other. is ∙ ap (order_of c.args.left.now.text) (one-text _ _ (sym there ∙ other))) c.compare_values.ensures.order

pub returns-clause-kept : goal.returns-clause-kept
returns-clause-kept c =
    let m = c.self.inside.values in
    let name = c.args.name.now in
    let v = c.compare_values.new.right in
    let n = c.get_mut.follows.lender v in
    let some = sym c.in-Some.ensures.value in
    held-written m n name c.in-Some.right.now v some (c.get_mut.follows.holds v).3
    ∙ (insert-same (held m.entries) name v (get-held m name ∙ some ∙ ap Some (sym c.compare_values.ensures.right)) ∙ c.self.view_is)
