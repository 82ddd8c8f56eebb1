use Rattle.std.proofs.Common.{sym, ap, ◌∙◌, Some, true≢false}
use Rattle.std.specs.FinMap as finite
use Rattle.query_session.specs.State.{is_in_use}
use Rattle.query_session.specs.Values.{Values, texts_of}
use Rattle.query_session.specs.Held.{held}
use Rattle.query_session.proofs.Held.{get-held, held-written, len-same, not_in_use}
use Rattle.query_session.proofs.names.Names.exchange.Goals as goal

pub unreachable-requires : goal.unreachable-requires
unreachable-requires c =
    true≢false (sym c.requires ∙ ap (λ (m : Values). is_in_use (texts_of m) c.args.name.now) (sym c.self.view_is)
    ∙ not_in_use c.self.inside.values c.args.name.now (sym c.in-None.ensures.value))

pub invariant_of-self : goal.invariant_of-self
invariant_of-self c =
    let m = c.self.inside.values in
    let name = c.args.name.now in
    let v = c.swap.new.x in
    let n = c.get_mut.follows.lender v in
    let some = sym c.in-Some.ensures.value in
    let stored = held-written m n name c.in-Some.held.now v some (c.get_mut.follows.holds v).3 in
    c.self.invariant ∙ sym (len-same (held m.entries) (held n.entries) name v c.in-Some.held.now stored (get-held m name ∙ some))

pub returns-clause-stored : goal.returns-clause-stored
returns-clause-stored c =
    let v = c.swap.new.x in
    held-written c.self.inside.values (c.get_mut.follows.lender v) c.args.name.now c.in-Some.held.now v (sym c.in-Some.ensures.value) (c.get_mut.follows.holds v).3
    ∙ (λ i. finite.insert (c.self.view_is i) c.args.name.now (c.swap.ensures.x_after i))

pub returns-clause-taken : goal.returns-clause-taken
returns-clause-taken c =
    ap (λ (m : Values). finite.get m c.args.name.now) (sym c.self.view_is)
    ∙ (get-held c.self.inside.values c.args.name.now ∙ sym c.in-Some.ensures.value)
    ∙ ap Some (sym c.swap.ensures.y_after)
