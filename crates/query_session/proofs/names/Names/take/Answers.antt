use Rattle.std.proofs.Common.{◌-◌, ℕ, None, sym, ap, ◌∙◌}
use Rattle.std.specs.FinMap as finite
use Rattle.std.proofs.lemmas.Map.Text.{btree_map_updates_text}
use Rattle.query_session.specs.Values.{Values}
use Rattle.query_session.specs.Held.{held}
use Rattle.query_session.proofs.Held.{get-held, held-remove, len-less, one_fewer}
use Rattle.query_session.proofs.names.Names.take.Goals as goal

pub overflow_sub-self : goal.overflow_sub-self
overflow_sub-self c =
    let m = c.self.inside.values in
    one_fewer (held m.entries) c.args.name.now c.in-Some.value c.self.inside.count c.self.invariant (get-held m c.args.name.now ∙ (sym c.remove.ensures.value ∙ c.in-Some.is))

pub invariant_of-self : goal.invariant_of-self
invariant_of-self c =
    let m = c.self.inside.values in
    let n = c.remove.new.self in
    let name = c.args.name.now in
    let found = get-held m name ∙ (sym c.remove.ensures.value ∙ c.in-Some.is) in
    let stored = held-remove m n name (btree_map_updates_text name m n None c.remove.ensures.updates) in
    ap (λ (x : ℕ). x - 1) c.self.invariant ∙ sym (len-less (held m.entries) (held n.entries) name c.in-Some.value stored found)

pub returns-in-Some-clause-value : goal.returns-in-Some-clause-value
returns-in-Some-clause-value c =
    sym c.in-Some.is ∙ (c.remove.ensures.value ∙ (sym (get-held c.self.inside.values c.args.name.now) ∙ ap (λ (x : Values). finite.get x c.args.name.now) c.self.view_is))

pub returns-in-Some-clause-left : goal.returns-in-Some-clause-left
returns-in-Some-clause-left c =
    held-remove c.self.inside.values c.remove.new.self c.args.name.now
    (btree_map_updates_text c.args.name.now c.self.inside.values c.remove.new.self None c.remove.ensures.updates)
    ∙ ap (λ (x : Values). finite.remove x c.args.name.now) c.self.view_is

pub returns-in-None-clause-value : goal.returns-in-None-clause-value
returns-in-None-clause-value c =
    sym c.in-None.is ∙ (c.remove.ensures.value ∙ (sym (get-held c.self.inside.values c.args.name.now) ∙ ap (λ (x : Values). finite.get x c.args.name.now) c.self.view_is))

pub returns-in-None-clause-left : goal.returns-in-None-clause-left
returns-in-None-clause-left c =
    held-remove c.self.inside.values c.remove.new.self c.args.name.now
    (btree_map_updates_text c.args.name.now c.self.inside.values c.remove.new.self None c.remove.ensures.updates)
    ∙ ap (λ (x : Values). finite.remove x c.args.name.now) c.self.view_is
