use Rattle.std.proofs.Common.{◌-◌, ℕ, None, string_bytes, sym, ap, ◌∙◌}
use Rattle.std.specs.FinMap as finite
use Rattle.std.proofs.lemmas.Map.Text.{btree_map_updates_text}
use Rattle.query_session.specs.Values.{Values}
use Rattle.query_session.specs.Held.{held}
use Rattle.query_session.proofs.Held.{get-held, held-remove, len-less, one_fewer}
use Rattle.query_session.proofs.names.Names.take_any.Goals as goal

pub overflow_sub-self : goal.overflow_sub-self
overflow_sub-self c =
    let m = c.self.inside.values in let name = string_bytes c.in-Some.field-0-0 in
    let found = get-held m name ∙ c.in-Some.ensures.value in
    one_fewer (held m.entries) name c.in-Some.value c.self.inside.count c.self.invariant found

pub invariant_of-self : goal.invariant_of-self
invariant_of-self c =
    let m = c.self.inside.values in let n = c.pop_first.new.self in let name = string_bytes c.in-Some.field-0-0 in
    let found = get-held m name ∙ c.in-Some.ensures.value in
    let stored = held-remove m n name (btree_map_updates_text name m n None c.in-Some.ensures.updates) in
    ap (λ (x : ℕ). x - 1) c.self.invariant ∙ sym (len-less (held m.entries) (held n.entries) name c.in-Some.value stored found)

pub returns-in-Some : goal.returns-in-Some
returns-in-Some c =
    let m = c.self.inside.values in let n = c.pop_first.new.self in let name = string_bytes c.in-Some.field-0-0 in (
      name,
      ap (λ (x : Values). finite.get x name) (sym c.self.view_is) ∙ (get-held m name ∙ c.in-Some.ensures.value),
      held-remove m n name (btree_map_updates_text name m n None c.in-Some.ensures.updates) ∙ ap (λ (x : Values). finite.remove x name) c.self.view_is,
    )
