use Rattle.std.proofs.Common.{◌≡◌, ◌+◌, ℕ, Some, true, string_bytes, sym, ap, ◌∙◌, subst, arith}
use Rattle.std.specs.FinMap as finite
use Rattle.std.proofs.lemmas.Map.Text.{btree_map_updates_text}
use Rattle.query_session.specs.Values.{Values, texts_of}
use Rattle.query_session.specs.State.{has_room}
use Rattle.query_session.specs.Held.{held}
use Rattle.query_session.proofs.Held.{get-held, held-insert, len-new, len-same, below_limit}
use Rattle.query_session.proofs.names.Names.put.Goals as goal

pub invariant_of-self-in-Some : goal.invariant_of-self-in-Some
invariant_of-self-in-Some c =
    let m = c.self.inside.values in let n = c.insert.new.self in let name = string_bytes c.args.name in
    let stored = held-insert m n name c.args.value (btree_map_updates_text name m n (Some c.args.value) c.in_ok-replaced.ensures.updates) in
    let found = get-held m name ∙ (sym c.in_ok-replaced.ensures.old ∙ c.in-Some.is) in
    c.self.invariant ∙ sym (len-same (held m.entries) (held n.entries) name c.args.value c.in-Some.replaced stored found)

pub overflow_add-self : goal.overflow_add-self
overflow_add-self c =
    let m = c.self.inside.values in let name = string_bytes c.args.name in
    let room = subst (λ (x : Values). has_room (texts_of x) name ≡ true) (sym c.self.view_is) c.requires in
    let below = below_limit (held m.entries) name room (get-held m name ∙ (sym c.in_ok-replaced.ensures.old ∙ c.in-None.is)) in
    let i : c.self.inside.count ≡ finite.len (held m.entries) = c.self.invariant in omega (arith, below, i)

pub invariant_of-self-in-None : goal.invariant_of-self-in-None
invariant_of-self-in-None c =
    let m = c.self.inside.values in let n = c.insert.new.self in let name = string_bytes c.args.name in
    let stored = held-insert m n name c.args.value (btree_map_updates_text name m n (Some c.args.value) c.in_ok-replaced.ensures.updates) in
    ap (λ (x : ℕ). x + 1) c.self.invariant ∙ sym (len-new (held m.entries) (held n.entries) name c.args.value stored (get-held m name ∙ (sym c.in_ok-replaced.ensures.old ∙ c.in-None.is)))

pub returns-in-Some-clause-stored : goal.returns-in-Some-clause-stored
returns-in-Some-clause-stored c =
    let m = c.self.inside.values in let n = c.insert.new.self in let name = string_bytes c.args.name in
    held-insert m n name c.args.value (btree_map_updates_text name m n (Some c.args.value) c.in_ok-replaced.ensures.updates) ∙ ap (λ (x : Values). finite.insert x name c.args.value) c.self.view_is

pub returns-in-None-clause-stored : goal.returns-in-None-clause-stored
returns-in-None-clause-stored c =
    let m = c.self.inside.values in let n = c.insert.new.self in let name = string_bytes c.args.name in
    held-insert m n name c.args.value (btree_map_updates_text name m n (Some c.args.value) c.in_ok-replaced.ensures.updates) ∙ ap (λ (x : Values). finite.insert x name c.args.value) c.self.view_is

pub returns-in-Some-clause-before : goal.returns-in-Some-clause-before
returns-in-Some-clause-before c =
    let m = c.self.inside.values in let name = string_bytes c.args.name in
    sym c.in-Some.is ∙ (c.in_ok-replaced.ensures.old ∙ (sym (get-held m name) ∙ ap (λ (x : Values). finite.get x name) c.self.view_is))

pub returns-in-None-clause-before : goal.returns-in-None-clause-before
returns-in-None-clause-before c =
    let m = c.self.inside.values in let name = string_bytes c.args.name in
    sym c.in-None.is ∙ (c.in_ok-replaced.ensures.old ∙ (sym (get-held m name) ∙ ap (λ (x : Values). finite.get x name) c.self.view_is))
