use Rattle.std.proofs.Common.{◌≡◌, ℕ, true, [], ◌∷◌, Option, sym, ap, subst, rules}
use Rattle.slot_model.specs.declared.event.Event.TheVariants.{Publish}
use Rattle.slot_table.specs.Owners.{PassSeen, DraftSeen, RefSeen}
use Rattle.slot_accounts.specs.Account.{Did, IsDrawn, giving_up}
use Rattle.slot_accounts.proofs.Doing.{Did-then}
use Rattle.slot_accounts.proofs.Drawn.{Drawn-written}
use Rattle.slot_accounts.proofs.Whole.{whole_history}
use Rattle.slot_accounts.proofs.tests.one_slot.Goals as goal

-- the two accounts, one behind the other, are the whole history of a pass that saw nothing before and has every place at the end
pub returns-in-Ok-clause-history : goal.returns-in-Ok-clause-history
returns-in-Ok-clause-history c =
    let p : PassSeen = c.args.pass in
    let d : DraftSeen = c.write.new.self in
    let drawn : IsDrawn p c.draw.new.pass d = Drawn-written p c.draw.new.pass c.in_ok-draft.draft c.in_ok-draft.ensures.drawn d _ c.write.ensures in
    let word : d.written ≡ 7 ∷ [] = search rules in
    let slot : c.publish-reference.result.slot ≡ d.slot = ap (λ (r : RefSeen). r.slot) c.publish-reference.ensures.reference in
    let first : Did (Publish d.slot (7 ∷ []) ∷ []) p c.publish-reference.new.pass =
    subst (λ ws. Did (Publish d.slot ws ∷ []) p c.publish-reference.new.pass) word (c.publish-reference.ensures.did p drawn) in
    let last : c.let_go.result ≡ true = search rules in
    let found : Option ℕ = c.let_go.ensures.did.0 in
    let second : Did (giving_up d.slot true found) c.publish-reference.new.pass c.let_go.new.pass =
    subst (λ x. Did (giving_up x true found) c.publish-reference.new.pass c.let_go.new.pass) slot
    (subst (λ b. Did (giving_up c.publish-reference.result.slot b found) c.publish-reference.new.pass c.let_go.new.pass) last c.let_go.ensures.did.1) in
    let whole : c.in-Ok.whole ≡ c.let_go.new.pass = c.in-Ok.ensures.whole in
    let both : Did (Publish d.slot (7 ∷ []) ∷ giving_up d.slot true found) p c.in-Ok.whole =
    subst (Did (Publish d.slot (7 ∷ []) ∷ giving_up d.slot true found) p) (sym whole) (Did-then first second) in
    (d.slot, found, sym (whole_history _ p c.in-Ok.whole both c.requires.fresh.0 c.requires.fresh.1 c.in-Ok.ensures.ends.placed_all))
