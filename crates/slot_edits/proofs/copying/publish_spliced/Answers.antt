use Rattle.std.proofs.Common.{◌≡◌, ℕ, List, [], ◌∷◌, sym, ap, subst}
use Rattle.slot_model.specs.declared.event.Event.TheVariants.{Publish}
use Rattle.slot_table.specs.Owners.{RefSeen, DraftSeen}
use Rattle.slot_accounts.specs.Account.{Did, IsDrawn}
use Rattle.slot_accounts.proofs.Drawn.{Drawn-written}
use Rattle.slot_edits.specs.Parts.{spliced}
use Rattle.slot_edits.specs.Texts.{native_words}
use Rattle.slot_edits.proofs.copying.publish_spliced.Goals as goal

pub returns-clause-did : goal.returns-clause-did
returns-clause-did g c =
    let p = c.args.pass.now in
    let words : List ℕ = native_words (spliced c.args.reference.now.known c.args.part c.args.with.now) in
    let d : DraftSeen = c.fill-object.new.draft in
    let drawn : IsDrawn p c.draw.new.pass d =
    Drawn-written p c.draw.new.pass c.in_ok-draft.draft c.in_ok-draft.ensures.drawn d words c.fill-object.ensures.words in
    let written : d.written ≡ words = ap (λ (z : DraftSeen). z.written) c.fill-object.ensures.words in
    let slot : d.slot ≡ c.publish.result.slot = sym (ap (λ (z : RefSeen). z.slot) c.publish.ensures.reference) in
    subst (λ (x : ℕ). Did (Publish x words ∷ []) p c.publish.new.pass) slot
    (subst (λ (l : List ℕ). Did (Publish d.slot l ∷ []) p c.publish.new.pass) written (c.publish.ensures.did p drawn))

pub returns-clause-credits : goal.returns-clause-credits
returns-clause-credits g c =
    let p = c.args.pass.now in
    let d : DraftSeen = c.fill-object.new.draft in
    c.publish.ensures.credits p (Drawn-written p c.draw.new.pass c.in_ok-draft.draft c.in_ok-draft.ensures.drawn d _ c.fill-object.ensures.words)
