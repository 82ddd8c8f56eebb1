use Rattle.std.proofs.Common.{◌≡◌, refl, sym, ◌∙◌, true, false}
use Rattle.batch_workers.proofs.Working.{learnt, knows-after, nothing-learnt, nothing-knows, quick-learned}
use Rattle.batch_workers.proofs.run.learn.Goals as goal

pub returns-then-has_learned-clause-worked : goal.returns-then-has_learned-clause-worked
returns-then-has_learned-clause-worked g c =
    nothing-learnt c.args.pass.now c.args.pass.now c.args.s.now c.args.s.now refl refl c.requires (sym c.has_learned.ensures ∙ c.if-has_learned.true)

pub returns-then-has_learned-clause-learned : goal.returns-then-has_learned-clause-learned
returns-then-has_learned-clause-learned g c able = nothing-knows c.args.pass.now c.args.s.now (sym c.has_learned.ensures ∙ c.if-has_learned.true) able

pub returns-clause-worked : goal.returns-clause-worked
returns-clause-worked g c =
    (learnt c.learn_crumbs.result c.args.pass.now c.args.s.now c.learn_crumbs.new.pass c.learn_crumbs.new.self c.requires c.learn_crumbs.ensures.heap c.learn_crumbs.ensures.learned).done

pub returns-clause-learned : goal.returns-clause-learned
returns-clause-learned g c able =
    let is = c.learn_crumbs.ensures in
    knows-after c.learn_crumbs.result c.args.pass.now c.args.s.now c.learn_crumbs.new.pass c.learn_crumbs.new.self c.requires is.heap is.learned is.text.1 is.known able

-- a value that has learned doesn't come here
pub returns-clause-quick : goal.returns-clause-quick
returns-clause-quick g c quick =
    absurd (let clash : true ≡ false = sym (quick-learned c.args.s.now quick) ∙ (sym c.has_learned.ensures ∙ c.if-has_learned.false) in cc)
