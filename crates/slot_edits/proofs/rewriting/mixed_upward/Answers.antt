use Rattle.std.proofs.Common.{◌≡◌, ◌+◌, ◌-◌, ◌*◌, ◌≤◌, length, sym, ap, subst, ◌∙◌, arith}
use Rattle.slot_model.specs.History.{put}
use Rattle.slot_table.specs.Owners.{RefSeen}
use Rattle.slot_edits.specs.Writes.{Wrote}
use Rattle.slot_edits.specs.Parts.{spliced}
use Rattle.slot_edits.specs.Words.{HoldsAt, Rewrites}
use Rattle.slot_edits.proofs.Writes.{wrote-more}
use Rattle.slot_edits.proofs.Words.{rewrites-up, still-up, length-put}
use Rattle.slot_edits.proofs.rewriting.mixed_upward.Goals as goal

pub loop-k-preserved : goal.loop-k-preserved
loop-k-preserved g c =
    let i = c.loop-k.invariant in
    let k = c.loop-k.k in
    let start = c.args.reference.now.known in
    let new = spliced start c.args.part c.args.with.now in
    let known = c.loop-k.reference.known in
    let word = c.new_word-word.result in
    let same = c.new_word-word.ensures.kept in
    let there : k + 1 ≤ length known = omega (arith, i.long) in
    let holds : HoldsAt new (8 * k) word =
    still-up start new known c.args.with.now c.args.part c.args.from k k word c.requires.part.order c.requires.part.inside i.rewrites (λ _. k) c.requires.ahead c.new_word-word.ensures.word in
    let is : c.write.new.self.known ≡ put known (k + 1) word =
    ap (λ (z : RefSeen). z.known) c.write.ensures.kept ∙ ap (λ (z : RefSeen). put z.known (k + 1) word) same in
    record {
      rewrites = subst (Rewrites start new c.args.from (k + 1)) (sym is) (rewrites-up start new known c.args.from k k word there holds (omega arith) i.rewrites);
      long = ap length is ∙ omega (arith, length-put known (k + 1) word there, i.long);
      wrote = wrote-more g.A.Attach.fits c.args.reference.now c.new_word-word.new.reference c.write.new.self (k - c.args.from) _ (k + 1) word _
          (subst (λ (z : RefSeen). Wrote (k - c.args.from) c.args.reference.now z) (sym same) i.wrote) (omega arith) c.write.ensures.event c.write.ensures.kept;
    }
