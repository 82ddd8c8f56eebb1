use Rattle.std.proofs.Common.{◌≡◌, ◌+◌, ◌-◌, ◌*◌, ◌≤◌, length, sym, ap, subst, ◌∙◌, arith}
use Rattle.slot_model.specs.History.{put}
use Rattle.slot_table.specs.Owners.{RefSeen}
use Rattle.slot_edits.specs.Writes.{Wrote}
use Rattle.slot_edits.specs.Parts.{spliced}
use Rattle.slot_edits.specs.Words.{HoldsAt, Rewrites}
use Rattle.slot_edits.proofs.Writes.{wrote-more}
use Rattle.slot_edits.proofs.Words.{rewrites-down, still-down, length-put}
use Rattle.slot_edits.proofs.rewriting.mixed_downward.Goals as goal

pub words-preserved : goal.words-preserved
words-preserved g c =
    let i = c.words.invariant in
    let k = c.words.k - 1 in
    let start = c.args.reference.now.known in
    let new = spliced start c.args.part c.args.with.now in
    let known = c.words.reference.known in
    let word = c.new_word-word.result in
    let same = c.new_word-word.ensures.kept in
    let there : k + 1 ≤ length known = omega (arith, i.long) in
    let next : c.words.k ≡ k + 1 = omega arith in
    let holds : HoldsAt new (8 * k) word =
    still-down start new known c.args.with.now c.args.part c.words.k c.args.to k word c.requires.part.order c.requires.part.inside i.rewrites next c.requires.behind c.new_word-word.ensures.word in
    let is : c.write.new.self.known ≡ put known (k + 1) word =
    ap (λ (z : RefSeen). z.known) c.write.ensures.kept ∙ ap (λ (z : RefSeen). put z.known (k + 1) word) same in
    record {
      rewrites = subst (Rewrites start new k c.args.to) (sym is)
          (rewrites-down start new known c.args.from c.args.to k word there holds (omega arith) (subst (λ n. Rewrites start new n c.args.to known) next i.rewrites));
      long = ap length is ∙ omega (arith, length-put known (k + 1) word there, i.long);
      wrote = wrote-more g.A.Attach.fits c.args.reference.now c.new_word-word.new.reference c.write.new.self (c.args.to - c.words.k) _ (k + 1) word _
          (subst (λ (z : RefSeen). Wrote (c.args.to - c.words.k) c.args.reference.now z) (sym same) i.wrote) (omega arith) c.write.ensures.event c.write.ensures.kept;
      order = omega arith;
      last = omega arith;
    }
