use Rattle.std.proofs.Common.{◌≡◌, ◌+◌, ◌-◌, ◌*◌, ◌/◌, ◌%◌, ◌≤◌, inl, inr, ⊎_elim, length, sym, ap, subst, ◌∙◌, arith}
use Rattle.slot_model.specs.History.{put}
use Rattle.slot_table.specs.Owners.{RefSeen}
use Rattle.slot_edits.specs.Writes.{Wrote}
use Rattle.slot_edits.specs.Parts.{spliced}
use Rattle.slot_edits.specs.Words.{content_bytes, HoldsAt, Rewrites}
use Rattle.slot_edits.proofs.Writes.{wrote-none, wrote-more}
use Rattle.slot_edits.proofs.Words.{rewrites-none, rewrites-up, moved-holds, held-kept, length-put}
use Rattle.slot_edits.proofs.rewriting.move_upward.Goals as goal

pub loop-k-init : goal.loop-k-init
loop-k-init g c =
    let start = c.args.reference.now.known in
    let same = c.word_of-near.ensures.kept in
    let first = c.args.part.high + (8 * c.args.from - (c.args.part.low + length c.args.with.now)) in
    let at : first / 8 ≡ first / 8 + (c.args.from - c.args.from) = omega arith in
    let none : 0 ≡ c.args.from - c.args.from = omega arith in
    record {
      rewrites = subst (λ (z : RefSeen). Rewrites start (spliced start c.args.part c.args.with.now) c.args.from c.args.from z.known) (sym same) (rewrites-none start _ c.args.from);
      long = ap (λ (z : RefSeen). length z.known) same ∙ omega (arith, c.requires.start);
      wrote = subst (λ n. Wrote n c.args.reference.now c.word_of-near.new.reference) none (subst (λ (z : RefSeen). Wrote 0 c.args.reference.now z) (sym same) (wrote-none c.args.reference.now));
      near = subst (λ j. HoldsAt (content_bytes start c.args.part.count) (8 * j) c.word_of-near.result) at c.word_of-near.ensures.word;
    }

pub loop-k-preserved : goal.loop-k-preserved
loop-k-preserved g c =
    let i = c.loop-k.invariant in
    let k = c.loop-k.k in
    let part = c.args.part in
    let p = c.requires.part in
    let with = c.args.with.now in
    let start = c.args.reference.now.known in
    let new = spliced start part with in
    let known = c.loop-k.reference.known in
    let word = c.joined-word.result in
    let far = c.word_of-far.result in
    let same = c.word_of-far.ensures.kept in
    let first = part.high + (8 * c.args.from - (part.low + length with)) in
    let j = first / 8 + (k - c.args.from) in
    let there : k + 1 ≤ length known = omega (arith, i.long) in
    -- the old word behind is as it was
    let behind : HoldsAt (content_bytes start part.count) (8 * (j + 1)) far =
    held-kept start new known c.args.from k part.count (j + 1) far i.rewrites
    (λ l. ⊎_elim (λ a. inr (omega (arith, a, c.requires.moved))) (λ a. inl (omega (arith, a, l))) c.requires.ahead) c.word_of-far.ensures.word in
    let next : 8 * (j + 1) ≡ 8 * j + 8 = omega arith in
    let joined : HoldsAt (content_bytes start part.count) (8 * j + first % 8) word =
    c.joined-word.ensures (content_bytes start part.count) (8 * j) i.near (subst (λ n. HoldsAt (content_bytes start part.count) n far) next behind) in
    let place : 8 * j + first % 8 ≡ part.high + (8 * k - (part.low + length with)) = omega (arith, c.requires.moved) in
    let holds : HoldsAt new (8 * k) word = moved-holds start with part k (8 * j + first % 8) word p.order p.inside (omega (arith, c.requires.moved)) place joined in
    let is : c.write.new.self.known ≡ put known (k + 1) word =
    ap (λ (z : RefSeen). z.known) c.write.ensures.kept ∙ ap (λ (z : RefSeen). put z.known (k + 1) word) same in
    let on : j + 1 ≡ first / 8 + (k + 1 - c.args.from) = omega arith in
    record {
      rewrites = subst (Rewrites start new c.args.from (k + 1)) (sym is) (rewrites-up start new known c.args.from k k word there holds (omega arith) i.rewrites);
      long = ap length is ∙ omega (arith, length-put known (k + 1) word there, i.long);
      wrote = wrote-more g.A.Attach.fits c.args.reference.now c.word_of-far.new.reference c.write.new.self (k - c.args.from) _ (k + 1) word _
          (subst (λ (z : RefSeen). Wrote (k - c.args.from) c.args.reference.now z) (sym same) i.wrote) (omega arith) c.write.ensures.event c.write.ensures.kept;
      near = subst (λ n. HoldsAt (content_bytes start part.count) (8 * n) far) on behind;
    }
