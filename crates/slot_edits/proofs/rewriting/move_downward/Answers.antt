use Rattle.std.proofs.Common.{◌≡◌, ◌+◌, ◌-◌, ◌*◌, ◌/◌, ◌%◌, ◌≤◌, inl, length, sym, ap, subst, ◌∙◌, arith}
use Rattle.slot_model.specs.History.{put}
use Rattle.slot_table.specs.Owners.{RefSeen}
use Rattle.slot_edits.specs.Writes.{Wrote}
use Rattle.slot_edits.specs.Parts.{spliced}
use Rattle.slot_edits.specs.Words.{content_bytes, HoldsAt, Rewrites}
use Rattle.slot_edits.proofs.Writes.{wrote-none, wrote-more}
use Rattle.slot_edits.proofs.Words.{rewrites-none, rewrites-down, moved-holds, held-kept, length-put}
use Rattle.slot_edits.proofs.rewriting.move_downward.Goals as goal

pub words-init : goal.words-init
words-init g c =
    let start = c.args.reference.now.known in
    let same = c.word_of-far.ensures.kept in
    let none : 0 ≡ c.args.to - c.args.to = omega arith in
    record {
      rewrites = subst (λ (z : RefSeen). Rewrites start (spliced start c.args.part c.args.with.now) c.args.to c.args.to z.known) (sym same) (rewrites-none start _ c.args.to);
      long = ap (λ (z : RefSeen). length z.known) same;
      wrote = subst (λ n. Wrote n c.args.reference.now c.word_of-far.new.reference) none (subst (λ (z : RefSeen). Wrote 0 c.args.reference.now z) (sym same) (wrote-none c.args.reference.now));
      order = c.requires.order;
      last = omega arith;
      far = c.word_of-far.ensures.word;
    }

pub words-preserved : goal.words-preserved
words-preserved g c =
    let i = c.words.invariant in
    let k = c.words.k - 1 in
    let part = c.args.part in
    let p = c.requires.part in
    let with = c.args.with.now in
    let start = c.args.reference.now.known in
    let new = spliced start part with in
    let known = c.words.reference.known in
    let word = c.joined-word.result in
    let near = c.word_of-near.result in
    let same = c.word_of-near.ensures.kept in
    let first = part.high + (8 * c.args.from - (part.low + length with)) in
    let j = first / 8 + (k - c.args.from) in
    let there : k + 1 ≤ length known = omega (arith, i.long) in
    let next : c.words.k ≡ k + 1 = omega arith in
    -- the old word is as it was
    let here : HoldsAt (content_bytes start part.count) (8 * j) near =
    held-kept start new known c.words.k c.args.to part.count j near i.rewrites (λ l. inl (omega (arith, c.requires.behind, c.requires.moved, i.order))) c.word_of-near.ensures.word in
    let on : 8 * (first / 8 + (c.words.k - c.args.from)) ≡ 8 * j + 8 = omega (arith, i.order) in
    let joined : HoldsAt (content_bytes start part.count) (8 * j + first % 8) word =
    c.joined-word.ensures (content_bytes start part.count) (8 * j) here (subst (λ n. HoldsAt (content_bytes start part.count) n c.words.far) on i.far) in
    let place : 8 * j + first % 8 ≡ part.high + (8 * k - (part.low + length with)) = omega (arith, c.requires.moved, i.order) in
    let holds : HoldsAt new (8 * k) word = moved-holds start with part k (8 * j + first % 8) word p.order p.inside (omega (arith, c.requires.moved, i.order)) place joined in
    let is : c.write.new.self.known ≡ put known (k + 1) word =
    ap (λ (z : RefSeen). z.known) c.write.ensures.kept ∙ ap (λ (z : RefSeen). put z.known (k + 1) word) same in
    record {
      rewrites = subst (Rewrites start new k c.args.to) (sym is)
          (rewrites-down start new known c.args.from c.args.to k word there holds (omega arith) (subst (λ n. Rewrites start new n c.args.to known) next i.rewrites));
      long = ap length is ∙ omega (arith, length-put known (k + 1) word there, i.long);
      wrote = wrote-more g.A.Attach.fits c.args.reference.now c.word_of-near.new.reference c.write.new.self (c.args.to - c.words.k) _ (k + 1) word _
          (subst (λ (z : RefSeen). Wrote (c.args.to - c.words.k) c.args.reference.now z) (sym same) i.wrote) (omega arith) c.write.ensures.event c.write.ensures.kept;
      order = omega arith;
      last = omega arith;
      far = here;
    }
