use Rattle.std.proofs.Common.{◌≡◌, ℕ, ◌+◌, ◌-◌, ◌*◌, ◌/◌, ◌%◌, sym, ap, subst, ◌∙◌, List, [], ◌∷◌, ◌++◌, length, arith}
use Rattle.slot_table.specs.Owners.{RefSeen, DraftSeen}
use Rattle.slot_edits.specs.Parts.{spliced}
use Rattle.slot_edits.specs.Words.{content_bytes, HoldsAt}
use Rattle.slot_edits.proofs.Words.{moved-holds}
use Rattle.slot_edits.proofs.Packed.{holds-word, begun-more, length-begun}
use Rattle.slot_edits.proofs.copying.fill_moved.Goals as goal

pub loop-k-init : goal.loop-k-init
loop-k-init g c =
    let start = c.args.reference.now.known in
    let first = c.args.part.high + (8 * c.args.from - (c.args.part.low + length c.args.with.now)) in
    let at : first / 8 ≡ first / 8 + (c.args.from - c.args.from) = omega arith in
    record {
      kept = c.word_of-near.ensures.kept;
      words = sym (ap (λ (l : List ℕ). record c.args.draft.now { written = l }) (sym c.requires.begun));
      near = subst (λ j. HoldsAt (content_bytes start c.args.part.count) (8 * j) c.word_of-near.result) at c.word_of-near.ensures.word;
    }

pub write-requires : goal.write-requires
write-requires g c =
    let i = c.loop-k.invariant in
    omega (
      arith,
      ap (λ (z : DraftSeen). length z.written) i.words,
      length-begun (spliced c.args.reference.now.known c.args.part c.args.with.now) c.loop-k.k,
      ap (λ (z : DraftSeen). z.heap.layout.capacity_words) i.words,
      c.requires.room.0,
    )

pub loop-k-preserved : goal.loop-k-preserved
loop-k-preserved g c =
    let i = c.loop-k.invariant in
    let k = c.loop-k.k in
    let part = c.args.part in
    let p = c.requires.part in
    let with = c.args.with.now in
    let start = c.args.reference.now.known in
    let new : List ℕ = spliced start part with in
    let word = c.joined-word.result in
    let far = c.word_of-far.result in
    let first = part.high + (8 * c.args.from - (part.low + length with)) in
    let j = first / 8 + (k - c.args.from) in
    let behind : HoldsAt (content_bytes start part.count) (8 * (j + 1)) far =
    subst (λ (z : RefSeen). HoldsAt (content_bytes z.known part.count) (8 * (j + 1)) far) i.kept c.word_of-far.ensures.word in
    let next : 8 * (j + 1) ≡ 8 * j + 8 = omega arith in
    let joined : HoldsAt (content_bytes start part.count) (8 * j + first % 8) word =
    c.joined-word.ensures (content_bytes start part.count) (8 * j) i.near (subst (λ n. HoldsAt (content_bytes start part.count) n far) next behind) in
    let place : 8 * j + first % 8 ≡ part.high + (8 * k - (part.low + length with)) = omega (arith, c.requires.moved) in
    let holds : HoldsAt new (8 * k) word = moved-holds start with part k (8 * j + first % 8) word p.order p.inside (omega (arith, c.requires.moved)) place joined in
    let on : j + 1 ≡ first / 8 + (k + 1 - c.args.from) = omega arith in
    record {
      kept = c.word_of-far.ensures.kept ∙ i.kept;
      words = c.write.ensures ∙ ap (λ (z : DraftSeen). record z { written = z.written ++ word ∷ [] }) i.words
          ∙ ap (λ (l : List ℕ). record c.args.draft.now { written = l }) (begun-more new k word (holds-word new k word c.joined-word.type_inv holds));
      near = subst (λ n. HoldsAt (content_bytes start part.count) (8 * n) far) on behind;
    }
