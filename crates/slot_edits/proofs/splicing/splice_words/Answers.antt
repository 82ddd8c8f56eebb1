use Rattle.std.proofs.Common.{◌≡◌, refl, ℕ, ◌+◌, ◌/◌, subst, inl, inr, List, arith}
use Rattle.slot_edits.specs.Parts.{spliced}
use Rattle.slot_edits.specs.Words.{Rewrites, content_bytes}
use Rattle.std.specs.List.{splice}
use Rattle.slot_edits.proofs.Writes.{wrote-then}
use Rattle.slot_edits.proofs.Endings.{length-spliced, ends, bytes-kept, rewrites-join}
use Rattle.slot_edits.proofs.splicing.splice_words.Goals as goal

-- ---- the text doesn't grow
pub returns-then-end-part-clause-bytes : goal.returns-then-end-part-clause-bytes
returns-then-end-part-clause-bytes g c =
    let p = c.requires.part in
    let long = length-spliced c.args.reference.now.known c.args.part c.args.with.now p.order p.inside in
    ends c.args.reference.now.known _ c.args.with.now c.args.part _ _ p.order p.inside (omega arith) c.rewrite_upward.ensures.rewrites (inl (omega (arith, long)))

pub returns-then-end-part-clause-room : goal.returns-then-end-part-clause-room
returns-then-end-part-clause-room g c =
    let p = c.requires.part in
    omega (arith, length-spliced c.args.reference.now.known c.args.part c.args.with.now p.order p.inside, c.rewrite_upward.ensures.length)

pub returns-then-end-part-clause-wrote : goal.returns-then-end-part-clause-wrote
returns-then-end-part-clause-wrote g c =
    let p = c.requires.part in
    (_, omega (arith, length-spliced c.args.reference.now.known c.args.part c.args.with.now p.order p.inside), c.rewrite_upward.ensures.wrote)

-- ---- it keeps its length
pub returns-then-end-part-2-clause-bytes : goal.returns-then-end-part-2-clause-bytes
returns-then-end-part-2-clause-bytes g c =
    let p = c.requires.part in
    ends c.args.reference.now.known _ c.args.with.now c.args.part _ _ p.order p.inside (omega arith) c.rewrite_upward-then-end-part-2.ensures.rewrites (inr (c.if-end-part-2.true, omega arith))

pub returns-then-end-part-2-clause-room : goal.returns-then-end-part-2-clause-room
returns-then-end-part-2-clause-room g c =
    let p = c.requires.part in
    omega (arith, length-spliced c.args.reference.now.known c.args.part c.args.with.now p.order p.inside, c.rewrite_upward-then-end-part-2.ensures.length)

pub returns-then-end-part-2-clause-wrote : goal.returns-then-end-part-2-clause-wrote
returns-then-end-part-2-clause-wrote g c =
    let p = c.requires.part in
    (_, omega (arith, length-spliced c.args.reference.now.known c.args.part c.args.with.now p.order p.inside), c.rewrite_upward-then-end-part-2.ensures.wrote)

-- ---- it grows
pub returns-else-end-part-2-clause-bytes : goal.returns-else-end-part-2-clause-bytes
returns-else-end-part-2-clause-bytes g c =
    let p = c.requires.part in
    let known = c.args.reference.now.known in
    let part = c.args.part in
    let with = c.args.with.now in
    let between = c.rewrite_upward-else-end-part-2.new.reference.known in
    let last = c.rewrite_downward.new.reference.known in
    let long = length-spliced known part with p.order p.inside in
    let r = c.rewrite_upward-else-end-part-2.ensures.rewrites in
    let kept : content_bytes between part.count ≡ content_bytes known part.count = bytes-kept known _ between _ _ part.count r (omega arith) in
    let s : Rewrites between (spliced known part with) (part.low / 8) ((part.count + 7) / 8) last =
    subst (λ (b : List ℕ). Rewrites between (splice b part.low part.high with) (part.low / 8) ((part.count + 7) / 8) last) kept c.rewrite_downward.ensures.rewrites in
    ends known last with part (part.low / 8) _ p.order p.inside (omega arith)
    (rewrites-join known (spliced known part with) between last (part.low / 8) ((part.count + 7) / 8) _ (omega arith) (omega arith) r s) (inl (omega (arith, long)))

pub returns-else-end-part-2-clause-room : goal.returns-else-end-part-2-clause-room
returns-else-end-part-2-clause-room g c =
    let p = c.requires.part in
    omega (arith, length-spliced c.args.reference.now.known c.args.part c.args.with.now p.order p.inside, c.rewrite_upward-else-end-part-2.ensures.length, c.rewrite_downward.ensures.length)

pub returns-else-end-part-2-clause-wrote : goal.returns-else-end-part-2-clause-wrote
returns-else-end-part-2-clause-wrote g c =
    let p = c.requires.part in (
      _,
      omega (arith, length-spliced c.args.reference.now.known c.args.part c.args.with.now p.order p.inside),
      wrote-then _ _ _ _ _ _ refl c.rewrite_upward-else-end-part-2.ensures.wrote c.rewrite_downward.ensures.wrote,
    )
