use Rattle.std.proofs.Common.{◌≡◌, ℕ, List, sym, ap, ◌∙◌, ◌+◌, ◌-◌, ◌*◌, [], ◌∷◌, ◌++◌, length, arith, append_assoc, length-append}
use Rattle.index_words.specs.Crumbs.{index16}
use Rattle.crumbs.specs.Counting.{crumbs_below}
use Rattle.slot_table.specs.Owners.{DraftSeen}
use Rattle.crumbs.proofs.Growing.{below_more}
use Rattle.crumbs.proofs.listing.write_due.Goals as goal

pub due-preserved : goal.due-preserved
due-preserved g c =
    let b = (g.T.Text.part c.args.t.now).whole in
    let n = g.T.Text.STRIDE in
    let l = c.due in
    let d = c.args.draft.now in
    let w = c.word_of_crumb.result in
    let test = rw c.stride-stride.ensures at c.due-test.true in
    let less : l.next + 1 - 1 ≡ l.next = omega arith in
    let word : w ≡ index16 b (l.next * n) =
    rw c.stride-stride.ensures at c.word_of_crumb.ensures ∙ sym (c.requires.units (l.next * n) (omega arith) test) in
    record {
      written = λ front is.
          c.write.ensures
          ∙ ap (λ (x : DraftSeen). record x { written = x.written ++ (w ∷ []) }) (l.invariant.written front is)
          ∙ ap (λ (ws : List ℕ). record d { written = ws }) (append_assoc front (crumbs_below b n l.next) (w ∷ []) ∙ ap (λ ws. front ++ ws) (below_more b n l.next w word));
      heap = ap (λ (x : DraftSeen). x.heap) c.write.ensures ∙ l.invariant.heap;
      longer = omega (arith, ap (λ (x : DraftSeen). length x.written) c.write.ensures, length-append l.draft.written (w ∷ []), l.invariant.longer);
      onward = omega arith;
      few = omega arith;
      last = λ _. rw less test;
      ahead = omega arith;
    }
