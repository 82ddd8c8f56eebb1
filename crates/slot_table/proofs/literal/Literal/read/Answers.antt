use Rattle.std.proofs.Common.{rules, ◌≡◌, ◌+◌, ◌<◌, ℕ, List, length, get_or, sym, ap, ◌∙◌, subst, arith}
use Rattle.slot_model.specs.declared.layout.Layout.{Layout}
use Rattle.literal_rows.specs.Rows.{rows_of, row_start, row_words}
use Rattle.literal_rows.proofs.Placed.{row_at}
use Rattle.slot_table.specs.Addresses.{table_size}
use Rattle.slot_table.specs.Owners.{HeapId, LiteralSeen}
use Rattle.slot_table.proofs.Reciting.{recites_allowed, size_few}
use Rattle.slot_table.proofs.literal.Literal.read.Goals as goal

pub overflow_add-place : goal.overflow_add-place
overflow_add-place g c =
    let i = c.self.invariant in
    let below : c.args.k < length (row_words c.self.inside.heap.now.literals c.self.inside.number) = subst (λ (l : LiteralSeen). c.args.k < length l.words) (sym c.self.view_is) c.requires in
    let there = (row_at c.self.inside.heap.now.literals c.self.inside.number c.args.k i.1.there below).0 in
    let start = i.1.start_is in
    let few = c.heap.invariant.few_words in
    let same = ap (λ (z : HeapId). length (rows_of z.literals)) c.heap.view_is in
    let laid = ap (λ (z : HeapId). table_size z.layout) c.heap.view_is in
    let size = size_few c.heap.inside.layout c.heap.invariant.laid in
    omega (arith, there, start, few, same, laid, size)

pub load-requires : goal.load-requires
load-requires g c =
    let i = c.self.invariant in
    let below : c.args.k < length (row_words c.self.inside.heap.now.literals c.self.inside.number) = subst (λ (l : LiteralSeen). c.args.k < length l.words) (sym c.self.view_is) c.requires in
    let there = (row_at c.self.inside.heap.now.literals c.self.inside.number c.args.k i.1.there below).0 in
    let start = i.1.start_is in
    let words = c.heap.invariant.words_are in
    let same = ap (λ (z : HeapId). length (rows_of z.literals)) c.heap.view_is in
    let laid = ap (λ (z : HeapId). table_size z.layout) c.heap.view_is in (
      search rules,
      omega (arith, there, start, words, same, laid),
      recites_allowed g.A.Attach.fits _ _ _ _ _ _ (i.0.layout_is ∙ sym (c.heap.invariant.layout_is ∙ ap (λ (z : HeapId). z.layout) c.heap.view_is)) (i.0.literals_are ∙ sym (c.heap.invariant.literals_are ∙ ap (λ (z : HeapId). z.literals) c.heap.view_is)),
    )

pub returns-clause-word : goal.returns-clause-word
returns-clause-word g c =
    let i = c.self.invariant in
    let ls : List (List ℕ) = c.self.inside.heap.now.literals in
    let n : ℕ = c.self.inside.number in
    let v = c.self.inside.seat.me.0 in
    let below : c.args.k < length (row_words ls n) = subst (λ (l : LiteralSeen). c.args.k < length l.words) (sym c.self.view_is) c.requires in
    let found = row_at ls n c.args.k i.1.there below in
    let start = i.1.start_is in
    let place : c.self.inside.start + c.args.k ≡ table_size v.layout + (row_start ls n + c.args.k) =
    omega (arith, start) ∙ ap (λ (l : Layout). table_size l + (row_start ls n + c.args.k)) (sym i.0.layout_is) in
    c.load.ensures.2.1 (row_start ls n + c.args.k) place (subst (λ (l : List (List ℕ)). row_start ls n + c.args.k < length (rows_of l)) (sym i.0.literals_are) found.0)
    ∙ (ap (λ (l : List (List ℕ)). get_or (rows_of l) (row_start ls n + c.args.k) 0) i.0.literals_are ∙ (found.1 ∙ ap (λ (l : LiteralSeen). get_or l.words c.args.k 0) c.self.view_is))
