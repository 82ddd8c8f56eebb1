use Rattle.std.proofs.Common.{◌≡◌, ap, subst, ◌∙◌, ◌+◌, ◌*◌, ◌++◌, arith}
use Rattle.slot_table.specs.Owners.{DraftSeen}
use Rattle.crumbs.specs.Counting.{Seen, crumbs_below}
use Rattle.crumbs.proofs.Crumbing.{size16-le}
use Rattle.word_units.specs.Counting.{units_begun}
use Rattle.word_units.proofs.Spreading.{within_more}
use Rattle.crumbs.proofs.Seeing.{stepped_in, long8}
use Rattle.crumbs.proofs.Growing.{few_from_last}
use Rattle.crumbs.proofs.listing.write_word.Goals as goal

pub overflow_add-stop : goal.overflow_add-stop
overflow_add-stop g c =
    let b = (g.T.Text.part c.args.t.now).whole in
    omega (arith, c.bytes.invariant.seen.units_in, size16-le (g.T.Text.part c.args.t.now).storage b, c.count-count.ensures.value, c.count-count.ensures.small, c.units_at.ensures.few)

pub write_due-next-requires-clause-small : goal.write_due-next-requires-clause-small
write_due-next-requires-clause-small g c =
    let t = g.T.Text.part c.args.t.now in
    let l = c.bytes in
    let long = long8 t.storage c.count-count.result t.whole c.requires.storage c.count-count.ensures.value in
    let most = size16-le t.storage t.whole in
    let few = few_from_last l.next g.T.Text.STRIDE l.passed c.requires.some.0 l.invariant.last in
    let most16 = l.invariant.seen.units_in in (
      omega (arith, long, c.count-count.ensures.small),
      omega (arith, most16, most, c.count-count.ensures.value, c.count-count.ensures.small, c.units_at.ensures.few),
      omega (arith, few, most16, most, c.count-count.ensures.value, c.count-count.ensures.small),
    )

pub write_due-next-requires-clause-units : goal.write_due-next-requires-clause-units
write_due-next-requires-clause-units g c =
    let t = g.T.Text.part c.args.t.now in
    let l = c.bytes in
    let long = long8 t.storage c.count-count.result t.whole c.requires.storage c.count-count.ensures.value in
    let step = stepped_in t.storage (g.T.Text.words c.args.t.now) c.count-count.result t.whole c.args.k l.j l.passed c.args.word c.units_at.result
    c.requires.storage c.count-count.ensures.value c.count-count.ensures.denotes l.invariant.seen (omega arith) (omega (arith, long)) c.requires.here c.units_at.ensures.value in
    step.units

pub write_due-next-requires-clause-inside : goal.write_due-next-requires-clause-inside
write_due-next-requires-clause-inside g c =
    let t = g.T.Text.part c.args.t.now in
    let l = c.bytes in
    let long = long8 t.storage c.count-count.result t.whole c.requires.storage c.count-count.ensures.value in
    let step = stepped_in t.storage (g.T.Text.words c.args.t.now) c.count-count.result t.whole c.args.k l.j l.passed c.args.word c.units_at.result
    c.requires.storage c.count-count.ensures.value c.count-count.ensures.denotes l.invariant.seen (omega arith) (omega (arith, long)) c.requires.here c.units_at.ensures.value in
    omega (arith, step.more.units_in)

pub bytes-preserved : goal.bytes-preserved
bytes-preserved g c =
    let t = g.T.Text.part c.args.t.now in
    let l = c.bytes in
    let n = g.T.Text.STRIDE in
    let d = c.args.draft.now in
    let e = c.write_due-next.ensures in
    let r = c.write_due-next.result in
    let long = long8 t.storage c.count-count.result t.whole c.requires.storage c.count-count.ensures.value in
    let step = stepped_in t.storage (g.T.Text.words c.args.t.now) c.count-count.result t.whole c.args.k l.j l.passed c.args.word c.units_at.result
    c.requires.storage c.count-count.ensures.value c.count-count.ensures.denotes l.invariant.seen (omega arith) (omega (arith, long)) c.requires.here c.units_at.ensures.value in
    let place : 8 * c.args.k + l.j + 1 ≡ 8 * c.args.k + (l.j + 1) = omega arith in
    record {
      seen = subst (λ p. Seen t.whole p (l.passed + c.units_at.result)) place step.more;
      passed = omega (arith, l.invariant.passed, within_more units_begun l.j c.args.word, c.units_at.ensures.value);
      written = λ front is.
          let before = l.invariant.written front is in
          e.written front (ap (λ (x : DraftSeen). x.written) before)
          ∙ ap (λ (x : DraftSeen). record x { written = front ++ crumbs_below t.whole n r }) before;
      heap = e.heap ∙ l.invariant.heap;
      longer = omega (arith, e.longer, l.invariant.longer);
      due = e.due;
      last = e.last;
    }
