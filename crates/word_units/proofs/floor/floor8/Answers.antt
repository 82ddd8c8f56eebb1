use Rattle.std.proofs.Common.{◌≡◌, sym, ap, ◌∙◌, ◌-◌, ◌/◌, get_or, arith, ⊎_elim}
use Rattle.std.proofs.lemmas.Bool.{cases_lt, iff_false}
use Rattle.std.specs.Char.{len_utf8}
use Rattle.text_spec.proofs.Downward.{start-down}
use Rattle.word_units.proofs.Backing.{backs8}
use Rattle.word_units.proofs.floor.floor8.Goals as goal

pub back-init : goal.back-init
back-init g c =
    record {
      same = c.word-word.ensures.kept;
      before = omega arith;
      floor = start-down len_utf8 (g.T.Text.part c.args.t.now).whole c.args.p;
      here = c.word-word.ensures.value;
      cost = omega (arith, c.word-word.ensures.cost);
    }

-- a byte that continues a scalar isn't at the boundary
pub overflow_sub-place : goal.overflow_sub-place
overflow_sub-place g c =
    let b = (g.T.Text.part c.args.t.now).whole in
    let back = c.back.invariant in
    let backs = backs8 _ (g.T.Text.words c.args.t.now) _ b c.args.p c.back.place c.back.word _ c.requires.encoding c.count-count.ensures.value c.count-count.ensures.denotes
    c.requires.inside back.floor back.before back.here c.byte_in.ensures in
    let is = c.is_continuation.ensures.0 c.back-test.true in
    let more = backs.more is.0 is.1 in
    omega (arith, more)

pub back-preserved-then-place-eq7 : goal.back-preserved-then-place-eq7
back-preserved-then-place-eq7 g c =
    let b = (g.T.Text.part c.args.t.now).whole in
    let back = c.back.invariant in
    let backs = backs8 _ (g.T.Text.words c.args.t.now) _ b c.args.p c.back.place c.back.word _ c.requires.encoding c.count-count.ensures.value c.count-count.ensures.denotes
    c.requires.inside back.floor back.before back.here c.byte_in.ensures in
    let is = c.is_continuation.ensures.0 c.back-test.true in
    let more = backs.more is.0 is.1 in
    record {
      same = c.word-word-then-place-eq7.ensures.kept ∙ back.same;
      before = omega (arith, back.before);
      floor = omega (arith, more);
      here = c.word-word-then-place-eq7.ensures.value ∙ ap (λ v. get_or (g.T.Text.words v) ((c.back.place - 1) / 8) 0) back.same;
      cost = omega (arith, back.cost, more, c.if-place-eq7.true, c.word-word-then-place-eq7.ensures.cost);
    }

pub back-smaller : goal.back-smaller
back-smaller g c =
    let b = (g.T.Text.part c.args.t.now).whole in
    let back = c.back.invariant in
    let backs = backs8 _ (g.T.Text.words c.args.t.now) _ b c.args.p c.back.place c.back.word _ c.requires.encoding c.count-count.ensures.value c.count-count.ensures.denotes
    c.requires.inside back.floor back.before back.here c.byte_in.ensures in
    let is = c.is_continuation.ensures.0 c.back-test.true in
    let more = backs.more is.0 is.1 in
    omega (arith, more)

pub back-preserved : goal.back-preserved
back-preserved g c =
    let b = (g.T.Text.part c.args.t.now).whole in
    let back = c.back.invariant in
    let backs = backs8 _ (g.T.Text.words c.args.t.now) _ b c.args.p c.back.place c.back.word _ c.requires.encoding c.count-count.ensures.value c.count-count.ensures.denotes
    c.requires.inside back.floor back.before back.here c.byte_in.ensures in
    let is = c.is_continuation.ensures.0 c.back-test.true in
    let more = backs.more is.0 is.1 in
    let word : c.back.place / 8 ≡ (c.back.place - 1) / 8 = omega (arith, more, c.if-place-eq7.false) in
    record {
      same = back.same;
      before = omega (arith, back.before);
      floor = omega (arith, more);
      here = back.here ∙ ap (λ i. get_or (g.T.Text.words c.args.t.now) i 0) word;
      cost = omega (arith, back.cost, word);
    }

-- and the first one that doesn't is
pub returns-clause-value : goal.returns-clause-value
returns-clause-value g c =
    let b = (g.T.Text.part c.args.t.now).whole in
    let back = c.back.invariant in
    let backs = backs8 _ (g.T.Text.words c.args.t.now) _ b c.args.p c.back.place c.back.word _ c.requires.encoding c.count-count.ensures.value c.count-count.ensures.denotes
    c.requires.inside back.floor back.before back.here c.byte_in.ensures in
    let no = iff_false c.is_continuation.ensures c.back-test.false in
    sym (backs.stop (λ low. ⊎_elim (λ high. absurd (no (low, high))) (λ high. high) (cases_lt c.byte_in.result 192)))

pub returns-clause-cost : goal.returns-clause-cost
returns-clause-cost g c =
    let b = (g.T.Text.part c.args.t.now).whole in
    let back = c.back.invariant in
    let backs = backs8 _ (g.T.Text.words c.args.t.now) _ b c.args.p c.back.place c.back.word _ c.requires.encoding c.count-count.ensures.value c.count-count.ensures.denotes
    c.requires.inside back.floor back.before back.here c.byte_in.ensures in
    omega (arith, back.cost, backs.near, back.floor, back.before)
