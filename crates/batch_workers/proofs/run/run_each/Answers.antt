use Rattle.std.proofs.Common.{rules, refl, [], ◌∷◌, ◌≡◌, ◌<◌, ◌≤◌, ◌+◌, ◌++◌, sym, ap, subst, ◌∙◌, drop, length, All, Some, true, false, inr, arith}
use Rattle.std.proofs.lemmas.List.Elements.{All-pop, All-push, All-get_or}
use Rattle.slot_accounts.specs.Account.{sum_of}
use Rattle.slot_accounts.proofs.Doing.{sum_of-append}
use Rattle.query_lines.specs.Replies.{IsShownOp}
use Rattle.batch_workers.specs.Ops.{op_replies, is_counts, is_at, finds_places, IsLeftBy}
use Rattle.batch_workers.specs.Working.{IsRun, Affords, edits_of}
use Rattle.batch_workers.proofs.Runs.{text-more, answers-more}
use Rattle.batch_workers.proofs.Working.{worked-nothing, worked-then, worked-more, run-nothing, run-then, native-more, learnable-first, at-finds, read-nothing, read-then, at_most, edit-one, on_err, some-length}
use Rattle.batch_workers.proofs.Reading.{read-none, read-more, read-most}
use Rattle.batch_workers.proofs.run.run_each.Goals as goal

pub returns-in_err-push-clause-some_first : goal.returns-in_err-push-clause-some_first
returns-in_err-push-clause-some_first g c =
    let more : c.loop-op.op-index < length c.args.ops.now = omega arith in
    let left : IsLeftBy c.args.s.now.text c.args.ops.now c.run_op.new.s.text = (
      c.loop-op.op-index + 1,
      text-more c.args.s.now.text c.loop-op.s.text c.run_op.new.s.text c.args.ops.now c.loop-op.op-index c.op-item.result more c.op-item.is c.loop-op.invariant.so_far
          c.in_ok-reply.ensures.text,
    ) in
    search (rules, left)

pub loop-op-preserved : goal.loop-op-preserved
loop-op-preserved g c =
    let more : c.loop-op.op-index < length c.args.ops.now = omega arith in
    let inv = c.loop-op.invariant in
    let reply = c.in_ok-reply.reply in
    let is = c.in_ok-reply.ensures in
    let pushed = c.in_ok-push.ensures.items in
    let asks = λ (asked : All (λ o. is_at o ≡ true) c.args.ops.now).
    subst (λ o. is_at o ≡ true) (sym c.op-item.is) (All-get_or (λ o. is_at o ≡ true) c.args.ops.now c.loop-op.op-index c.op-item.result more asked) in
    record {
      answers =
          subst (λ items. items ++ op_replies c.run_op.new.s.text (c.loop-op.answered + c.text_bytes-answered.result) (drop (c.loop-op.op-index + 1) c.args.ops.now)
          ≡ op_replies c.args.s.now.text c.args.spent c.args.ops.now) (sym pushed)
          (answers-more c.loop-op.replies.items _ c.loop-op.s.text c.run_op.new.s.text c.loop-op.answered _ reply c.args.ops.now c.loop-op.op-index c.op-item.result more c.op-item.is
          is.answer is.text (ap (λ n. c.loop-op.answered + n) c.text_bytes-answered.ensures) inv.answers);
      so_far = text-more c.args.s.now.text c.loop-op.s.text c.run_op.new.s.text c.args.ops.now c.loop-op.op-index c.op-item.result more c.op-item.is inv.so_far is.text;
      unedited = λ all.
          let none = All-pop (λ r. is_counts r ≡ false) c.push.new.self.items c.loop-op.replies.items (Some reply) pushed all in
          read-then _ _ _ (inv.unedited none.0) (is.unedited none.1);
      sole = λ at_first. is.sole (inv.sole at_first);
      shown = subst (All IsShownOp) (sym pushed) (All-push IsShownOp c.loop-op.replies.items reply inv.shown is.shown);
      within = omega (arith, is.within, c.text_bytes-answered.ensures);
      run =
          run-then c.args.pass.now c.args.s.now c.args.ops.now c.loop-op.op-index c.op-item.result c.loop-op.pass c.loop-op.s c.run_op.new.pass c.run_op.new.s _ _ _ inv.run is.worked asks
          (λ asked able later. let was = inv.learned (at-finds c.args.ops.now asked) (learnable-first able) in record { may = was.0.may; there = was.1 later })
          (omega (arith, ap (sum_of edits_of) pushed, sum_of-append edits_of c.loop-op.replies.items (reply ∷ [])));
      native =
          native-more reply c.loop-op.replies.items c.push.new.self.items c.args.pass.now c.args.s.now c.loop-op.pass c.loop-op.s c.run_op.new.s pushed inv.run.worked inv.native
          is.unedited is.native;
      at_most = at_most c.push.new.self.items c.loop-op.replies.items reply c.loop-op.op-index pushed inv.at_most;
      learned = λ asked able.
          let here = All-get_or (λ o. finds_places o ≡ true) c.args.ops.now c.loop-op.op-index c.op-item.result more asked in
          let knows = is.learned (subst (λ o. finds_places o ≡ true) (sym c.op-item.is) here) (inv.learned asked able).0 in
          (record { may = knows.may; can = inr knows.there }, λ _. knows.there);
      cost = λ asked soon.
          read-more c.args.s.now c.args.steps.now c.loop-op.op-index c.loop-op.pass c.loop-op.s c.loop-op.steps c.run_op.new.pass c.run_op.new.s c.run_op.new.steps
          (inv.cost asked soon) (is.quick (asks asked)) (is.soon (asks asked));
    }

-- ---- what was done as far as the ops are
pub loop-op-init : goal.loop-op-init
loop-op-init g c =
    let none = c.in_ok-replies.ensures.items in
    record {
      answers = ap (λ items. items ++ op_replies c.args.s.now.text c.args.spent c.args.ops.now) none;
      so_far = refl;
      unedited = λ all. read-nothing c.args.s.now c.args.s.now refl;
      sole = λ at_first. at_first;
      shown = λ k d h. absurd (omega (arith, ap length none, h));
      within = c.requires.within;
      run = run-nothing c.args.pass.now c.args.s.now c.args.ops.now _ c.requires.heap;
      native = λ some suits can. absurd (omega (arith, some, ap (sum_of edits_of) none));
      at_most = omega (arith, ap (sum_of edits_of) none);
      learned = λ asked able. (able, λ h. absurd (omega (arith, h)));
      cost = λ asked soon. read-none c.args.pass.now c.args.s.now c.args.steps.now soon;
    }

pub returns-in_err-replies-clause-left : goal.returns-in_err-replies-clause-left
returns-in_err-replies-clause-left g c =
    on_err c.from_residual.result _ (worked-nothing c.args.pass.now c.args.pass.now c.args.s.now c.args.s.now (length c.args.ops.now) refl refl c.requires.heap)

pub returns-in_err-reply-clause-some_first : goal.returns-in_err-reply-clause-some_first
returns-in_err-reply-clause-some_first g c =
    on_err c.from_residual-in_err-reply.result _ (c.loop-op.op-index, c.in_err-reply.ensures.left.0 ∙ c.loop-op.invariant.so_far)

pub returns-in_err-reply-clause-left : goal.returns-in_err-reply-clause-left
returns-in_err-reply-clause-left g c =
    let more : c.loop-op.op-index < length c.args.ops.now = omega arith in
    let inv = c.loop-op.invariant in
    on_err c.from_residual-in_err-reply.result _
    (worked-more c.args.pass.now c.args.s.now c.run_op.new.pass c.run_op.new.s _ _ (omega (arith, inv.at_most, more))
    (worked-then c.args.pass.now c.args.s.now c.loop-op.pass c.loop-op.s c.run_op.new.pass c.run_op.new.s _ 0 inv.run.worked c.in_err-reply.ensures.left.1))

pub returns-in_err-push-clause-left : goal.returns-in_err-push-clause-left
returns-in_err-push-clause-left g c =
    let more : c.loop-op.op-index < length c.args.ops.now = omega arith in
    let inv = c.loop-op.invariant in
    on_err c.from_residual-in_err-push.result _
    (worked-more c.args.pass.now c.args.s.now c.run_op.new.pass c.run_op.new.s _ _ (omega (arith, inv.at_most, more, edit-one c.in_ok-reply.reply))
    (worked-then c.args.pass.now c.args.s.now c.loop-op.pass c.loop-op.s c.run_op.new.pass c.run_op.new.s _ _ inv.run.worked c.in_ok-reply.ensures.worked.worked))

pub returns-clause-learned : goal.returns-clause-learned
returns-clause-learned g c some asked able =
    (c.loop-op.invariant.learned asked able).1 (omega (arith, c.loop-op-test.false, some-length c.args.ops.now some))

pub returns-clause-worked : goal.returns-clause-worked
returns-clause-worked g c =
    let run = c.loop-op.invariant.run in
    subst (λ replies. IsRun c.args.pass.now c.args.s.now c.args.ops.now c.loop-op.pass c.loop-op.s (sum_of edits_of replies)) (sym c.new.ensures)
    (record { worked = run.worked; installed = λ some asked able. run.installed (omega (arith, c.loop-op-test.false, some-length c.args.ops.now some)) asked able })

pub returns-clause-native : goal.returns-clause-native
returns-clause-native g c some suits can =
    let same = c.new.ensures in
    c.loop-op.invariant.native (subst (λ replies. 1 ≤ sum_of edits_of replies) same some) suits (subst (λ replies. Affords c.args.pass.now (sum_of edits_of replies)) same can)

-- ---- the words that were read
pub returns-clause-cost : goal.returns-clause-cost
returns-clause-cost g c asked soon =
    read-most c.args.s.now c.args.steps.now c.loop-op.op-index (length c.args.ops.now) c.loop-op.pass c.loop-op.s c.loop-op.steps (c.loop-op.invariant.cost asked soon) (omega arith)

pub returns-in_err-reply-clause-cost : goal.returns-in_err-reply-clause-cost
returns-in_err-reply-clause-cost g c asked soon =
    let more : c.loop-op.op-index < length c.args.ops.now = omega arith in
    let here = subst (λ o. is_at o ≡ true) (sym c.op-item.is) (All-get_or (λ o. is_at o ≡ true) c.args.ops.now c.loop-op.op-index c.op-item.result more asked) in
    read-most c.args.s.now c.args.steps.now (c.loop-op.op-index + 1) (length c.args.ops.now) c.run_op.new.pass c.run_op.new.s c.run_op.new.steps
    (read-more c.args.s.now c.args.steps.now c.loop-op.op-index c.loop-op.pass c.loop-op.s c.loop-op.steps c.run_op.new.pass c.run_op.new.s c.run_op.new.steps
    (c.loop-op.invariant.cost asked soon) (c.in_err-reply.ensures.quick here) (c.in_err-reply.ensures.soon here))
    (omega arith)

pub returns-in_err-push-clause-cost : goal.returns-in_err-push-clause-cost
returns-in_err-push-clause-cost g c asked soon =
    let more : c.loop-op.op-index < length c.args.ops.now = omega arith in
    let here = subst (λ o. is_at o ≡ true) (sym c.op-item.is) (All-get_or (λ o. is_at o ≡ true) c.args.ops.now c.loop-op.op-index c.op-item.result more asked) in
    read-most c.args.s.now c.args.steps.now (c.loop-op.op-index + 1) (length c.args.ops.now) c.run_op.new.pass c.run_op.new.s c.run_op.new.steps
    (read-more c.args.s.now c.args.steps.now c.loop-op.op-index c.loop-op.pass c.loop-op.s c.loop-op.steps c.run_op.new.pass c.run_op.new.s c.run_op.new.steps
    (c.loop-op.invariant.cost asked soon) (c.in_ok-reply.ensures.quick here) (c.in_ok-reply.ensures.soon here))
    (omega arith)
