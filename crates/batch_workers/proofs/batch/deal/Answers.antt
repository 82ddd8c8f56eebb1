use Rattle.std.proofs.Common.{◌≡◌, ℕ, suc, ◌+◌, ◌-◌, ◌*◌, ◌/◌, ◌<◌, ◌≤◌, min, List, length, sym, ap, ◌∙◌, subst, arith, length-append}
use Rattle.slot_table.specs.Owners.{PassSeen, Divided}
use Rattle.batch_workers.specs.Batch.{slots_each, credits_each}
use Rattle.batch_workers.specs.declared.jobs.Job.{Job}
use Rattle.batch_workers.specs.declared.jobs.Task.{Task}
use Rattle.batch_workers.proofs.Shares.{Dealing, dealing_none, dealing_more, slots_enough, credits_enough, times_suc}
use Rattle.batch_workers.proofs.batch.deal.Goals as goal

pub loop-job-init : goal.loop-job-init
loop-job-init c =
    let p = c.args.pass.now in let n = length c.args.jobs.items in
    let same = c.into_iter-job-iterator.ensures.into_iter_gives.0 in
    let none = c.in_ok-tasks.ensures.items in
    let rest : length c.into_iter-job-iterator.result.rest.items ≡ n = ap length same in
    let count : c.len-count.result ≡ n = c.len-count.ensures ∙ c.args.jobs.ok.0 in
    let spendable : c.credits-spendable.result ≡ p.credits - 1 = omega (arith, c.credits-spendable.ensures.credits) in
    let slots : c.free_slots.result / c.len-count.result ≡ slots_each p n = λ i. c.free_slots.ensures i / count i in
    let credits : c.min-credits.result ≡ credits_each p n = c.min-credits.ensures ∙ (λ i. min ((spendable i - count i) / count i) 8) in
    record {
      dealing = subst (λ (x : List Job × List Task). Dealing p c.args.jobs.items p x.1 x.0) (λ i. (sym same i, sym none i)) (dealing_none p c.args.jobs.items);
      slots_are = slots;
      credits_are = credits;
      slots = subst (λ (x : ℕ × ℕ). x.0 * x.1 ≤ length p.free) (λ i. (sym slots i, sym rest i)) (slots_enough p n);
      credits = subst (λ (x : ℕ × ℕ). (x.0 + 1) * x.1 < p.credits) (λ i. (sym credits i, sym rest i)) (credits_enough p n c.requires.credits);
      number = omega (arith, rest);
    }

pub loop-job-preserved : goal.loop-job-preserved
loop-job-preserved c =
    let p = c.args.pass.now in let n = length c.args.jobs.items in
    let l = c.loop-job in let inv = l.invariant in
    let each = c.free_slots.result / c.len-count.result in let spend = c.min-credits.result in
    let cut = c.in_ok-share.ensures.pass in
    let steps = c.in-Some.ensures.steps.0 in
    let left = length c.next.new.self.rest.items in
    let more : length l.job-iterator.rest.items ≡ suc left = ap length steps in
    let slots : each * suc left ≤ length l.pass.free = subst (λ k. each * k ≤ length l.pass.free) more inv.slots in
    let credits : (spend + 1) * suc left < l.pass.credits = subst (λ k. (spend + 1) * k < l.pass.credits) more inv.credits in
    let free : length l.pass.free ≡ length c.split.new.self.free + length c.in_ok-share.share.free = ap length cut.free_are ∙ length-append c.split.new.self.free c.in_ok-share.share.free in
    let task : Task = record { number = l.number; pass = c.in_ok-share.share; job = c.in-Some.job } in
    let stake : c.in_ok-share.share.credits ≡ spend + 1 = ap (λ (x : PassSeen). x.credits) cut.other_is in
    record {
      dealing = subst (λ (x : List Task). Dealing p c.args.jobs.items c.split.new.self x c.next.new.self.rest.items) (sym c.in_ok-push.ensures.items)
          (dealing_more p l.pass c.split.new.self c.args.jobs.items l.tasks.items task l.job-iterator.rest.items c.next.new.self.rest.items inv.dealing steps
          (subst (λ (x : ℕ × ℕ). Divided l.pass x.0 x.1 c.split.new.self c.in_ok-share.share) (λ i. (inv.slots_are i, inv.credits_are i)) cut));
      slots_are = inv.slots_are;
      credits_are = inv.credits_are;
      slots = omega (arith, slots, times_suc each left, free, cut.slots_are);
      credits = omega (arith, credits, times_suc (spend + 1) left, cut.credits_are, stake);
      number = omega (arith, inv.number, more);
    }
