use Rattle.std.proofs.Common.{◌≡◌, ◌+◌, ◌*◌, ◌<◌, ◌≤◌, length}
use Rattle.batch_workers.specs.Batch.{slots_each, credits_each}
use Rattle.batch_workers.proofs.Shares.{Dealing}
use Rattle.batch_workers.proofs.batch.deal.Given as goal

abbrev pub invariant-loop-job : goal.invariant-loop-job
invariant-loop-job l = record {
  dealing : Dealing l.fn.pass l.fn.jobs.items l.pass l.tasks.items l.job-iterator.rest.items;
  slots_are : l.slots ≡ slots_each l.fn.pass (length l.fn.jobs.items);
  credits_are : l.credits ≡ credits_each l.fn.pass (length l.fn.jobs.items);
  slots : l.slots * length l.job-iterator.rest.items ≤ length l.pass.free;
  credits : (l.credits + 1) * length l.job-iterator.rest.items < l.pass.credits;
  number : l.number + length l.job-iterator.rest.items ≡ length l.fn.jobs.items;
}
