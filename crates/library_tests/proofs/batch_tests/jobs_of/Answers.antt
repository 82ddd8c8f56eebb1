use Rattle.std.proofs.Common.{◌≡◌, [], ◌∷◌, ◌++◌, sym, ◌∙◌}
use Rattle.std.proofs.lemmas.List.Elements.{All-push, All-same}
use Rattle.value_heaps.proofs.Moving.{of_heap_moves}
use Rattle.batch_workers.specs.Batch.{IsFit}
use Rattle.batch_workers.specs.declared.jobs.Job.{Job}
use Rattle.library_tests.proofs.batch_tests.jobs_of.Goals as goal

pub loop-number-preserved : goal.loop-number-preserved
loop-number-preserved c =
    let p = c.args.pass.now in let q = c.value_of.new.pass in let were = c.loop-number.jobs.items in
    let job : Job = record { value = c.in_ok-value.value; ops = c.in_ok-ops.ops } in
    let same : q.heap ≡ p.heap = c.in_ok-value.ensures.one_heap ∙ c.loop-number.invariant.heap in
    record {
      heap = same;
      fit = All-same (IsFit p) c.push.new.self.items (were ++ job ∷ []) c.in_ok-push.ensures.items
          (All-push (IsFit p) were job c.loop-number.invariant.fit
          (record { heap = of_heap_moves q p job.value.place (sym same) c.in_ok-value.ensures.heap; well_formed = c.in_ok-ops.ensures }));
    }
