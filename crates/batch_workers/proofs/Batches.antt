-- A batch whole: its jobs in their order once the workers are done, and what they did together.
use Rattle.std.proofs.Common.{◌≡◌, ℕ, suc, ◌<◌, List, [], ◌∷◌, length, refl, sym, ap, ◌∙◌, subst}
use Rattle.std.specs.Global.{Vec}
use Rattle.slot_table.specs.Owners.{PassSeen}
use Rattle.batch_workers.specs.declared.jobs.Job.{Job}
use Rattle.batch_workers.specs.declared.jobs.Done.{Done}
use Rattle.batch_workers.specs.declared.jobs.Task.{Task}
use Rattle.batch_workers.specs.declared.jobs.Finished.{Finished}
use Rattle.batch_workers.specs.Batch.{spent_before}
use Rattle.batch_workers.specs.Sharing.{EachWorkedOn, IsSpread, WorkedBundles, jobs_of, IsDealt, EachShareOf, IsGathered}
use Rattle.batch_workers.proofs.Spreading.{worked-length, in_job_order}
use Rattle.batch_workers.proofs.Shares.{Together, together, each_share}

jobs-length : (ts : List Task) → length (jobs_of ts) ≡ length ts
jobs-length [] = refl
jobs-length (t ∷ ts) = ap suc (jobs-length ts)

module _ (count : ℕ) (p q : PassSeen) (js : List Job) (ts : List Task) (bs : List (Vec Task)) (cs : List (Vec Finished)) (many : count ≡ length js) (some : 0 < length bs) (dealt : IsDealt p js q ts)
    (spread : IsSpread ts bs) (worked : WorkedBundles (spent_before count) bs cs) where
  in_order : (fs : List Finished) × (length fs ≡ count) × IsSpread fs cs × EachShareOf q fs × EachWorkedOn (spent_before count) ts fs
  in_order =
      let o = in_job_order (spent_before count) ts bs cs some spread worked in (
        o.0,
        worked-length (spent_before count) ts o.0 o.1 ∙ (sym (jobs-length ts) ∙ (ap length dealt.jobs_are ∙ sym many)),
        o.2,
        (each_share (spent_before count) ts o.0 p q dealt.shares o.1).0,
        o.1,
      )

  -- what the jobs left, in their order, before the shares come back
  pub ordered : (fs : List Finished) × (length fs ≡ count) × IsSpread fs cs × EachShareOf q fs
  ordered = (in_order.0, in_order.1, in_order.2, in_order.3)

  pub all_together : (r : PassSeen) (ds : List Done) → ((fs : List Finished) → length fs ≡ count → IsSpread fs cs → EachShareOf q fs → IsGathered q fs r ds) → Together p js r ds
  all_together r ds gathered =
      let e = in_order in
      together p q r js ts e.0 ds dealt (subst (λ n. EachWorkedOn (spent_before n) ts e.0) many e.4) (gathered e.0 e.1 e.2 e.3)
