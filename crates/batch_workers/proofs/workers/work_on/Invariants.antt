use Rattle.batch_workers.proofs.workers.work_on.Given as goal

abbrev pub ghosts-do_ops : goal.ghosts-do_ops
ghosts-do_ops g a = record { name = a.blank.name; parts = a.blank.parts }
