use Rattle.slot_bench.proofs.values.work.Given as goal

abbrev pub ghosts-learned : goal.ghosts-learned
ghosts-learned g a = record { name = a.blank.name; parts = a.blank.parts }
