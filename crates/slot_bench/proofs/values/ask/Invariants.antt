use Rattle.slot_bench.proofs.values.ask.Given as goal

abbrev pub ghosts-read : goal.ghosts-read
ghosts-read g a = record { name = a.blank.name; parts = a.blank.parts }

abbrev pub ghosts-asked : goal.ghosts-asked
ghosts-asked g a = record { name = a.blank.name; parts = a.blank.parts }

abbrev pub ghosts-learn : goal.ghosts-learn
ghosts-learn g a = record { name = a.blank.name; parts = a.blank.parts }
