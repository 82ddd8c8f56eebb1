use Rattle.substring.proofs.view_tests.clusters.Given as goal

abbrev pub ghosts-cluster_answers : goal.ghosts-cluster_answers
ghosts-cluster_answers a = record { name = a.blank.name; parts = a.blank.parts }
