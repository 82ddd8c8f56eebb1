use Rattle.library_tests.proofs.batch_workers_tests.replies.Given as goal

abbrev pub ghosts-replies_with : goal.ghosts-replies_with
ghosts-replies_with a = record { name = a.blank.name; parts = a.blank.parts }
