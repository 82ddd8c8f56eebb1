use Rattle.library_tests.proofs.canon_order_tests.key_of.Given as goal

abbrev pub ghosts-key_with : goal.ghosts-key_with
ghosts-key_with a = record { name = a.blank.name; parts = a.blank.parts }
