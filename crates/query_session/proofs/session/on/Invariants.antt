use Rattle.query_session.proofs.session.on.Given as goal

abbrev pub ghosts-on_counted : goal.ghosts-on_counted
ghosts-on_counted a = record { name = a.blank.name; parts = a.blank.parts }
