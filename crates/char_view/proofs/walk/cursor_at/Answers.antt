use Rattle.char_view.specs.Places.{own_bytes}
use Rattle.char_view.proofs.walk.cursor_at.Goals as goal

pub returns-clause-on : goal.returns-clause-on
returns-clause-on g c =
    c.new.ensures.on (own_bytes (g.T.Text.part c.args.t.now)) c.requires.utf8 c.requires.len c.requires.cut
