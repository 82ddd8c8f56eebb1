use Rattle.std.proofs.Common.{arith}
use Rattle.char_view.proofs.Parts.{not_past}
use Rattle.char_view.proofs.walk.further.Goals as goal

-- the bytes of one scalar are nowhere cut
pub returns-clause-passed : goal.returns-clause-passed
returns-clause-passed g c = λ k low high cut.
    let there = c.place_after.ensures in
    absurd (omega (arith, high, not_past (g.T.Text.part c.args.t.now).storage _ _ _ c.args.place.offset c.args.place.position c.place_after.result.offset c.place_after.result.position k c.requires.place there.place there.number cut (omega (arith, low))))
