use Rattle.made_input.proofs.Drawn.{stepped-is, drawn-is}
use Rattle.made_input.proofs.draws.Draws.draw.Goals as goal

pub returns-clause-number : goal.returns-clause-number
returns-clause-number c = drawn-is c.args.n c.args.self.now.state _ (stepped-is c.args.self.now.state)

pub returns-clause-state : goal.returns-clause-state
returns-clause-state c = stepped-is c.args.self.now.state
