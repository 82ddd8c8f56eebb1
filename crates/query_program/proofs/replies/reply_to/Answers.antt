use Rattle.std.proofs.Common.{rules, ◌≡◌, None}
use Rattle.query_lines.specs.Commands.{command_of}
use Rattle.query_program.proofs.Doing.{step-done, line-refused}
use Rattle.query_program.proofs.Kept.{whole-after}
use Rattle.query_program.proofs.replies.reply_to.Goals as goal

pub returns-in-Ok-clause-whole : goal.returns-in-Ok-clause-whole
returns-in-Ok-clause-whole g c = whole-after c.step.result c.args.session.now c.step.new.self c.requires.whole c.step.ensures.failed c.step.ensures.accounted

pub returns-in-Ok-clause-done : goal.returns-in-Ok-clause-done
returns-in-Ok-clause-done g c = step-done c.step.result c.args.line.now _ _ _ _ _ c.in-Ok.ensures.ok (c.in-Ok.ensures.well_formed c.requires.short) c.step.ensures.reply c.step.ensures.stepped

pub returns-in-Err-Syntax-clause-done : goal.returns-in-Err-Syntax-clause-done
returns-in-Err-Syntax-clause-done g c =
    let none : command_of c.args.line.now ≡ None = search rules in line-refused c.args.line.now c.args.session.now.values c.args.session.now.pass none
