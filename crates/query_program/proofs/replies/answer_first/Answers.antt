use Rattle.std.proofs.Common.{rules, arith, ◌≡◌, take, drop, ap, length, length-drop, ◌+◌}
use Rattle.query_program.proofs.Cuts.{whole_lines-first, last_part-first}
use Rattle.query_program.proofs.replies.answer_first.Goals as goal

pub returns-clause-answered : goal.returns-clause-answered
returns-clause-answered g c =
    let bytes = c.args.buffer.now.bytes in
    let n = c.args.line_length in
    let rest : c.take_off.new.self.bytes ≡ drop (n + 1) bytes = search rules in
    record {
      line = take n bytes;
      lines = rw rest (whole_lines-first bytes n c.requires.first);
      rest = rw rest (last_part-first bytes n c.requires.first);
      reply = search rules;
      state = search rules;
      shorter = omega (arith, length-drop (n + 1) bytes, c.requires.first.0.high, ap length rest);
    }

pub returns-clause-done : goal.returns-clause-done
returns-clause-done g c =
    let bytes = c.args.buffer.now.bytes in
    let n = c.args.line_length in
    let rest : c.take_off.new.self.bytes ≡ drop (n + 1) bytes = search rules in
    record {
      line = take n bytes;
      lines_are = rw rest (whole_lines-first bytes n c.requires.first);
      done = search rules;
      reply = search rules;
    }
