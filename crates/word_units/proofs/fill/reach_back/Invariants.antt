use Rattle.std.proofs.Common.{◌≡◌, ◌+◌, ◌*◌, ◌≤◌}
use Rattle.std.specs.Char.{len_utf8}
use Rattle.text_spec.specs.Offsets.{start, down}
use Rattle.text_spec.specs.Views.{width_in}
use Rattle.word_units.proofs.fill.reach_back.Given as goal

-- the scalars so far have room, each of a byte at least
abbrev pub invariant-scalars : goal.invariant-scalars
invariant-scalars g l =
    let w = width_in (g.T.Text.part l.fn.t).storage in
    let b = (g.T.Text.part l.fn.t).whole in
    record {
      same : l.t ≡ l.fn.t;
      within : start w b (g.T.Text.part l.fn.t).first ≤ l.from;
      order : l.from ≤ l.p;
      boundary : start w b (down w b l.from) ≡ l.from;
      size : start len_utf8 b (down w b l.from) + l.size ≡ start len_utf8 b (down w b l.p);
      fits : l.size ≤ 64;
      cost : l.steps ≤ l.fn.steps + 4 * l.size;
    }

abbrev pub decreases-scalars : goal.decreases-scalars
decreases-scalars g l = l.from
