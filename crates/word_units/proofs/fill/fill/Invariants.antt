use Rattle.std.proofs.Common.{◌≡◌, ◌+◌, ◌-◌, ◌*◌, ◌≤◌, length, take}
use Rattle.std.specs.Char.{len_utf8}
use Rattle.text_spec.specs.Offsets.{start, down}
use Rattle.text_spec.specs.Text.{utf8}
use Rattle.text_spec.specs.Views.{width_in, part}
use Rattle.word_units.proofs.fill.fill.Given as goal

-- the scalars so far are written, each into a byte at least
abbrev pub invariant-scalars : goal.invariant-scalars
invariant-scalars g l =
    let w = width_in (g.T.Text.part l.fn.t).storage in
    let b = (g.T.Text.part l.fn.t).whole in
    record {
      same : l.t ≡ l.fn.t;
      bytes : take l.size l.buf ≡ utf8 (part b (down w b l.p) (down w b l.at));
      long : length (take l.size l.buf) ≡ l.size;
      size : start len_utf8 b (down w b l.p) + l.size ≡ start len_utf8 b (down w b l.at);
      fits : l.size ≤ 64;
      boundary : start w b (down w b l.at) ≡ l.at;
      order : l.p ≤ l.at;
      number : down w b l.p ≤ down w b l.at;
      within : l.at ≤ l.to;
      cost : l.steps ≤ l.fn.steps + 2 * l.size;
    }

abbrev pub decreases-scalars : goal.decreases-scalars
decreases-scalars g l = l.to - l.at
