use Rattle.std.proofs.Common.{◌≡◌, ◌+◌, ◌/◌, ◌≤◌, slice_index}
use Rattle.std.specs.Char.{len_utf8}
use Rattle.text_spec.specs.Offsets.{start, down}
use Rattle.word_units.proofs.floor.floor8.Given as goal

-- the boundary isn't passed; the word at hand is the place's; and a word was read for each that was come into
abbrev pub invariant-back : goal.invariant-back
invariant-back g l =
    let b = (g.T.Text.part l.fn.t).whole in
    record {
      same : l.t ≡ l.fn.t;
      before : l.place ≤ l.p;
      floor : start len_utf8 b (down len_utf8 b l.p) ≤ l.place;
      here : l.word ≡ slice_index (g.T.Text.words l.fn.t) (l.place / 8);
      cost : l.steps + l.place / 8 ≡ l.fn.steps + 1 + l.p / 8;
    }

abbrev pub decreases-back : goal.decreases-back
decreases-back g l = l.place
