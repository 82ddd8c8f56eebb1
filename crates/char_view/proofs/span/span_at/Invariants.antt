use Rattle.std.proofs.Common.{◌≡◌, ◌+◌, ◌-◌, ◌<◌, ◌≤◌}
use Rattle.word_units.specs.Parts.{part_of}
use Rattle.char_view.specs.Answers.{character_position, characters_in}
use Rattle.char_view.specs.Walks.{IsWalk}
use Rattle.char_view.proofs.span.span_at.Given as goal

-- Character `number` begins at `from`, not after the place, and the walk stands where it ends
abbrev pub invariant-characters : goal.invariant-characters
invariant-characters g l =
    let e = (g.T.Text.part l.fn.t).storage in
    let b = (g.T.Text.part l.fn.t).whole in
    let first = (g.T.Text.part l.fn.t).first in
    let end = (g.T.Text.part l.fn.t).end in
    record {
      same : l.t ≡ l.fn.t;
      walk : IsWalk (part_of e b first end) l.walk;
      within : l.number ≤ characters_in (part_of e b first end);
      from : l.from ≡ character_position (part_of e b first end) l.number;
      to : l.walk.at.position ≡ character_position (part_of e b first end) (l.number + 1);
      previous : 0 < l.number → l.previous ≡ character_position (part_of e b first end) (l.number - 1);
      behind : l.previous ≤ l.from;
      order : l.from ≤ l.walk.at.position;
      below : l.from ≤ l.p;
      passed : l.from < l.walk.at.position → (l.walk.number ≡ l.number + 1) × (l.number < characters_in (part_of e b first end));
      is_end : l.from ≡ l.walk.at.position → (l.walk.number ≡ l.number) × (l.number ≡ characters_in (part_of e b first end));
    }

abbrev pub decreases-characters : goal.decreases-characters
decreases-characters g l = l.p - l.from
