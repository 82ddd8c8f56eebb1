use Rattle.std.proofs.Common.{◌≡◌, ◌+◌, ◌-◌, ◌*◌, ◌%◌, ◌<◌, ◌≤◌, drop}
use Rattle.std.specs.Cmp.Lexicographic.{slice_cmp}
use Rattle.std.specs.Ordering.{nat_cmp}
use Rattle.text_spec.specs.Packed.{content_words}
use Rattle.canon_order.specs.Codes.{in_a_word, wider}
use Rattle.canon_order.proofs.ascii.compare_ascii.Given as goal

-- the blocks so far decide nothing, and each took a word of both texts
abbrev pub invariant-parts : goal.invariant-parts
invariant-parts g l =
    let wide = wider (g.T.Text.part l.fn.a).storage (g.T.Text.part l.fn.b).storage in
    let a = (g.T.Text.part l.fn.a).whole in
    let b = (g.T.Text.part l.fn.b).whole in
    record {
      same : l.a ≡ l.fn.a;
      other_same : l.b ≡ l.fn.b;
      order : slice_cmp nat_cmp a b ≡ slice_cmp nat_cmp (drop l.at a) (drop l.at b);
      within : l.at ≤ l.shared;
      aligned : l.at < l.shared → l.at % in_a_word wide ≡ 0;
      cost : l.steps ≤ l.fn.steps + 2 * content_words wide l.at;
    }

abbrev pub decreases-parts : goal.decreases-parts
decreases-parts g l = l.shared - l.at
