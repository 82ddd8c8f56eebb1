use Rattle.std.proofs.Common.{◌≡◌, ◌+◌, ◌-◌, ◌*◌, ◌<◌, ◌≤◌, ◌++◌}
use Rattle.text_spec.specs.declared.encoding.Encoding.TheVariants.{Utf8}
use Rattle.index_words.specs.Crumbs.{size16}
use Rattle.text_spec.specs.Packed.{content_words}
use Rattle.text_spec.specs.Views.{size_in}
use Rattle.crumbs.specs.Counting.{Seen, crumbs_below}
use Rattle.crumbs.proofs.Seeing.{place_of_word}
use Rattle.crumbs.proofs.listing.build.Given as goal

-- the breadcrumbs of the units before word k are written, and each word before it is read a second time
abbrev pub invariant-words : goal.invariant-words
invariant-words g l =
    let b = (g.T.Text.part l.fn.t).whole in
    let n = g.T.Text.STRIDE in
    record {
      same : l.t ≡ l.fn.t;
      seen : Seen b (place_of_word l.count l.k) l.reached;
      written : l.draft ≡ record l.fn.draft { written = l.fn.draft.written ++ crumbs_below b n l.number };
      small : size16 b < 281474976710656;
      due : l.reached ≤ l.number * n;
      few : l.number ≤ l.reached + 1;
      last : 0 < l.number → (l.number - 1) * n < l.reached;
      cost : l.steps ≡ l.fn.steps + content_words Utf8 (size_in Utf8 b) + l.k;
    }
