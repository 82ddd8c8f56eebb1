use Rattle.std.proofs.Common.{◌≡◌, ◌+◌, ◌-◌, ◌%◌, ◌<◌, ◌≤◌, take}
use Rattle.text_spec.specs.declared.encoding.Encoding.TheVariants.{Utf8}
use Rattle.text_spec.specs.Packed.{content_words}
use Rattle.text_spec.specs.Text.{utf8}
use Rattle.canon_order.proofs.form.bytes_of.Given as goal

-- the words so far are copied, each read once
abbrev pub invariant-words : goal.invariant-words
invariant-words g l =
    record {
      same : l.t ≡ l.fn.t;
      bytes : l.bytes.items ≡ take l.at (utf8 (g.T.Text.part l.fn.t).whole);
      within : l.at ≤ l.count;
      aligned : l.at < l.count → l.at % 8 ≡ 0;
      cost : l.steps ≤ l.fn.steps + content_words Utf8 l.at;
    }

abbrev pub decreases-words : goal.decreases-words
decreases-words g l = l.count - l.at
