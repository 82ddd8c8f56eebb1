use Rattle.std.proofs.Common.{◌≡◌, ℕ, List, ◌+◌, ◌-◌, ◌*◌, ◌<◌, ◌≤◌, take, Some}
use Rattle.std.specs.Char.{len_utf8}
use Rattle.std.specs.Str.{IsUtf8}
use Rattle.text_spec.specs.declared.encoding.Encoding.TheVariants.{Utf8}
use Rattle.text_spec.specs.Offsets.{len_utf16, start, down}
use Rattle.text_spec.specs.Packed.{bytes_of, denoted_text}
use Rattle.crumbs.proofs.Matching.{HasFirst}
use Rattle.crumbs.proofs.fitting.is_list_of.Given as goal

-- the bytes so far are UTF-8; and if all of them are a text, the walk is at a boundary of it, and the side has its breadcrumbs so far
abbrev pub invariant-scalars : goal.invariant-scalars
invariant-scalars l =
    record {
      front : IsUtf8 (take l.at (bytes_of l.content l.count));
      within : l.at ≤ l.count;
      few : l.reached ≤ 2 * l.at;
      walked : (t : List ℕ) → denoted_text Utf8 l.content l.count ≡ Some t
          → (start len_utf8 t (down len_utf8 t l.at) ≡ l.at) × (start len_utf16 t (down len_utf8 t l.at) ≡ l.reached) × HasFirst t l.span l.side l.number;
      due : l.reached ≤ l.number * l.span;
      number_few : l.number ≤ l.reached + 1;
      last : 0 < l.number → (l.number - 1) * l.span < l.reached;
    }

abbrev pub decreases-scalars : goal.decreases-scalars
decreases-scalars l = l.count - l.at
