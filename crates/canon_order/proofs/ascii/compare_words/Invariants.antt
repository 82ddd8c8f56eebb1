use Rattle.std.proofs.Common.{◌≡◌, ℕ, List, drop}
use Rattle.std.specs.Cmp.Lexicographic.{slice_cmp}
use Rattle.std.specs.Ordering.{nat_cmp}
use Rattle.canon_order.specs.Codes.{HoldsCodes}
use Rattle.canon_order.proofs.ascii.compare_words.Given as goal

-- the places so far decide nothing
abbrev pub invariant-places : goal.invariant-places
invariant-places l = (a b : List ℕ) → HoldsCodes l.encodings.0 l.left a l.from l.to → HoldsCodes l.encodings.1 l.right b l.from l.to
    → slice_cmp nat_cmp (drop l.from a) (drop l.from b) ≡ slice_cmp nat_cmp (drop l.p a) (drop l.p b)
