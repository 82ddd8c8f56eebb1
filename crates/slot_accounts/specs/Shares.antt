-- A pass that is dealt out in shares, one after another, and takes them back, the last first. Read by callers.
use Rattle.std.specs.Prelude.{◌≡◌, ℕ, List, [], ◌∷◌}
use Rattle.slot_table.specs.Owners.{PassSeen, Divided, Joined}

-- p was cut into these shares and q
abbrev pub Dealt : PassSeen → List PassSeen → PassSeen → Type 0
Dealt p [] q = q ≡ p
Dealt p (s ∷ ss) q = (m : PassSeen) × ((slots credits : ℕ) × Divided p slots credits m s) × Dealt m ss q

-- q took these shares back, the last first, and became r
abbrev pub Gathered : PassSeen → List PassSeen → PassSeen → Type 0
Gathered q [] r = r ≡ q
Gathered q (s ∷ ss) r = (m : PassSeen) × Gathered q ss m × Joined m s r
