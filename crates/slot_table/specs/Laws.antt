-- What is read of a reference's words after a sequence of writes. Read by callers.
use Rattle.std.specs.Prelude.{◌≡◌, ℕ, ◌≤◌, eqb, cond, List, [], ◌∷◌, length, get_or}
use Rattle.slot_model.specs.History.{put}

-- the words after some writes, each of a word at a place, in order
abbrev pub after_writes : List ℕ → List (ℕ × ℕ) → List ℕ
after_writes ws [] = ws
after_writes ws (p ∷ ps) = after_writes (put ws p.0 p.1) ps

-- each place is at most the number of words that there are then
abbrev pub MayWrite : List ℕ → List (ℕ × ℕ) → Type 0
MayWrite ws [] = Unit {0}
MayWrite ws (p ∷ ps) = (p.0 ≤ length ws) × MayWrite (put ws p.0 p.1) ps

-- the last word written at place k, and else the one that stood there
abbrev pub last_written : ℕ → ℕ → List (ℕ × ℕ) → ℕ
last_written k word [] = word
last_written k word (p ∷ ps) = last_written k (cond (eqb p.0 k) p.1 word) ps

-- each word is read as it was last written, and else as it was published
abbrev pub LastWriteIsRead : Type 0
LastWriteIsRead = (ws : List ℕ) (ps : List (ℕ × ℕ)) (k : ℕ) → MayWrite ws ps
    → get_or (after_writes ws ps) k 0 ≡ last_written k (get_or ws k 0) ps
