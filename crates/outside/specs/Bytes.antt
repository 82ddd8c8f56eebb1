-- What a read does to the bytes to come, and a write to the bytes written, where they are told.
use Rattle.std.specs.Prelude.{◌≡◌, ℕ, ◌≤◌, List, length, take, MatchResult}
use Rattle.std.specs.declared.result.Result.{Result}
use Rattle.std.specs.declared.option.Option.{Option}
use Rattle.std.specs.Io.KnownBytes.{Consumes, Appends, Keeps, IsAtEnd}

-- the bytes to come lose the n that were read, which are none only at their end; an error takes none
abbrev pub ReadTakes : {E : Type 0} → Option (List ℕ) → Option (List ℕ) → Result ℕ E → List ℕ → Type 0
ReadTakes old new result buf = MatchResult result (λ n. Consumes old new (take n buf) × (n ≡ 0 → IsAtEnd new)) (λ _. Keeps old new)

-- the bytes written grow by some first part of bs
abbrev pub AppendsPrefix : Option (List ℕ) → Option (List ℕ) → List ℕ → Type 0
AppendsPrefix old new bs = (n : ℕ) × Appends old new (take n bs)

-- the bytes written grow by the n that were taken, and by some first part of the buffer after an error
abbrev pub WriteGrows : {E : Type 0} → Option (List ℕ) → Option (List ℕ) → Result ℕ E → List ℕ → Type 0
WriteGrows old new result buf = MatchResult result (λ n. (n ≤ length buf) × Appends old new (take n buf)) (λ _. AppendsPrefix old new buf)
