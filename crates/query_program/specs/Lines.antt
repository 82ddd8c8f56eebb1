-- The lines of an input: what stands before each newline, the byte 10, and after the last one.
use Rattle.std.specs.Prelude.{ℕ, List, [], ◌∷◌, ◌==◌}
use Rattle.std.specs.List.{slice_split}

-- the parts, less an empty last one
abbrev pub less_empty_end : List (List ℕ) → List (List ℕ)
less_empty_end [] = []
less_empty_end (x ∷ y ∷ more) = x ∷ less_empty_end (y ∷ more)
less_empty_end ([] ∷ []) = []
less_empty_end ((b ∷ bs) ∷ []) = (b ∷ bs) ∷ []

-- cut at each newline; what stands after the last one is a line where it isn't empty
abbrev pub lines : List ℕ → List (List ℕ)
lines bytes = less_empty_end (slice_split (λ b. b == 10) bytes)

-- the parts, less the last one
abbrev pub less_last : List (List ℕ) → List (List ℕ)
less_last [] = []
less_last (x ∷ []) = []
less_last (x ∷ y ∷ more) = x ∷ less_last (y ∷ more)

-- the last part
abbrev pub last_of : List (List ℕ) → List ℕ
last_of [] = []
last_of (x ∷ []) = x
last_of (x ∷ y ∷ more) = last_of (y ∷ more)

-- the lines whose newline is there
abbrev pub whole_lines : List ℕ → List (List ℕ)
whole_lines bytes = less_last (slice_split (λ b. b == 10) bytes)

-- what stands after the last newline
abbrev pub last_part : List ℕ → List ℕ
last_part bytes = last_of (slice_split (λ b. b == 10) bytes)
