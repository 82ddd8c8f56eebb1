-- Counts of faults: a fault has its cause in a count that rose, and a count rises at a fault alone.
use Rattle.std.specs.Prelude.{ℕ, ◌+◌, ◌-◌, ◌^◌, ◌≤◌, ◌==◌, if◌then◌else◌, min, Ok, Err}
use Rattle.std.specs.declared.result.Result.{Result}

-- one more, where a count stands at its type's last value
abbrev pub counted : ℕ → ℕ
counted n = min (n + 1) (2 ^ 64 - 1)

-- the count rose, or stands at its last value
abbrev pub Rose : ℕ → ℕ → Type 0
Rose before now = counted before ≤ now

-- a read that failed is a fault, and no other
abbrev pub faults_after_read : {E : Type 0} → Result ℕ E → ℕ → ℕ
faults_after_read (Ok n) faults = faults
faults_after_read (Err e) faults = counted faults

-- a write that failed or took nothing is a fault, and no other
abbrev pub faults_after_write : {E : Type 0} → Result ℕ E → ℕ → ℕ
faults_after_write (Ok n) faults = if n == 0 then counted faults else faults
faults_after_write (Err e) faults = counted faults
