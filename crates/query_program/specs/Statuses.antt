-- The statuses of a run.
use Rattle.std.specs.Prelude.{◌≡◌, ◌≢◌, ◌⊎◌, ℕ, Result, Ok, Err}
use Rattle.query_program.specs.Stops.{status_of}
use Rattle.query_program.specs.declared.stop.Stop.{Stop}

-- 0 and 2 to 7
abbrev pub IsStatus : ℕ → Type 0
IsStatus status = (status ≡ 0) ⊎ ((status ≡ 2) ⊎ ((status ≡ 3) ⊎ ((status ≡ 4) ⊎ ((status ≡ 5) ⊎ ((status ≡ 6) ⊎ (status ≡ 7))))))

-- with a made input only 0, 4 and 5 come
abbrev pub IsMadeStatus : ℕ → Type 0
IsMadeStatus status = (status ≡ 0) ⊎ ((status ≡ 4) ⊎ (status ≡ 5))

-- neither the words, nor a fault, nor want of memory ended the run
pub record IsUnhindered (status : ℕ) : Type 0 where
  pub words : status ≢ 2
  pub read : status ≢ 3
  pub write : status ≢ 4
  pub memory : status ≢ 5

-- the status of a run that reads
abbrev pub status_of_end : Result (Unit {0}) Stop → ℕ
status_of_end (Ok x) = 0
status_of_end (Err stop) = status_of stop
