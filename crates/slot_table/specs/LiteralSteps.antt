-- Inner: how a literal is cut from a seat, and what its step tells it.
use Rattle.std.specs.Prelude.{◌≡◌, ℕ, ◌+◌, ◌<◌, length, get_or}
use Rattle.atomic_table.specs.Table.{Step}
use Rattle.literal_rows.specs.Rows.{rows_of}
use Rattle.slot_table.specs.declared.view.SeatView.{SeatView}
use Rattle.slot_table.specs.declared.view.Role.TheVariants.{Literal}
use Rattle.slot_table.specs.Addresses.{table_size}
use Rattle.slot_table.specs.Views.{Sat, blank}

-- a literal is cut from a pass, a reference or a literal, which stays as it is
abbrev pub literally : SeatView → SeatView
literally v = record (blank v.layout v.literals Literal) { front = v.front }

-- word j of the literals' rows is found
abbrev pub Recites : Step ℕ → Sat → ℕ → Sat → Type 0
Recites st m n m' = (m' ≡ m) × ((j : ℕ) → st.word ≡ table_size m.0.layout + j → j < length (rows_of m.0.literals)
    → n ≡ get_or (rows_of m.0.literals) j 0)
