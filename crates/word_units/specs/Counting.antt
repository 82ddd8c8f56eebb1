-- Scalars counted by the bytes of UTF-8 that begin them. A byte whose first two bits are 10 begins none, and of the others the first
-- bits tell how many bytes the scalar takes (The Unicode Standard, table 3-6).
use Rattle.std.specs.Prelude.{ℕ, zero, suc, ◌+◌, ◌/◌, ◌%◌, nat_lt, if◌then◌else◌}

-- how many scalars a byte begins, and how many bytes and UTF-16 units they take
abbrev pub scalars_begun : ℕ → ℕ
scalars_begun byte = if nat_lt byte 128 then 1 else if nat_lt byte 192 then 0 else 1

abbrev pub bytes_begun : ℕ → ℕ
bytes_begun byte = if nat_lt byte 128 then 1 else if nat_lt byte 192 then 0 else if nat_lt byte 224 then 2 else if nat_lt byte 240 then 3 else 4

abbrev pub units_begun : ℕ → ℕ
units_begun byte = if nat_lt byte 128 then 1 else if nat_lt byte 192 then 0 else if nat_lt byte 240 then 1 else 2

-- what is told of each of the first n bytes of a content word, added up
abbrev pub within : (ℕ → ℕ) → ℕ → ℕ → ℕ
within told zero word = 0
within told (suc n) word = told (word % 256) + within told n (word / 256)

-- how many UTF-16 units the scalars take that begin in the first n bytes of a content word
abbrev pub units_within : ℕ → ℕ → ℕ
units_within n word = within units_begun n word
