-- The first byte of a scalar in UTF-8 (the Unicode Standard, chapter 3, table 3-7).
use Rattle.std.specs.Prelude.{ℕ, Bool, nat_lt, nat_le, ◌||◌}

-- a scalar begins with the byte: no continuation byte, which is 0x80 to 0xBF
abbrev pub starts_scalar : ℕ → Bool
starts_scalar b = nat_lt b 0x80 || nat_le 0xC0 b

-- a scalar from 0x10000 on begins with it, which takes four bytes, and two units of UTF-16
abbrev pub starts_pair : ℕ → Bool
starts_pair b = nat_le 0xF0 b
