-- UTF-8 on its way into a draft, and where a part of a value's text stands in its UTF-8.
use Rattle.std.specs.Prelude.{ℕ, ◌+◌, ◌*◌, ◌^◌, ◌<◌, List, [], ◌∷◌, ◌++◌, length, take, drop, slice_index}
use Rattle.text_spec.specs.Packed.{bytes_of}
use Rattle.text_spec.specs.Text.{utf8}
use Rattle.slot_table.specs.Owners.{DraftSeen}
use Rattle.str_value.specs.Meaning.{Meaning, byte_place}

-- a draft with its count word, and the bytes that are written behind it
pub record Writing : Type 0 where
  pub start : DraftSeen
  pub bytes : List ℕ

-- the bytes of the words behind the count word, and of so many that wait in one more
abbrev pub written_bytes : List ℕ → ℕ → ℕ → List ℕ
written_bytes written word waiting = bytes_of (drop 1 written ++ word ∷ []) (8 * length (drop 1 written) + waiting)

abbrev pub writing : DraftSeen → ℕ → ℕ → Writing
writing d word waiting = record { start = record d { written = take 1 d.written }; bytes = written_bytes d.written word waiting }

-- the count word is there, each word is one, and those that wait fill none
pub record IsWriting (written : List ℕ) (word waiting : ℕ) : Type 0 where
  pub some : 0 < length written
  pub few : waiting < 8
  pub small : word < 2 ^ (8 * waiting)
  pub fits : (k : ℕ) → slice_index (drop 1 written) k < 2 ^ 64

-- so many bytes of the UTF-8 from a place of the storage on
abbrev pub utf8_from : Meaning → ℕ → ℕ → List ℕ
utf8_from s at count = take count (drop (byte_place s at) (utf8 s.text))
