-- The summary of a made input and the answers to it.
use Rattle.std.specs.Prelude.{ℕ, ◌+◌, ◌*◌, ◌%◌, ◌^◌, List, [], ◌∷◌, ◌++◌, codes, decimal, length}
use Rattle.made_input.specs.Made.{made}
use Rattle.query_program.specs.Answers.{answers}

-- m becomes (m * 31 + b) mod 2^32 at each byte b
abbrev pub mark_after : ℕ → List ℕ → ℕ
mark_after m [] = m
mark_after m (b ∷ bs) = mark_after ((m * 31 + b) % 2 ^ 32) bs

-- the mark of bytes, from 0 on
abbrev pub mark_of : List ℕ → ℕ
mark_of bytes = mark_after 0 bytes

-- a name, a number in decimal, and a newline
unfoldable pub summary_line : List ℕ → ℕ → List ℕ
summary_line name number = name ++ (decimal number ++ 10 ∷ [])

-- the four lines: how many lines were made, the bytes of the input and of the output, and the mark of the output
unfoldable pub summary_text : ℕ → ℕ → ℕ → ℕ → List ℕ
summary_text lines input output mark =
    summary_line (codes "lines ") lines ++ summary_line (codes "input ") input ++ summary_line (codes "output ") output ++ summary_line (codes "mark ") mark

-- the summary of the input of so many lines that is made from a number
unfoldable pub summary : ℕ → ℕ → List ℕ
summary number lines =
    let output = answers (made number lines) in summary_text lines (length (made number lines)) (length output) (mark_of output)
