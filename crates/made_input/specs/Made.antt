-- The input that is made from a number: a line that loads a source text, and lines that ask of it and edit it.
use Rattle.std.specs.Prelude.{ℕ, zero, suc, ◌+◌, ◌-◌, ◌%◌, ◌==◌, List, [], ◌∷◌, ◌++◌, Bool, codes, decimal, length, if◌then◌else◌}
use Rattle.json.specs.Print.{escape}
use Rattle.text_spec.specs.Text.{utf8, utf16}
use Rattle.made_input.specs.Draws.{drawn, stepped, in_turn, left_by}
use Rattle.made_input.specs.Pieces.{piece}

-- a text as it stands between the quotes of a JSON string: in UTF-8, a newline as the two bytes `\n`
unfoldable pub escaped : List ℕ → List ℕ
escaped text = escape (utf8 text)

-- a drawn piece
abbrev pub piece_drawn : ℕ → List ℕ
piece_drawn x = piece (drawn 8 x)

-- the source text: 1,000 pieces, each drawn
unfoldable pub source : ℕ → List ℕ
source x = in_turn (λ t. piece_drawn) (λ t. stepped) 1000 0 x

unfoldable pub after_source : ℕ → ℕ
after_source x = left_by (λ t. stepped) 1000 0 x

-- the length of the source text in UTF-16 units
unfoldable pub units : ℕ → ℕ
units x = length (utf16 (source x))

-- the first line
unfoldable pub load_line : ℕ → List ℕ
load_line x = codes "{\"load\":\"doc\",\"text\":\"" ++ (escaped (source x) ++ codes "\"}")

-- an op that asks for a place of a text of so many UTF-16 units
unfoldable pub at_op : ℕ → ℕ → List ℕ
at_op units x = codes "{\"at\":" ++ (decimal (drawn units x) ++ codes "}")

-- an op that puts a text in place of d units from unit a
unfoldable pub edit_text : ℕ → ℕ → List ℕ → List ℕ
edit_text a d text = codes "{\"edit\":[" ++ (decimal a ++ (codes "," ++ (decimal (a + d) ++ (codes "],\"with\":\"" ++ (escaped text ++ codes "\"}")))))

-- an op that edits a text of so many units: a place, how many units, and the piece are drawn in this order
unfoldable pub edit_op : ℕ → ℕ → List ℕ
edit_op units x = edit_text (drawn (units - 16) x) (drawn 8 (stepped x)) (piece_drawn (stepped (stepped x)))

-- every op whose number leaves 20 when divided by 21 is an edit
abbrev pub is_edit : ℕ → Bool
is_edit t = t % 21 == 20

unfoldable pub op : ℕ → ℕ → ℕ → List ℕ
op units t x = if is_edit t then edit_op units x else at_op units x

unfoldable pub after_op : ℕ → ℕ → ℕ
after_op t x = if is_edit t then stepped (stepped (stepped x)) else stepped x

-- a comma before each member of a list but the first
unfoldable pub comma : ℕ → List ℕ
comma t = if t == 0 then [] else codes ","

-- the ops of a job, numbered from 0
unfoldable pub ops : ℕ → ℕ → List ℕ
ops units x = in_turn (λ t y. comma t ++ op units t y) after_op 210 0 x

unfoldable pub after_ops : ℕ → ℕ
after_ops x = left_by after_op 210 0 x

-- the first job keeps its text
unfoldable pub keep : ℕ → List ℕ
keep j = if j == 0 then codes ",\"keep\":\"kept\"" else []

unfoldable pub job : ℕ → ℕ → ℕ → List ℕ
job units j x = codes "{\"do\":[" ++ (ops units x ++ (codes "]" ++ (keep j ++ codes ",\"on\":\"doc\"}")))

-- the jobs of a batch, numbered from 0
unfoldable pub jobs : ℕ → ℕ → List ℕ
jobs units x = in_turn (λ j y. comma j ++ job units j y) (λ j. after_ops) 8 0 x

-- the line of a batch
unfoldable pub batch_line : ℕ → ℕ → List ℕ
batch_line units x = codes "{\"batch\":[" ++ (jobs units x ++ codes "]}")

unfoldable pub after_batch : ℕ → ℕ
after_batch x = left_by (λ j. after_ops) 8 0 x

-- n such lines, each made from the state that the one before it leaves
abbrev pub batch_lines : ℕ → ℕ → ℕ → List (List ℕ)
batch_lines units zero x = []
batch_lines units (suc n) x = batch_line units x ∷ batch_lines units n (after_batch x)

-- the lines of the input: a load, and n - 1 batches
abbrev pub made_lines : ℕ → ℕ → List (List ℕ)
made_lines number n = load_line number ∷ batch_lines (units number) (n - 1) (after_source number)

-- lines one after another, each with its newline
abbrev pub joined : List (List ℕ) → List ℕ
joined [] = []
joined (line ∷ more) = line ++ 10 ∷ joined more

-- the input of n lines that is made from a number, where n isn't 0
unfoldable pub made : ℕ → ℕ → List ℕ
made number n = joined (made_lines number n)
