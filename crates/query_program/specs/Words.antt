-- What the words of the command line ask for. Each option stands at most once, in any order, as the words `--x` and `v` or the word `--x=v`.
use Rattle.std.specs.Prelude.{◌≡◌, ℕ, ◌≤◌, ◌&&◌, Bool, List, [], ◌∷◌, Option, Some, None, IsSome, IfSome, codes, is_some, not, nat_le, nat_lt, ◌^◌, ◌==◌, if◌then◌else◌, option_and_then}
use Rattle.std.specs.List.{list_any, list_all, before_first, after_first}
use Rattle.std.specs.Char.{is_ascii_digit}
use Rattle.std.specs.Str.{bytes_eq}
use Rattle.std.specs.Str.Parse.{digits_value}
use Rattle.query_program.specs.declared.words.Name.{Name}
use Rattle.query_program.specs.declared.words.Name.TheVariants.{Workers, Make, Lines}
use Rattle.query_program.specs.declared.words.Found.{Found}
use Rattle.query_program.specs.declared.words.Made.{Made}
use Rattle.query_program.specs.declared.words.Told.{Told}

-- the name of an option
abbrev pub name_of : List ℕ → Option Name
name_of text =
    if bytes_eq text (codes "--workers") then Some Workers
    else if bytes_eq text (codes "--make") then Some Make
    else if bytes_eq text (codes "--lines") then Some Lines
    else None

-- one ASCII digit or more
abbrev pub is_number : List ℕ → Bool
is_number text = list_all is_ascii_digit text && not (bytes_eq text [])

-- the number that digits write, below 2^32; zeros in front count nothing
unfoldable pub number_of : List ℕ → Option ℕ
number_of text = if is_number text && nat_lt (digits_value 10 text) (2 ^ 32) then Some (digits_value 10 text) else None

-- nothing is told yet
abbrev pub nothing : Found
nothing = record { workers = None; make = None; lines = None }

-- an option that isn't told yet, with a number that it takes
abbrev pub told_once : Found → Name → ℕ → Option Found
told_once found Workers n = if not (is_some found.workers) && (nat_le 1 n && nat_le n 8) then Some (record found { workers = Some n }) else None
told_once found Make n = if not (is_some found.make) then Some (record found { make = Some n }) else None
told_once found Lines n = if not (is_some found.lines) && (nat_le 1 n && nat_le n 1000) then Some (record found { lines = Some n }) else None

-- an option by its name and its value
unfoldable pub told_by : Found → List ℕ → List ℕ → Option Found
told_by found name value = option_and_then (λ option. option_and_then (told_once found option) (number_of value)) (name_of name)

-- the word has a `=`, the byte 61; what stands before the first and behind it
abbrev pub has_equals : List ℕ → Bool
has_equals word = list_any (λ b. b == 61) word

abbrev pub before_equals : List ℕ → List ℕ
before_equals word = before_first (λ b. b == 61) word

abbrev pub behind_equals : List ℕ → List ℕ
behind_equals word = after_first (λ b. b == 61) word

-- the number of workers where it is told, and else 1
abbrev pub workers_of : Option ℕ → ℕ
workers_of (Some n) = n
workers_of None = 1

-- the numbers of the made input and of its lines, together or not at all
abbrev pub asked : ℕ → Option ℕ → Option ℕ → Option Told
asked workers None None = Some (record { workers = workers; made = None })
asked workers (Some number) (Some lines) = Some (record { workers = workers; made = Some (record { number = number; lines = lines }) })
asked workers None (Some lines) = None
asked workers (Some number) None = None

abbrev pub asked_by : Found → Option Told
asked_by found = asked (workers_of found.workers) found.make found.lines

-- what the words ask for, behind those that told what was found
abbrev pub asked_from : Found → List (List ℕ) → Option Told
asked_from found [] = asked_by found
asked_from found (word ∷ []) = if has_equals word then option_and_then asked_by (told_by found (before_equals word) (behind_equals word)) else None
asked_from found (word ∷ next ∷ more) =
    if has_equals word
    then option_and_then (λ f. asked_from f (next ∷ more)) (told_by found (before_equals word) (behind_equals word))
    else option_and_then (λ f. asked_from f more) (told_by found word next)

-- what the words ask for, where they are of the form
unfoldable pub options_of : List (List ℕ) → Option Told
options_of words = asked_from nothing words

abbrev pub IsLineCount : ℕ → Type 0
IsLineCount n = (1 ≤ n) × (n ≤ 1000)

abbrev pub IsWorkerCount : ℕ → Type 0
IsWorkerCount n = (1 ≤ n) × (n ≤ 8)

-- what is asked for has 1 to 8 workers, and 1 to 1,000 lines where an input is made
pub record IsInRange (told : Told) : Type 0 where
  pub workers : IsWorkerCount told.workers
  pub lines : IfSome told.made (λ made. IsLineCount made.lines)

-- the input that the words ask to be made
abbrev pub made_by : List (List ℕ) → Option Made
made_by words = option_and_then (λ told. told.made) (options_of words)

-- the words are of the form, and ask for no input to be made: it is read
abbrev pub IsPlain : List (List ℕ) → Type 0
IsPlain words = IsSome (options_of words) × (made_by words ≡ None)
