-- What the writer of JSON tokens appends.
use Rattle.std.proofs.Common.{◌≡◌, ℕ, List, [], ◌∷◌}
use Rattle.std.proofs.lemmas.List.{append-nil}
use Rattle.json.specs.Token.{string}
use Rattle.json.specs.Print.{print, print_from, quoted}

-- a string alone is printed as it is quoted
pub print-string : (text : List ℕ) → print (string text ∷ []) ≡ quoted text
unfolding print_from
print-string text = append-nil (quoted text)
