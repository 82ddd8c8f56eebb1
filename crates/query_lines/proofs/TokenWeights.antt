-- The tokens of a text hold no more than the text has bytes.
use Rattle.std.proofs.Common.{◌≡◌, ℕ, ◌+◌, ◌≤◌, suc, Bool, true, false, cond, ◌==◌, List, [], ◌∷◌, length, Option, Some, None, refl, arith}
use Rattle.json.specs.Token.{Token, begin_object, end_object, begin_array, end_array, key, string, number, boolean, null, bad}
use Rattle.json.specs.Ascii as ascii
use Rattle.json.specs.Text.{content, plain}
use Rattle.json.specs.Word.{head, literal, number_before, after_number, word}
use Rattle.json.specs.Lex.{Lexeme, token, comma, colon, Class, quote, backslash, operator, space, other, class, operator_lexeme, string_token, Mode, between, in_word, in_string, in_escape, lex_byte, lex, Place, fresh, after_value, after_comma, after_key, begins_colon, may_begin, if_allowed, place_token, punctuate, tokens}
use Rattle.json.specs.Align.{span_byte, span}
use Rattle.query_lines.proofs.Contents.{AtMost, content-span}

-- one for each token that begins a value, and one for each byte of its string
abbrev pub token_weight : Token → ℕ
token_weight begin_object = 1
token_weight end_object = 0
token_weight begin_array = 1
token_weight end_array = 0
token_weight (key s) = 0
token_weight (string s) = suc (length s)
token_weight (number s) = 1
token_weight (boolean b) = 1
token_weight null = 1
token_weight bad = 0

abbrev pub tokens_weight : List Token → ℕ
tokens_weight [] = 0
tokens_weight (t ∷ ts) = token_weight t + tokens_weight ts

abbrev lexeme_weight : Lexeme → ℕ
lexeme_weight (token t) = token_weight t
lexeme_weight comma = 0
lexeme_weight colon = 0

abbrev lexemes_weight : List Lexeme → ℕ
lexemes_weight [] = 0
lexemes_weight (l ∷ ls) = lexeme_weight l + lexemes_weight ls

-- a token of no string
record IsLight (t : Token) : Type 0 where
  light : token_weight t ≤ 1

record IsLightLexeme (l : Lexeme) : Type 0 where
  light : lexeme_weight l ≤ 1

chosen : (b : Bool) (t u : Token) → IsLight t → IsLight u → IsLight (cond b t u)
chosen true t u p q = p
chosen false t u p q = q

chosen_lexeme : (b : Bool) (l m : Lexeme) → IsLightLexeme l → IsLightLexeme m → IsLightLexeme (cond b l m)
chosen_lexeme true l m p q = p
chosen_lexeme false l m p q = q

lexeme : (l : Lexeme) → lexeme_weight l ≤ 1 → IsLightLexeme l
lexeme l h = record { light = h }

light_token : (t : Token) → token_weight t ≤ 1 → IsLight t
light_token t h = record { light = h }

bad_is_light : IsLight bad
bad_is_light = light_token bad (omega arith)

IsLight-number_before : (t : List ℕ) (o : Option (List ℕ)) → IsLight (number_before t o)
IsLight-number_before t None = bad_is_light
IsLight-number_before t (Some rest) = chosen _ (number _) bad (light_token (number _) (omega arith)) bad_is_light

IsLight-literal : (name t : List ℕ) (found : Token) → IsLight found → IsLight (literal name found t)
IsLight-literal name t found h = chosen _ found bad h bad_is_light

IsLight-word : (t : List ℕ) → IsLight (word t)
unfolding word
IsLight-word t =
    chosen (head t == ascii.lower_t) _ _ (IsLight-literal ascii.true_text t (boolean true) (light_token (boolean true) (omega arith)))
    (chosen (head t == ascii.lower_f) _ _ (IsLight-literal ascii.false_text t (boolean false) (light_token (boolean false) (omega arith)))
    (chosen (head t == ascii.lower_n) _ _ (IsLight-literal ascii.null_text t null (light_token null (omega arith))) (IsLight-number_before t (after_number t))))

IsLight-operator_lexeme : (x : ℕ) → IsLightLexeme (operator_lexeme x)
IsLight-operator_lexeme x =
    chosen_lexeme _ _ _ (lexeme (token begin_object) (omega arith)) (chosen_lexeme _ _ _ (lexeme (token end_object) (omega arith)) (chosen_lexeme _ _ _ (lexeme (token begin_array) (omega arith))
    (chosen_lexeme _ _ _ (lexeme (token end_array) (omega arith)) (chosen_lexeme _ _ _ (lexeme comma (omega arith)) (lexeme colon (omega arith))))))

string-weight : (n : ℕ) (o : Option (List ℕ)) → AtMost n o → token_weight (string_token o) ≤ suc n
string-weight n None h = omega arith
string-weight n (Some s) h = omega arith

-- the bytes that are still to be passed in a string
abbrev pending : Mode → List ℕ → ℕ
pending between xs = 0
pending in_word xs = 0
pending in_string xs = span in_string xs
pending in_escape xs = span in_escape xs

abbrev pending_byte : Mode → Class → List ℕ → ℕ
pending_byte between c xs = 0
pending_byte in_word c xs = 0
pending_byte in_string c xs = span_byte in_string c (λ next. span next xs)
pending_byte in_escape c xs = span_byte in_escape c (λ next. span next xs)

lex_byte-weight : (m : Mode) (c : Class) (x : ℕ) (xs : List ℕ) (k : Mode → List Lexeme) → ((next : Mode) → lexemes_weight (k next) + pending next xs ≤ length xs)
    → lexemes_weight (lex_byte m c x xs k) + pending_byte m c xs ≤ suc (length xs)
lex_byte-weight between quote x xs k h = omega (arith, h in_string, string-weight (span in_string xs) (content plain xs) (content-span plain xs))
lex_byte-weight between backslash x xs k h = omega (arith, h in_word)
lex_byte-weight between operator x xs k h = omega (arith, h between, (IsLight-operator_lexeme x).light)
lex_byte-weight between space x xs k h = omega (arith, h between)
lex_byte-weight between other x xs k h = omega (arith, h in_word, (IsLight-word (x ∷ xs)).light)
lex_byte-weight in_word quote x xs k h = omega (arith, h in_word)
lex_byte-weight in_word backslash x xs k h = omega (arith, h in_word)
lex_byte-weight in_word operator x xs k h = omega (arith, h between, (IsLight-operator_lexeme x).light)
lex_byte-weight in_word space x xs k h = omega (arith, h between)
lex_byte-weight in_word other x xs k h = omega (arith, h in_word)
lex_byte-weight in_string quote x xs k h = omega (arith, h between)
lex_byte-weight in_string backslash x xs k h = omega (arith, h in_escape)
lex_byte-weight in_string operator x xs k h = omega (arith, h in_string)
lex_byte-weight in_string space x xs k h = omega (arith, h in_string)
lex_byte-weight in_string other x xs k h = omega (arith, h in_string)
lex_byte-weight in_escape c x xs k h = omega (arith, h in_string)

pending-cons : (m : Mode) (x : ℕ) (xs : List ℕ) → pending m (x ∷ xs) ≡ pending_byte m (class x) xs
unfolding span
pending-cons between x xs = refl
pending-cons in_word x xs = refl
pending-cons in_string x xs = refl
pending-cons in_escape x xs = refl

pending-nil : (m : Mode) → pending m [] ≡ 0
unfolding span
pending-nil between = refl
pending-nil in_word = refl
pending-nil in_string = refl
pending-nil in_escape = refl

lex-weight : (m : Mode) (xs : List ℕ) → lexemes_weight (lex m xs) + pending m xs ≤ length xs
unfolding lex
lex-weight m [] = omega (arith, pending-nil m)
lex-weight m (x ∷ xs) = omega (arith, pending-cons m x xs, lex_byte-weight m (class x) x xs (λ next. lex next xs) (λ next. lex-weight next xs))

if_allowed-weight : (b : Bool) (t : Token) (k : Place → List Token) (next : Place) (n : ℕ) → tokens_weight (k next) ≤ n → tokens_weight (if_allowed b t k next) ≤ token_weight t + n
if_allowed-weight true t k next n h = omega arith
if_allowed-weight false t k next n h = omega arith

place_token-weight : (p : Place) (t : Token) (b : Bool) (k : Place → List Token) (n : ℕ) → ((next : Place) → tokens_weight (k next) ≤ n) → tokens_weight (place_token p t b k) ≤ token_weight t + n
place_token-weight p begin_object b k n h = if_allowed-weight _ begin_object k fresh n (h fresh)
place_token-weight p end_object b k n h = if_allowed-weight _ end_object k after_value n (h after_value)
place_token-weight p begin_array b k n h = if_allowed-weight _ begin_array k fresh n (h fresh)
place_token-weight p end_array b k n h = if_allowed-weight _ end_array k after_value n (h after_value)
place_token-weight p (key s) b k n h = omega arith
place_token-weight p (string s) true k n h = omega (arith, if_allowed-weight (may_begin p) (key s) k after_key n (h after_key))
place_token-weight p (string s) false k n h = if_allowed-weight _ (string s) k after_value n (h after_value)
place_token-weight p (number s) b k n h = if_allowed-weight _ (number s) k after_value n (h after_value)
place_token-weight p (boolean c) b k n h = if_allowed-weight _ (boolean c) k after_value n (h after_value)
place_token-weight p null b k n h = if_allowed-weight _ null k after_value n (h after_value)
place_token-weight p bad b k n h = omega arith

punctuate-weight : (p : Place) (ls : List Lexeme) → tokens_weight (punctuate p ls) ≤ lexemes_weight ls
unfolding punctuate
punctuate-weight fresh [] = omega arith
punctuate-weight after_value [] = omega arith
punctuate-weight after_comma [] = omega arith
punctuate-weight after_key [] = omega arith
punctuate-weight fresh (token t ∷ ls) = place_token-weight fresh t (begins_colon ls) (λ next. punctuate next ls) _ (λ next. punctuate-weight next ls)
punctuate-weight after_value (token t ∷ ls) = place_token-weight after_value t (begins_colon ls) (λ next. punctuate next ls) _ (λ next. punctuate-weight next ls)
punctuate-weight after_comma (token t ∷ ls) = place_token-weight after_comma t (begins_colon ls) (λ next. punctuate next ls) _ (λ next. punctuate-weight next ls)
punctuate-weight after_key (token t ∷ ls) = place_token-weight after_key t (begins_colon ls) (λ next. punctuate next ls) _ (λ next. punctuate-weight next ls)
punctuate-weight fresh (comma ∷ ls) = omega arith
punctuate-weight after_value (comma ∷ ls) = omega (arith, punctuate-weight after_comma ls)
punctuate-weight after_comma (comma ∷ ls) = omega arith
punctuate-weight after_key (comma ∷ ls) = omega arith
punctuate-weight fresh (colon ∷ ls) = omega arith
punctuate-weight after_value (colon ∷ ls) = omega arith
punctuate-weight after_comma (colon ∷ ls) = omega arith
punctuate-weight after_key (colon ∷ ls) = omega (arith, punctuate-weight fresh ls)

-- the tokens of a text hold at most as much as the text has bytes
pub tokens-weight : (text : List ℕ) → tokens_weight (tokens text) ≤ length text
tokens-weight text = omega (arith, punctuate-weight fresh (lex between text), lex-weight between text)
