-- A word cut at its first `=`, and the number that digits write.
use Rattle.std.proofs.Common.{◌||◌, ◌^◌, nat_lt, Bool, Result, Ok, Err, ◌≡◌, ◌≢◌, ℕ, ◌+◌, ◌<◌, true, false, ◌==◌, List, [], ◌∷◌, ◌++◌, length, get_or, refl, sym, ap, ◌∙◌, arith, take, drop, drop-cons, Some, None, suc, rules}
use Rattle.std.proofs.lemmas.List.{take_at, drop_at, drop_all, append_assoc, get_or_append_left, get_or_at, length_push}
use Rattle.std.proofs.lemmas.List.Sums.{position_or_len_is}
use Rattle.std.proofs.lemmas.Bool.{ltb-true}
use Rattle.std.proofs.lemmas.Bool.Decides.{nat_tests}
use Rattle.std.proofs.lemmas.Grind.{common_steps}
use Rattle.std.proofs.lemmas.Str.Parse.{IsNumeralModel, numerals_by_value, parse_digits}
use Rattle.std.specs.Result.{OkIff, result_ok}
use Rattle.std.specs.List.{list_any, list_all, before_first, after_first, position_or_len, slice_get}
use Rattle.std.specs.Prelude.{option_and_then}
use Rattle.std.proofs.lemmas.Option.{get_or_from_slice_get, slice_get_within}
use Rattle.query_program.specs.declared.words.Found.{Found}
use Rattle.query_program.specs.Words.{told_by, asked_from, number_of}
use Rattle.std.specs.Char.{is_ascii_digit}
use Rattle.std.specs.Str.Parse.{digits_value, ParsesUnsigned}

-- no byte of the list is c
abbrev pub Lacks : ℕ → List ℕ → Type 0
Lacks c xs = (i : ℕ) → i < length xs → get_or xs i 0 ≢ c

head_differs : (c x : ℕ) (xs : List ℕ) → Lacks c (x ∷ xs) → (x == c) ≡ false
head_differs c x xs h = let ne : x ≢ c = h 0 (grind (arith, common_steps)) in grind (arith, nat_tests)

lacks-tail : (c x : ℕ) (xs : List ℕ) → Lacks c (x ∷ xs) → Lacks c xs
lacks-tail c x xs h i lt = let k = h (i + 1) (grind (arith, common_steps)) in grind (arith, common_steps)

pub list_any-lacks : (c : ℕ) (xs : List ℕ) → Lacks c xs → list_any (λ x. x == c) xs ≡ false
list_any-lacks c [] h = refl
list_any-lacks c (x ∷ xs) h = rw (head_differs c x xs h) (list_any-lacks c xs (lacks-tail c x xs h))

same_test : (c : ℕ) → (c == c) ≡ true
same_test c = grind (arith, nat_tests)

pub list_any-at : (c : ℕ) (xs ys : List ℕ) → list_any (λ x. x == c) (xs ++ c ∷ ys) ≡ true
list_any-at c [] ys = rw (same_test c)
list_any-at c (x ∷ xs) ys = let rest = list_any-at c xs ys in elim (x == c) as (λ b. ◌||◌ b (list_any (λ y. y == c) (xs ++ c ∷ ys)) ≡ true) [ true ↦ refl | false ↦ rest ]

position_or_len-at : (c : ℕ) (xs ys : List ℕ) → Lacks c xs → position_or_len (λ x. x == c) (xs ++ c ∷ ys) ≡ length xs
position_or_len-at c xs ys h =
    position_or_len_is (λ x. x == c) (xs ++ c ∷ ys) (length xs) 0 (grind (arith, common_steps))
    (λ k lt. let ne = h k lt in rw get_or_append_left (grind (arith, nat_tests))) (λ _. rw (get_or_at xs c ys 0 (length xs) refl) (same_test c))

pub before_first-at : (c : ℕ) (xs ys : List ℕ) → Lacks c xs → before_first (λ x. x == c) (xs ++ c ∷ ys) ≡ xs
before_first-at c xs ys h = ap (λ n. take n (xs ++ c ∷ ys)) (position_or_len-at c xs ys h) ∙ take_at xs (c ∷ ys) (length xs) refl

pub after_first-at : (c : ℕ) (xs ys : List ℕ) → Lacks c xs → after_first (λ x. x == c) (xs ++ c ∷ ys) ≡ ys
after_first-at c xs ys h =
    ap (λ n. drop (n + 1) (xs ++ c ∷ ys)) (position_or_len-at c xs ys h)
    ∙ ap (drop (length xs + 1)) (sym (append_assoc xs (c ∷ []) ys)) ∙ drop_at (xs ++ c ∷ []) ys (length xs + 1) (length_push xs c)

pub numerals : IsNumeralModel (λ ds. list_all is_ascii_digit ds ≡ true) (digits_value 10)
numerals = numerals_by_value _ (search rules)

-- the words from a place on
pub from_place : (words : List (List ℕ)) (k j : ℕ) (word : List ℕ) → j ≡ k + 1 → slice_get words k ≡ Some word → drop k words ≡ word ∷ drop j words
from_place words k j word next h =
    let e = get_or_from_slice_get words k word [] h in
    let w = slice_get_within words k word h in
    let s : suc k ≡ j = omega (arith, next) in
    drop-cons words k [] w ∙ (ap (λ x. x ∷ drop (suc k) words) e ∙ ap (λ i. word ∷ drop i words) s)

in_one : (found : Found) (name value : List ℕ) (rest : List (List ℕ)) → Lacks 61 name → asked_from found ((name ++ 61 ∷ value) ∷ rest) ≡ option_and_then (λ f. asked_from f rest) (told_by found name value)
in_one found name value [] h = rw (list_any-at 61 name value, before_first-at 61 name value h, after_first-at 61 name value h)
in_one found name value (next ∷ more) h = rw (list_any-at 61 name value, before_first-at 61 name value h, after_first-at 61 name value h)

-- a word `name=value`
pub in_one_at : (found : Found) (words : List (List ℕ)) (k : ℕ) (word name value : List ℕ) → slice_get words k ≡ Some word → word ≡ name ++ 61 ∷ value → Lacks 61 name → asked_from found (drop k words) ≡ option_and_then (λ f. asked_from f (drop (k + 1) words)) (told_by found name value)
in_one_at found words k word name value at e h = ap (asked_from found) (from_place words k (k + 1) word refl at ∙ ap (λ x. x ∷ drop (k + 1) words) e) ∙ in_one found name value (drop (k + 1) words) h

-- a word with no `=`, and the next
pub in_two_at : (found : Found) (words : List (List ℕ)) (k : ℕ) (word next : List ℕ) → slice_get words k ≡ Some word → slice_get words (k + 1) ≡ Some next → Lacks 61 word → asked_from found (drop k words) ≡ option_and_then (λ f. asked_from f (drop (k + 2) words)) (told_by found word next)
in_two_at found words k word next at beside h =
    ap (asked_from found) (from_place words k (k + 1) word refl at ∙ ap (λ x. word ∷ x) (from_place words (k + 1) (k + 2) next (omega arith) beside)) ∙ rw (list_any-lacks 61 word h)

-- a word with no `=` that is the last
pub alone_at : (found : Found) (words : List (List ℕ)) (k : ℕ) (word : List ℕ) → slice_get words k ≡ Some word → k + 1 ≡ length words → Lacks 61 word → asked_from found (drop k words) ≡ None
alone_at found words k word at last h =
    ap (asked_from found) (from_place words k (k + 1) word refl at ∙ ap (λ x. word ∷ x) (drop_all (k + 1) words (omega (arith, last)))) ∙ rw (list_any-lacks 61 word h)

pub none_without : (text : List ℕ) → list_all is_ascii_digit text ≡ false → number_of text ≡ None
unfolding number_of
none_without text h = rw h

number_below : (b : ℕ) (bs : List ℕ) → list_all is_ascii_digit (b ∷ bs) ≡ true → digits_value 10 (b ∷ bs) < 2 ^ 32 → number_of (b ∷ bs) ≡ Some (digits_value 10 (b ∷ bs))
unfolding number_of
number_below b bs h below = let e : nat_lt (digits_value 10 (b ∷ bs)) (2 ^ 32) ≡ true = grind (arith, nat_tests) in rw (h, e)

number_above : (b : ℕ) (bs : List ℕ) (t : Bool) → list_all is_ascii_digit (b ∷ bs) ≡ true → nat_lt (digits_value 10 (b ∷ bs)) (2 ^ 32) ≡ t → ¬ (digits_value 10 (b ∷ bs) < 2 ^ 32) → number_of (b ∷ bs) ≡ None
unfolding number_of
number_above b bs true h e over = absurd (over (ltb-true _ _ e))
number_above b bs false h e over = rw (h, e)

number_none : number_of [] ≡ None
unfolding number_of
number_none = refl

some : (b : ℕ) (bs : List ℕ) → 0 < length (b ∷ bs)
some b bs = omega arith

number_by : {E : Type 0} (text : List ℕ) (r : Result ℕ E) → list_all is_ascii_digit text ≡ true → OkIff r ((0 < length text) × (digits_value 10 text < 2 ^ 32)) (digits_value 10 text) → result_ok r ≡ number_of text
number_by [] (Ok n) h d = absurd (omega (arith, d.0.0))
number_by [] (Err e) h d = sym number_none
number_by (b ∷ bs) (Ok n) h d = ap Some d.1 ∙ sym (number_below b bs h d.0.1)
number_by (b ∷ bs) (Err e) h d = sym (number_above b bs _ h refl (λ below. d (some b bs, below)))

pub number_read : {E : Type 0} (text : List ℕ) (r : Result ℕ E) → list_all is_ascii_digit text ≡ true → ParsesUnsigned 32 10 text r → result_ok r ≡ number_of text
number_read text r h p = number_by text r h (parse_digits numerals 32 text r p h)
