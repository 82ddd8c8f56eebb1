-- How an input is cut into its whole lines and what stands after the last newline.
use Rattle.std.proofs.Common.{◌≡◌, refl, sym, ap, ◌∙◌, Bool, true, false, cond, List, [], ◌∷◌, ◌++◌, ℕ, zero, suc, ◌+◌, length, take, drop, get_or, ◌==◌, arith, ◌<◌, ◌≤◌, Some, None, subst, append_assoc, length-drop, All}
use Rattle.std.specs.List.{slice_split, onto_first, position_or_len}
use Rattle.std.proofs.lemmas.List.Elements.{All-append, All-nil}
use Rattle.std.proofs.lemmas.List.Splits.{slice_split_first, slice_split_none}
use Rattle.std.proofs.lemmas.List.{get_or_default}
use Rattle.std.proofs.lemmas.List.Sums.{position_or_len_is}
use Rattle.memchr.specs.Find.{IsFirstByte, is_byte}
use Rattle.query_program.specs.Lines.{lines, less_empty_end, less_last, last_of, whole_lines, last_part}

abbrev pub is_newline : ℕ → Bool
is_newline b = b == 10

abbrev pub cut : List ℕ → List (List ℕ)
cut bytes = slice_split is_newline bytes

-- there is a first part
pub some_part : (rest : List ℕ) → (p : List ℕ) × (ps : List (List ℕ)) × (cut rest ≡ p ∷ ps)
some_part [] = ([], [], refl)
some_part (b ∷ rest) =
    let h = some_part rest in
    elim (b == 10) as (λ v. (p : List ℕ) × (ps : List (List ℕ)) × (cond v ([] ∷ cut rest) (onto_first b (cut rest)) ≡ p ∷ ps)) [
      | true ↦ ([], cut rest, refl)
      | false ↦ (b ∷ h.0, h.1, rw h.2 refl)
    ]

-- the last of parts behind a first one
less_last-behind : (x : List ℕ) (parts : List (List ℕ)) (p : List ℕ) (ps : List (List ℕ)) → parts ≡ p ∷ ps → less_last (x ∷ parts) ≡ x ∷ less_last parts
less_last-behind x parts p ps e = rw e refl

last_of-behind : (x : List ℕ) (parts : List (List ℕ)) (p : List ℕ) (ps : List (List ℕ)) → parts ≡ p ∷ ps → last_of (x ∷ parts) ≡ last_of parts
last_of-behind x parts p ps e = rw e refl

-- lines are the whole lines and then the last part, where it isn't empty
lines-parts : (parts : List (List ℕ)) (p : List ℕ) (ps : List (List ℕ)) → parts ≡ p ∷ ps → less_empty_end parts ≡ less_last parts ++ less_empty_end (last_of parts ∷ [])
lines-parts [] p ps e = cc
lines-parts (x ∷ []) p ps e = refl
lines-parts (x ∷ y ∷ more) p ps e = ap (λ rest. x ∷ rest) (lines-parts (y ∷ more) y more refl)

pub lines-whole : (bytes : List ℕ) → lines bytes ≡ whole_lines bytes ++ less_empty_end (last_part bytes ∷ [])
lines-whole bytes = let s = some_part bytes in lines-parts (cut bytes) s.0 s.1 s.2

-- ---- what comes behind

onto_first-more : (x : ℕ) (b : List ℕ) (parts : List (List ℕ)) (p : List ℕ) (ps : List (List ℕ)) → parts ≡ p ∷ ps → (x == 10) ≡ false
    → onto_first x (less_last parts ++ cut (last_of parts ++ b)) ≡ less_last (onto_first x parts) ++ cut (last_of (onto_first x parts) ++ b)
onto_first-more x b [] p ps e differs = cc
onto_first-more x b (l ∷ []) p ps e differs = sym (ap (λ v. cond v ([] ∷ cut (l ++ b)) (onto_first x (cut (l ++ b)))) differs)
onto_first-more x b (l ∷ m ∷ more) p ps e differs = refl

-- the whole lines stay, and the rest is cut together with what stood after the last newline
pub cut-more : (a b : List ℕ) → cut (a ++ b) ≡ whole_lines a ++ cut (last_part a ++ b)
cut-more [] b = refl
cut-more (x ∷ a) b =
    let s = some_part a in
    let ih = cut-more a b in
    elim (x == 10) as (λ v. (x == 10) ≡ v → cond v ([] ∷ cut (a ++ b)) (onto_first x (cut (a ++ b))) ≡ less_last (cond v ([] ∷ cut a) (onto_first x (cut a))) ++ cut (last_of (cond v ([] ∷ cut a) (onto_first x (cut a))) ++ b)) [
      | true ↦ λ is. ap (λ rest. [] ∷ rest) ih ∙ sym (ap (λ xs. xs ++ cut (last_of ([] ∷ cut a) ++ b)) (less_last-behind [] (cut a) s.0 s.1 s.2) ∙ ap (λ l. ([] ∷ less_last (cut a)) ++ cut (l ++ b)) (last_of-behind [] (cut a) s.0 s.1 s.2))
      | false ↦ λ is. ap (onto_first x) ih ∙ onto_first-more x b (cut a) s.0 s.1 s.2 is
    ] refl

rest-last : (x : List ℕ) (xs parts : List (List ℕ)) (p : List ℕ) (ps : List (List ℕ)) → parts ≡ p ∷ ps → less_last (xs ++ parts) ≡ xs ++ less_last parts → less_last (x ∷ (xs ++ parts)) ≡ x ∷ (xs ++ less_last parts)
rest-last x [] parts p ps e ih = less_last-behind x parts p ps e
rest-last x (y ∷ xs) parts p ps e ih = ap (λ rest. x ∷ rest) ih

less_last-append : (xs parts : List (List ℕ)) (p : List ℕ) (ps : List (List ℕ)) → parts ≡ p ∷ ps → less_last (xs ++ parts) ≡ xs ++ less_last parts
less_last-append [] parts p ps e = refl
less_last-append (x ∷ xs) parts p ps e = rest-last x xs parts p ps e (less_last-append xs parts p ps e)

last_of-append : (xs parts : List (List ℕ)) (p : List ℕ) (ps : List (List ℕ)) → parts ≡ p ∷ ps → last_of (xs ++ parts) ≡ last_of parts
last_of-append [] parts p ps e = refl
last_of-append (x ∷ []) parts p ps e = last_of-behind x parts p ps e
last_of-append (x ∷ y ∷ xs) parts p ps e = last_of-append (y ∷ xs) parts p ps e

pub whole_lines-more : (a b : List ℕ) → whole_lines (a ++ b) ≡ whole_lines a ++ whole_lines (last_part a ++ b)
whole_lines-more a b = let s = some_part (last_part a ++ b) in ap less_last (cut-more a b) ∙ less_last-append (whole_lines a) (cut (last_part a ++ b)) s.0 s.1 s.2

pub last_part-more : (a b : List ℕ) → last_part (a ++ b) ≡ last_part (last_part a ++ b)
last_part-more a b = let s = some_part (last_part a ++ b) in ap last_of (cut-more a b) ∙ last_of-append (whole_lines a) (cut (last_part a ++ b)) s.0 s.1 s.2

-- the lines of more bytes begin with the whole lines
pub lines-more : (a b : List ℕ) → lines (a ++ b) ≡ whole_lines a ++ lines (last_part a ++ b)
lines-more a b =
    lines-whole (a ++ b) ∙ ap (λ xs. xs ++ less_empty_end (last_part (a ++ b) ∷ [])) (whole_lines-more a b)
    ∙ ap (λ l. (whole_lines a ++ whole_lines (last_part a ++ b)) ++ less_empty_end (l ∷ [])) (last_part-more a b)
    ∙ append_assoc (whole_lines a) (whole_lines (last_part a ++ b)) (less_empty_end (last_part (last_part a ++ b) ∷ []))
    ∙ ap (λ xs. whole_lines a ++ xs) (sym (lines-whole (last_part a ++ b)))

-- ---- the first newline

not-newline : (b : Bool) → (b ≡ true → ⊥) → b ≡ false
not-newline true h = absurd (h refl)
not-newline false h = refl

pub cut-first : (bytes : List ℕ) (n : ℕ) → IsFirstByte (is_byte 10) bytes (Some n) → cut bytes ≡ take n bytes ∷ cut (drop (n + 1) bytes)
cut-first bytes n first =
    let place : position_or_len is_newline bytes ≡ n = position_or_len_is is_newline bytes n 0 (omega (arith, first.0.high)) (λ k below. not-newline (get_or bytes k 0 == 10) (first.0.before k (omega arith) below)) (λ _. first.1) in
    subst (λ k. cut bytes ≡ take k bytes ∷ cut (drop (k + 1) bytes)) place (slice_split_first is_newline bytes 0 (omega (arith, place, first.0.high)))

pub cut-none : (bytes : List ℕ) → IsFirstByte (is_byte 10) bytes None → cut bytes ≡ bytes ∷ []
cut-none bytes none = slice_split_none is_newline bytes (λ k x h. not-newline (get_or bytes k x == 10) (λ is. none k (omega arith) h (ap (λ y. y == 10) (get_or_default bytes k 0 x h) ∙ is)))

pub whole_lines-first : (bytes : List ℕ) (n : ℕ) → IsFirstByte (is_byte 10) bytes (Some n) → whole_lines bytes ≡ take n bytes ∷ whole_lines (drop (n + 1) bytes)
whole_lines-first bytes n first =
    let s = some_part (drop (n + 1) bytes) in
    ap less_last (cut-first bytes n first) ∙ less_last-behind (take n bytes) (cut (drop (n + 1) bytes)) s.0 s.1 s.2

pub last_part-first : (bytes : List ℕ) (n : ℕ) → IsFirstByte (is_byte 10) bytes (Some n) → last_part bytes ≡ last_part (drop (n + 1) bytes)
last_part-first bytes n first =
    let s = some_part (drop (n + 1) bytes) in
    ap last_of (cut-first bytes n first) ∙ last_of-behind (take n bytes) (cut (drop (n + 1) bytes)) s.0 s.1 s.2

pub whole_lines-none : (bytes : List ℕ) → IsFirstByte (is_byte 10) bytes None → whole_lines bytes ≡ []
whole_lines-none bytes none = ap less_last (cut-none bytes none)

pub last_part-none : (bytes : List ℕ) → IsFirstByte (is_byte 10) bytes None → last_part bytes ≡ bytes
last_part-none bytes none = ap last_of (cut-none bytes none)

last_of-onto : (x n : ℕ) (parts : List (List ℕ)) (p : List ℕ) (ps : List (List ℕ)) → parts ≡ p ∷ ps → length (last_of parts) ≤ n → length (last_of (onto_first x parts)) ≤ n + 1
last_of-onto x n [] p ps e h = cc
last_of-onto x n (l ∷ []) p ps e h = omega (arith, h)
last_of-onto x n (l ∷ m ∷ more) p ps e h = omega (arith, h)

-- what stands behind the last newline is no longer than all
pub last_part-le : (bytes : List ℕ) → length (last_part bytes) ≤ length bytes
last_part-le [] = omega arith
last_part-le (x ∷ bytes) =
    let s = some_part bytes in
    let rest = last_part-le bytes in
    elim (x == 10) as (λ v. length (last_of (cond v ([] ∷ cut bytes) (onto_first x (cut bytes)))) ≤ length (x ∷ bytes)) [
      | true ↦ subst (λ l. length l ≤ length (x ∷ bytes)) (sym (last_of-behind [] (cut bytes) s.0 s.1 s.2)) (omega (arith, rest))
      | false ↦ omega (arith, last_of-onto x (length bytes) (cut bytes) s.0 s.1 s.2 rest)
    ]

-- and shorter, where there is a newline
pub last_part-less : (bytes : List ℕ) (n : ℕ) → IsFirstByte (is_byte 10) bytes (Some n) → length (last_part bytes) < length bytes
last_part-less bytes n first =
    omega (arith, ap length (last_part-first bytes n first), last_part-le (drop (n + 1) bytes), length-drop (n + 1) bytes, first.0.high)

-- ---- parts without a newline

abbrev pub NoNewline : List ℕ → Type 0
NoNewline [] = Unit {0}
NoNewline (x ∷ xs) = ((x == 10) ≡ false) × NoNewline xs

no_newline-onto : (x : ℕ) (parts : List (List ℕ)) (p : List ℕ) (ps : List (List ℕ)) → parts ≡ p ∷ ps → (x == 10) ≡ false → NoNewline (last_of parts) → NoNewline (last_of (onto_first x parts))
no_newline-onto x [] p ps e differs rest = cc
no_newline-onto x (l ∷ []) p ps e differs rest = (differs, rest)
no_newline-onto x (l ∷ m ∷ more) p ps e differs rest = rest

pub last_part-no_newline : (bytes : List ℕ) → NoNewline (last_part bytes)
last_part-no_newline [] = tt
last_part-no_newline (x ∷ bytes) =
    let s = some_part bytes in
    elim (x == 10) as (λ v. (x == 10) ≡ v → NoNewline (last_of (cond v ([] ∷ cut bytes) (onto_first x (cut bytes))))) [
      | true ↦ λ is. subst NoNewline (sym (last_of-behind [] (cut bytes) s.0 s.1 s.2)) (last_part-no_newline bytes)
      | false ↦ λ is. no_newline-onto x (cut bytes) s.0 s.1 s.2 is (last_part-no_newline bytes)
    ] refl

-- a part without a newline begins the first line
pub cut-longer : (p more : List ℕ) → NoNewline p → (rest : List ℕ) × (after : List (List ℕ)) × (cut (p ++ more) ≡ (p ++ rest) ∷ after)
cut-longer [] more h = some_part more
cut-longer (x ∷ p) more h =
    let r = cut-longer p more h.1 in
    (r.0, r.1, ap (λ v. cond v ([] ∷ cut (p ++ more)) (onto_first x (cut (p ++ more)))) h.0 ∙ ap (onto_first x) r.2)

less_empty_end-first : (x : ℕ) (xs : List ℕ) (after : List (List ℕ)) → (more : List (List ℕ)) × (less_empty_end ((x ∷ xs) ∷ after) ≡ (x ∷ xs) ∷ more)
less_empty_end-first x xs [] = ([], refl)
less_empty_end-first x xs (y ∷ after) = (less_empty_end (y ∷ after), refl)

pub lines-longer : (p more : List ℕ) → NoNewline p → 0 < length p → (rest : List ℕ) × (after : List (List ℕ)) × (lines (p ++ more) ≡ (p ++ rest) ∷ after)
lines-longer [] more h some = absurd (omega (arith, some))
lines-longer (x ∷ p) more h some =
    let r = cut-longer (x ∷ p) more h in
    let e = less_empty_end-first x (p ++ r.0) r.1 in
    (r.0, e.0, ap less_empty_end r.2 ∙ e.1)

less_empty_end-one : (p : List ℕ) (byte : ℕ) (is : Bool) → less_empty_end (cond is (p ∷ [] ∷ []) ((p ++ byte ∷ []) ∷ [])) ≡ cond is p (p ++ byte ∷ []) ∷ []
less_empty_end-one p byte true = refl
less_empty_end-one [] byte false = refl
less_empty_end-one (x ∷ p) byte false = refl

onto-cond : (x : ℕ) (p : List ℕ) (byte : ℕ) (is : Bool) → onto_first x (cond is (p ∷ [] ∷ []) ((p ++ byte ∷ []) ∷ [])) ≡ cond is ((x ∷ p) ∷ [] ∷ []) (((x ∷ p) ++ byte ∷ []) ∷ [])
onto-cond x p byte true = refl
onto-cond x p byte false = refl

cut-one_more : (p : List ℕ) (byte : ℕ) → NoNewline p → cut (p ++ byte ∷ []) ≡ cond (byte == 10) (p ∷ [] ∷ []) ((p ++ byte ∷ []) ∷ [])
cut-one_more [] byte h = elim (byte == 10) as (λ v. cond v ([] ∷ cut []) (onto_first byte (cut [])) ≡ cond v ([] ∷ [] ∷ []) ((byte ∷ []) ∷ [])) [ true ↦ refl | false ↦ refl ]
cut-one_more (x ∷ p) byte h =
    ap (λ v. cond v ([] ∷ cut (p ++ byte ∷ [])) (onto_first x (cut (p ++ byte ∷ [])))) h.0
    ∙ ap (onto_first x) (cut-one_more p byte h.1)
    ∙ onto-cond x p byte (byte == 10)

-- one byte behind a part without a newline
pub lines-one_more : (p : List ℕ) (byte : ℕ) → NoNewline p → lines (p ++ byte ∷ []) ≡ cond (byte == 10) p (p ++ byte ∷ []) ∷ []
lines-one_more p byte h = ap less_empty_end (cut-one_more p byte h) ∙ less_empty_end-one p byte (byte == 10)

-- ---- whole lines are shorter than all bytes

abbrev AllBelow : ℕ → List (List ℕ) → Type 0
AllBelow n [] = Unit {0}
AllBelow n (l ∷ ls) = (length l < n) × AllBelow n ls

below-more : (n m : ℕ) (ls : List (List ℕ)) → n < m → AllBelow n ls → AllBelow m ls
below-more n m [] less h = tt
below-more n m (l ∷ ls) less h = (omega (arith, h.0, less), below-more n m ls less h.1)

below-onto : (x n m : ℕ) (parts : List (List ℕ)) → n < m → AllBelow n (less_last parts) → AllBelow m (less_last (onto_first x parts))
below-onto x n m [] less h = tt
below-onto x n m (l ∷ []) less h = tt
below-onto x n m (l ∷ k ∷ more) less h = (let e : length (x ∷ l) ≡ length l + 1 = omega arith in omega (arith, h.0, less, e), below-more n m (less_last (k ∷ more)) less h.1)

whole_lines-below : (bytes : List ℕ) → AllBelow (length bytes) (whole_lines bytes)
whole_lines-below [] = tt
whole_lines-below (x ∷ bytes) =
    let s = some_part bytes in
    let m = length (x ∷ bytes) in
    let less : length bytes < length (x ∷ bytes) = omega arith in
    elim (x == 10) as (λ v. AllBelow (length (x ∷ bytes)) (less_last (cond v ([] ∷ cut bytes) (onto_first x (cut bytes))))) [
      | true ↦ subst (AllBelow m) (sym (less_last-behind [] (cut bytes) s.0 s.1 s.2)) (omega (arith, less), below-more (length bytes) m (whole_lines bytes) less (whole_lines-below bytes))
      | false ↦ below-onto x (length bytes) m (cut bytes) less (whole_lines-below bytes)
    ]

pub one-all : (P : List ℕ → Type 0) (l : List ℕ) → P l → All P (l ∷ [])
one-all P l p zero d h = p
one-all P l p (suc k) d h = absurd (omega (arith, h))

all-from_below : (n limit : ℕ) (ls : List (List ℕ)) → n ≤ limit + 1 → AllBelow n ls → All (λ l. length l ≤ limit) ls
all-from_below n limit [] h b = All-nil (λ l. length l ≤ limit)
all-from_below n limit (l ∷ ls) h b = All-append (λ x. length x ≤ limit) (l ∷ []) ls (one-all (λ x. length x ≤ limit) l (omega (arith, b.0, h))) (all-from_below n limit ls h b.1)

pub whole_lines-short : (bytes : List ℕ) (limit : ℕ) → length bytes ≤ limit + 1 → All (λ l. length l ≤ limit) (whole_lines bytes)
whole_lines-short bytes limit h = all-from_below (length bytes) limit (whole_lines bytes) h (whole_lines-below bytes)

-- what stands behind the last newline, as lines
pub end-short : (bytes : List ℕ) (limit : ℕ) → length bytes ≤ limit → All (λ l. length l ≤ limit) (less_empty_end (bytes ∷ []))
end-short [] limit h = All-nil (λ l. length l ≤ limit)
end-short (b ∷ bs) limit h = one-all (λ l. length l ≤ limit) (b ∷ bs) h
