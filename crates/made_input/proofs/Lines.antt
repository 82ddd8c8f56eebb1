-- The lines of the input: how many, how long, and without a newline.
use Rattle.std.proofs.Common.{◌≡◌, ◌≢◌, ◌==◌, true, false, get_or, ℕ, zero, suc, ◌-◌, ◌*◌, ◌<◌, ◌≤◌, List, [], ◌∷◌, ◌++◌, length, refl, ap, ◌∙◌, arith, length-append, All}
use Rattle.std.specs.List.{slice_split}
use Rattle.std.proofs.lemmas.Bool.{ne_eqb}
use Rattle.std.proofs.lemmas.List.Elements.{All-nil, All-cons}
use Rattle.std.proofs.lemmas.List.Splits.{slice_split_at}
use Rattle.made_input.specs.Made.{load_line, units, batch_line, batch_lines, after_batch, after_source, made_lines, joined, made}
use Rattle.made_input.proofs.Lengths.{load-short, batch-short, units-low, units-high}
use Rattle.made_input.proofs.Newlines.{clean, clean-all, load-clean, batch-clean}

pub batches-count : (u n x : ℕ) → length (batch_lines u n x) ≡ n
batches-count u zero x = refl
batches-count u (suc n) x = ap suc (batches-count u n (after_batch x))

-- what holds of each batch holds of all
pub batches-all : (P : List ℕ → Type 0) (u : ℕ) → ((x : ℕ) → P (batch_line u x)) → (n x : ℕ) → All P (batch_lines u n x)
batches-all P u each zero x = All-nil P
batches-all P u each (suc n) x = All-cons P (batch_line u x) (batch_lines u n (after_batch x)) (each x) (batches-all P u each n (after_batch x))

pub lines-short : (number n : ℕ) → All (λ line. length line ≤ 45000) (made_lines number n)
lines-short number n =
    All-cons (λ line. length line ≤ 45000) (load_line number) (batch_lines (units number) (n - 1) (after_source number)) (omega (arith, load-short number))
    (batches-all (λ line. length line ≤ 45000) (units number) (λ x. omega (arith, batch-short (units number) x (units-low number) (units-high number))) (n - 1) (after_source number))

pub lines-clean : (number n : ℕ) → All (All (λ b. b ≢ 10)) (made_lines number n)
lines-clean number n =
    All-cons (All (λ b. b ≢ 10)) (load_line number) (batch_lines (units number) (n - 1) (after_source number)) (clean-all (load_line number) (load-clean number))
    (batches-all (All (λ b. b ≢ 10)) (units number) (λ x. clean-all (batch_line (units number) x) (batch-clean (units number) x (units-low number) (units-high number))) (n - 1) (after_source number))

pub batches-short : (u n x : ℕ) → 16 < u → u < 100000 → length (joined (batch_lines u n x)) ≤ 30001 * n
batches-short u zero x some few = omega arith
batches-short u (suc n) x some few =
    omega (arith, batch-short u x some few, batches-short u n (after_batch x) some few, length-append (batch_line u x) (10 ∷ joined (batch_lines u n (after_batch x))))

pub made-short : (number n : ℕ) → n ≤ 1000 → length (made number n) ≤ 67108864
unfolding made
made-short number n few =
    let batches : length (joined (batch_lines (units number) (n - 1) (after_source number))) ≤ 30001 * (n - 1) = batches-short (units number) (n - 1) (after_source number) (units-low number) (units-high number) in
    omega (arith, few, batches, load-short number, length-append (load_line number) (10 ∷ joined (batch_lines (units number) (n - 1) (after_source number))))

unmarked : (line : List ℕ) → clean line ≡ true → All (λ b. (b == 10) ≡ false) line
unmarked line plain = λ k d inside. ne_eqb (get_or line k d) 10 (clean-all line plain k d inside)

-- cut at each newline, the lines come apart again, and nothing stands behind the last newline
pub batches-parts : (u n x : ℕ) → 16 < u → u < 100000 → slice_split (λ b. b == 10) (joined (batch_lines u n x)) ≡ batch_lines u n x ++ [] ∷ []
batches-parts u zero x some few = refl
batches-parts u (suc n) x some few =
    slice_split_at (λ b. b == 10) (batch_line u x) 10 (joined (batch_lines u n (after_batch x))) (unmarked (batch_line u x) (batch-clean u x some few)) refl
    ∙ ap (λ l. batch_line u x ∷ l) (batches-parts u n (after_batch x) some few)

pub made-parts : (number n : ℕ) → slice_split (λ b. b == 10) (made number n) ≡ made_lines number n ++ [] ∷ []
unfolding made
made-parts number n =
    slice_split_at (λ b. b == 10) (load_line number) 10 (joined (batch_lines (units number) (n - 1) (after_source number))) (unmarked (load_line number) (load-clean number)) refl
    ∙ ap (λ l. load_line number ∷ l) (batches-parts (units number) (n - 1) (after_source number) (units-low number) (units-high number))
