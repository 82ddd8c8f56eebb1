-- Bytes that begin a scalar, counted by bounds.
use Rattle.std.proofs.Common.{◌≡◌, refl, ℕ, ◌+◌, ◌-◌, ◌≤◌, List, [], ◌∷◌, Bool, cond, nat_lt, length, count_by, take, drop, sym, ap, ◌∙◌, arith}
use Rattle.std.proofs.Math.Seq.{take-add}
use Rattle.std.proofs.lemmas.List.{take_all}
use Rattle.std.proofs.lemmas.List.Sums.{sum_by-append, sum_by-cons}
use Rattle.std.proofs.lemmas.Bool.Decides.{nat_tests}
use Rattle.str_value.specs.Leading.{starts_scalar, starts_pair}

one-scalar : (b : ℕ) → cond (starts_scalar b) 1 0 + cond (nat_lt b 0xC0) 1 0 ≡ 1 + cond (nat_lt b 0x80) 1 0
one-scalar b = grind (arith, nat_tests)

one-pair : (b : ℕ) → cond (starts_pair b) 1 0 + cond (nat_lt b 0xF0) 1 0 ≡ 1
one-pair b = grind (arith, nat_tests)

cons : (p : ℕ → Bool) (b : ℕ) (bs : List ℕ) → count_by p (b ∷ bs) ≡ cond (p b) 1 0 + count_by p bs
cons p b bs = sum_by-cons (λ x. cond (p x) 1 0) b bs

pub begun-scalars : (bs : List ℕ) → count_by starts_scalar bs + count_by (λ b. nat_lt b 0xC0) bs ≡ length bs + count_by (λ b. nat_lt b 0x80) bs
begun-scalars [] = refl
begun-scalars (b ∷ bs) =
    omega (arith, one-scalar b, begun-scalars bs, cons starts_scalar b bs, cons (λ b. nat_lt b 0xC0) b bs, cons (λ b. nat_lt b 0x80) b bs)

pub begun-pairs : (bs : List ℕ) → count_by starts_pair bs + count_by (λ b. nat_lt b 0xF0) bs ≡ length bs
begun-pairs [] = refl
begun-pairs (b ∷ bs) = omega (arith, one-pair b, begun-pairs bs, cons starts_pair b bs, cons (λ b. nat_lt b 0xF0) b bs)

-- a front of bytes and those after it
pub count-more : (p : ℕ → Bool) (bs : List ℕ) (i n : ℕ) → count_by p (take (i + n) bs) ≡ count_by p (take i bs) + count_by p (take n (drop i bs))
count-more p bs i n = ap (count_by p) (take-add i n bs) ∙ sum_by-append (λ b. cond (p b) 1 0) (take i bs) (take n (drop i bs))

pub count-rest : (p : ℕ → Bool) (bs : List ℕ) (i : ℕ) → i ≤ length bs → count_by p bs ≡ count_by p (take i bs) + count_by p (take (length bs - i) (drop i bs))
count-rest p bs i h =
    ap (count_by p) (sym (take_all (length bs) bs (omega arith))) ∙ ap (λ n. count_by p (take n bs)) (let all : length bs ≡ i + (length bs - i) = omega arith in all)
    ∙ count-more p bs i (length bs - i)
