-- Code units that are read one after another, as a range of all of them.
use Rattle.std.proofs.Common.{◌≡◌, refl, ap, ◌∙◌, ℕ, zero, suc, ◌+◌, ◌-◌, ◌≤◌, take, drop, map, slice_range, arith}
use Rattle.std.specs.List.{range_with_len}
use Rattle.std.proofs.lemmas.List.FromFn.{take-map-range_with_len}

drop-range : (f : ℕ → ℕ) (a k m : ℕ) → drop k (map f (range_with_len a (k + m))) ≡ map f (range_with_len (a + k) m)
drop-range f a zero m =
    let n : zero + m ≡ m = omega arith in
    let b : a ≡ a + zero = omega arith in
    ap (λ i. map f (range_with_len a i)) n ∙ ap (λ i. map f (range_with_len i m)) b
drop-range f a (suc k) m =
    let n : suc k + m ≡ suc (k + m) = omega arith in
    let b : a + 1 + k ≡ a + suc k = omega arith in
    let first : drop (suc k) (map f (range_with_len a (suc (k + m)))) ≡ drop k (map f (range_with_len (a + 1) (k + m))) = refl in
    ap (λ i. drop (suc k) (map f (range_with_len a i))) n ∙ first ∙ drop-range f (a + 1) k m ∙ ap (λ i. map f (range_with_len i m)) b

pub range-between : (f : ℕ → ℕ) (n low high : ℕ) → low ≤ high → high ≤ n → slice_range (map f (range_with_len 0 n)) low high ≡ map f (range_with_len low (high - low))
range-between f n low high order inside =
    let all : n ≡ low + (n - low) = omega (arith, order, inside) in
    let zero-is : 0 + low ≡ low = omega arith in
    ap (λ m. take (high - low) (drop low (map f (range_with_len 0 m)))) all
    ∙ ap (take (high - low)) (drop-range f 0 low (n - low) ∙ ap (λ i. map f (range_with_len i (n - low))) zero-is)
    ∙ take-map-range_with_len f low (n - low) (high - low) (omega (arith, order, inside))
