-- Lists compared from a place on.
use Rattle.std.proofs.Common.{◌≡◌, ◌≢◌, sym, ap, ◌∙◌, ⊎_elim, refl, ℕ, zero, suc, ◌+◌, ◌<◌, ◌≤◌, List, length, drop, get_or, min, Ordering, arith}
use Rattle.std.proofs.Math.Seq.{drop-cons}
use Rattle.std.proofs.lemmas.Bool.{cases_lt}
use Rattle.std.proofs.lemmas.List.{drop_all}
use Rattle.std.specs.declared.cmp.Ordering.TheVariants.{Less, Equal, Greater}
use Rattle.std.specs.Cmp.{nat_cmp_is}
use Rattle.std.specs.Cmp.Lexicographic.{slice_cmp}
use Rattle.std.specs.Ordering.{nat_cmp, ordering_then}

-- the members at a place decide, and else those behind it
pub from_place : (a b : List ℕ) (p : ℕ) → p < length a → p < length b
    → slice_cmp nat_cmp (drop p a) (drop p b) ≡ ordering_then (nat_cmp (get_or a p 0) (get_or b p 0)) (slice_cmp nat_cmp (drop (suc p) a) (drop (suc p) b))
from_place a b p left right = rw (drop-cons a p 0 left, drop-cons b p 0 right) refl

-- equal members decide nothing
pub passes_place : (a b : List ℕ) (p : ℕ) → p < length a → p < length b → get_or a p 0 ≡ get_or b p 0
    → slice_cmp nat_cmp (drop p a) (drop p b) ≡ slice_cmp nat_cmp (drop (suc p) a) (drop (suc p) b)
passes_place a b p left right same =
    from_place a b p left right
    ∙ ap (λ o. ordering_then o (slice_cmp nat_cmp (drop (suc p) a) (drop (suc p) b))) (sym (nat_cmp_is (get_or a p 0) (get_or b p 0) Equal same))

-- where two numbers differ, nothing behind them counts
decided : (x y : ℕ) (behind other : Ordering) → x ≢ y → ordering_then (nat_cmp x y) behind ≡ ordering_then (nat_cmp x y) other
decided x y behind other apart =
    ⊎_elim
    (λ (below : x < y). let r = nat_cmp_is x y Less below in ap (λ o. ordering_then o behind) (sym r) ∙ ap (λ o. ordering_then o other) r)
    (λ (above : y ≤ x). let r = nat_cmp_is x y Greater (omega arith) in ap (λ o. ordering_then o behind) (sym r) ∙ ap (λ o. ordering_then o other) r)
    (cases_lt x y)

pub stops_place : (a b : List ℕ) (p : ℕ) (rest : Ordering) → p < length a → p < length b → get_or a p 0 ≢ get_or b p 0
    → slice_cmp nat_cmp (drop p a) (drop p b) ≡ ordering_then (nat_cmp (get_or a p 0) (get_or b p 0)) rest
stops_place a b p rest left right apart = from_place a b p left right ∙ decided _ _ _ rest apart

-- as many equal members as one likes
pub passes_places : (a b : List ℕ) (from n : ℕ) → from + n ≤ length a → from + n ≤ length b
    → ((p : ℕ) → from ≤ p → p < from + n → get_or a p 0 ≡ get_or b p 0)
    → slice_cmp nat_cmp (drop from a) (drop from b) ≡ slice_cmp nat_cmp (drop (from + n) a) (drop (from + n) b)
passes_places a b from zero left right same = let none : from ≡ from + 0 = omega arith in ap (λ p. slice_cmp nat_cmp (drop p a) (drop p b)) none
passes_places a b from (suc n) left right same =
    let next : suc (from + n) ≡ from + suc n = omega arith in
    passes_places a b from n (omega arith) (omega arith) (λ p above before. same p above (omega arith))
    ∙ passes_place a b (from + n) (omega arith) (omega arith) (same (from + n) (omega arith) (omega arith))
    ∙ ap (λ p. slice_cmp nat_cmp (drop p a) (drop p b)) next

-- where one of two lists has ended, their lengths decide
pub lengths_decide : (a b : List ℕ) (n : ℕ) → n ≡ min (length a) (length b) → slice_cmp nat_cmp (drop n a) (drop n b) ≡ nat_cmp (length a) (length b)
lengths_decide a b n is =
    ⊎_elim
    (λ (shorter : length a < length b).
    rw (drop_all n a (omega arith), drop-cons b n 0 (omega arith)) (nat_cmp_is (length a) (length b) Less shorter))
    (λ (most : length b ≤ length a). ⊎_elim
    (λ (longer : length b < length a).
    rw (drop-cons a n 0 (omega arith), drop_all n b (omega arith)) (nat_cmp_is (length a) (length b) Greater longer))
    (λ (least : length a ≤ length b).
    rw (drop_all n a (omega arith), drop_all n b (omega arith)) (nat_cmp_is (length a) (length b) Equal (omega arith)))
    (cases_lt (length b) (length a)))
    (cases_lt (length a) (length b))
