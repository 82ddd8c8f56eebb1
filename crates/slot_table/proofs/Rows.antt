-- Where the words lie: two slots' words are apart, and each word is within the table.
use Rattle.std.proofs.Common.{◌≡◌, ◌≢◌, ℕ, suc, ◌+◌, ◌*◌, ◌<◌, ◌≤◌, sym, ap, ◌∙◌, arith, mul-le-mul_right, suc-mul, lt_of_not-le}
use native.Mathlib.Decide.{dec_le, ℕ_discrete}
use mathlib.Core.Logic.{dite}
use Rattle.slot_model.specs.declared.layout.Layout.{Layout}
use Rattle.slot_table.specs.Addresses.{count_place, side_place, data_place}

further : (x y b : ℕ) → x < y → x * b + b ≤ y * b
further x y b h = let a : suc x * b ≤ y * b = mul-le-mul_right b h in omega (arith, suc-mul x b)

-- o and p from 1 to b
pub apart : (b x y o p : ℕ) → x ≢ y → 0 < o → o ≤ b → 0 < p → p ≤ b → x * b + o ≢ y * b + p
apart b x y o p n o0 ob p0 pb = dite (dec_le y x)
    (λ (le : y ≤ x). let m = further y x b (omega arith) in λ e. let e' : x * b + o ≡ y * b + p = e in let i : ℕ = x * b in let j : ℕ = y * b in let m' : j + b ≤ i = m in let f : i + o ≡ j + p = e' in omega arith)
    (λ (nle : ¬ (y ≤ x)). let m = further x y b (lt_of_not-le nle) in λ e. let e' : x * b + o ≡ y * b + p = e in let i : ℕ = x * b in let j : ℕ = y * b in let m' : i + b ≤ j = m in let f : i + o ≡ j + p = e' in omega arith)

pub within : (b n x o : ℕ) → x < n → o ≤ b → x * b + o < n * b + 1
within b n x o h ob = let m = further x n b h in let i : ℕ = x * b in let j : ℕ = n * b in let m' : i + b ≤ j = m in omega arith

-- no data word is a slot's reference count or the word that shows its side, nor one of another slot
pub data_not_count : (k : Layout) (x i y : ℕ) → i < k.capacity_words → data_place k x i ≢ count_place k y
data_not_count k x i y h = dite (ℕ_discrete x y)
    (λ (same : x ≡ y). λ e. let e' : data_place k x i ≡ count_place k x = e ∙ ap (count_place k) (sym same) in omega arith)
    (λ (ne : ¬ (x ≡ y)). λ e. let e' : data_place k x i ≡ count_place k y = e in let f : x * (k.capacity_words + 2) + (3 + i) ≡ count_place k y = omega arith in apart (k.capacity_words + 2) x y (3 + i) 1 ne (omega arith) (omega arith) (omega arith) (omega arith) f)

pub data_not_side : (k : Layout) (x i y : ℕ) → i < k.capacity_words → data_place k x i ≢ side_place k y
data_not_side k x i y h = dite (ℕ_discrete x y)
    (λ (same : x ≡ y). λ e. let e' : data_place k x i ≡ side_place k x = e ∙ ap (side_place k) (sym same) in omega arith)
    (λ (ne : ¬ (x ≡ y)). λ e. let e' : data_place k x i ≡ side_place k y = e in let f : x * (k.capacity_words + 2) + (3 + i) ≡ side_place k y = omega arith in apart (k.capacity_words + 2) x y (3 + i) 2 ne (omega arith) (omega arith) (omega arith) (omega arith) f)
