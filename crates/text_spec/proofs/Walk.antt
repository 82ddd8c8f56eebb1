-- Where scalars begin, by their widths.
use Rattle.std.proofs.Common.{◌≡◌, refl, sym, ap, ◌∙◌, ℕ, zero, suc, ◌+◌, ◌-◌, ◌<◌, ◌≤◌, List, [], ◌∷◌, length, get_or, arith, ⊎_elim}
use Rattle.std.proofs.lemmas.Bool.{cases_lt, cond-true, cond-false, le-leb, lt-leb}
use Rattle.text_spec.specs.Offsets.{start, down}

pub down-yes : (w : ℕ → ℕ) (c : ℕ) (t : List ℕ) (o : ℕ) → w c ≤ o → down w (c ∷ t) o ≡ suc (down w t (o - w c))
down-yes w c t o h = cond-true _ _ _ (le-leb (w c) o h)

pub down-no : (w : ℕ → ℕ) (c : ℕ) (t : List ℕ) (o : ℕ) → o < w c → down w (c ∷ t) o ≡ 0
down-no w c t o h = cond-false _ _ _ (lt-leb (w c) o h)

-- and the next one later
pub down-next : (w : ℕ → ℕ) (t : List ℕ) (o : ℕ) → o < start w t (length t)
    → (down w t o < length t) × (o < start w t (suc (down w t o)))
down-next w [] o h = absurd (omega arith)
down-next w (c ∷ t) o h =
    ⊎_elim
    (λ low.
    let e = down-no w c t o low in
    let s : start w (c ∷ t) (suc (down w (c ∷ t) o)) ≡ w c + start w t 0 = ap (λ k. start w (c ∷ t) (suc k)) e in
    (omega arith, omega arith))
    (λ high.
    let e = down-yes w c t o high in
    let s : start w (c ∷ t) (suc (down w (c ∷ t) o)) ≡ w c + start w t (suc (down w t (o - w c))) = ap (λ k. start w (c ∷ t) (suc k)) e in
    let rest = down-next w t (o - w c) (omega arith) in
    (omega arith, omega arith)) (cases_lt o (w c))

pub start-zero : (w : ℕ → ℕ) (t : List ℕ) → start w t 0 ≡ 0
start-zero w [] = refl
start-zero w (c ∷ t) = refl

pub start-suc : (w : ℕ → ℕ) (t : List ℕ) (k : ℕ) → k < length t → start w t (suc k) ≡ start w t k + w (get_or t k 0)
start-suc w [] k h = absurd (omega arith)
start-suc w (c ∷ t) zero h = omega (arith, start-zero w t)
start-suc w (c ∷ t) (suc k) h = omega (arith, start-suc w t k (omega arith))

-- only one scalar covers an offset
pub down-unique : (w : ℕ → ℕ) (t : List ℕ) (o k : ℕ) → k < length t → start w t k ≤ o → o < start w t (suc k) → down w t o ≡ k
down-unique w [] o k h a b = absurd (omega arith)
down-unique w (c ∷ t) o zero h a b = down-no w c t o (omega (arith, start-zero w t))
down-unique w (c ∷ t) o (suc k) h a b =
    down-yes w c t o (omega arith) ∙ ap suc (down-unique w t (o - w c) k (omega arith) (omega arith) (omega arith))

-- past the last scalar
pub down-end : (w : ℕ → ℕ) (t : List ℕ) (o : ℕ) → start w t (length t) ≤ o → down w t o ≡ length t
down-end w [] o h = refl
down-end w (c ∷ t) o h = down-yes w c t o (omega arith) ∙ ap suc (down-end w t (o - w c) (omega arith))

-- where scalar k begins, k is what `down` answers
pub down-start : (w : ℕ → ℕ) → ((c : ℕ) → 0 < w c) → (t : List ℕ) (k : ℕ) → k ≤ length t → down w t (start w t k) ≡ k
down-start w some t k h =
    ⊎_elim
    (λ inside. let next = start-suc w t k inside in down-unique w t _ k inside (omega arith) (omega (arith, some (get_or t k 0))))
    (λ last. let e : k ≡ length t = omega arith in down-end w t _ (omega (arith, ap (start w t) e)) ∙ sym e) (cases_lt k (length t))

pub start-le : (w : ℕ → ℕ) (t : List ℕ) (k : ℕ) → start w t k ≤ start w t (length t)
start-le w [] k = omega arith
start-le w (c ∷ t) zero = omega arith
start-le w (c ∷ t) (suc k) = omega (arith, start-le w t k)

-- a later scalar begins no earlier
pub start-mono : (w : ℕ → ℕ) (t : List ℕ) (j k : ℕ) → j ≤ k → start w t j ≤ start w t k
start-mono w [] j k h = omega arith
start-mono w (c ∷ t) zero zero h = omega arith
start-mono w (c ∷ t) zero (suc k) h = omega arith
start-mono w (c ∷ t) (suc j) zero h = absurd (omega arith)
start-mono w (c ∷ t) (suc j) (suc k) h = omega (arith, start-mono w t j k (omega arith))

-- and where scalars have units, each one begins later than those before it
pub start-strict : (w : ℕ → ℕ) → ((c : ℕ) → 0 < w c) → (t : List ℕ) (j k : ℕ) → j < k → k ≤ length t → start w t j < start w t k
start-strict w some t j k h inside =
    let next = start-suc w t j (omega arith) in
    omega (arith, start-mono w t (suc j) k (omega arith), some (get_or t j 0))
