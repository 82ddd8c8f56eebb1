-- The elements of a part of a text are those of the whole text at their places.
use Rattle.std.proofs.Common.{◌≡◌, refl, sym, ap, ◌∙◌, ℕ, zero, suc, ◌+◌, ◌-◌, ◌<◌, ◌≤◌, List, [], ◌∷◌, ◌++◌, length, take, drop, get_or, arith}
use Rattle.std.proofs.lemmas.List.{take-append-drop, drop-take, length-take-le, length-drop, get_or-take, get_or-drop, get_or_append_left, get_or-append_right}
use Rattle.text_spec.specs.Offsets.{start}
use Rattle.text_spec.specs.Views.{part}

pub length-part : (b : List ℕ) (first end : ℕ) → first ≤ end → end ≤ length b → length (part b first end) ≡ end - first
length-part b first end order inside = length-take-le (end - first) (drop first b) (omega (arith, length-drop first b))

pub part-scalar : (b : List ℕ) (first end k : ℕ) → first ≤ k → k < end → get_or (part b first end) (k - first) 0 ≡ get_or b k 0
part-scalar b first end k after before =
    get_or-take (end - first) (drop first b) (k - first) 0 (omega arith) ∙ get_or-drop first b (k - first) 0 ∙ ap (λ n. get_or b n 0) {x = first + (k - first)} {y = k} (omega arith)

start-take : (w : ℕ → ℕ) (t : List ℕ) (end k : ℕ) → k ≤ end → start w (take end t) k ≡ start w t k
start-take w [] zero k h = refl
start-take w [] (suc end) k h = refl
start-take w (c ∷ t) zero zero h = refl
start-take w (c ∷ t) zero (suc k) h = absurd (omega arith)
start-take w (c ∷ t) (suc end) zero h = refl
start-take w (c ∷ t) (suc end) (suc k) h = omega (arith, start-take w t end k (omega arith))

start-drop : (w : ℕ → ℕ) (t : List ℕ) (first k : ℕ) → start w t first + start w (drop first t) k ≡ start w t (first + k)
start-drop w [] zero k = refl
start-drop w [] (suc first) k = refl
start-drop w (c ∷ t) zero k = omega (arith, ap (start w (c ∷ t)) {x = k} {y = 0 + k} (omega arith))
start-drop w (c ∷ t) (suc first) k = omega (arith, start-drop w t first k, ap (start w (c ∷ t)) {x = suc (first + k)} {y = suc first + k} (omega arith))

-- where scalar k of the part begins
pub start-part : (w : ℕ → ℕ) (b : List ℕ) (first end k : ℕ) → k ≤ end - first → start w b first + start w (part b first end) k ≡ start w b (first + k)
start-part w b first end k h = omega (arith, start-drop w b first k, start-take w (drop first b) (end - first) k h)

-- the same of code units, in an encoding that spells texts one after another
module _ (encode : List ℕ → List ℕ) (append : (xs ys : List ℕ) → encode (xs ++ ys) ≡ encode xs ++ encode ys)
    (w : ℕ → ℕ) (long : (t : List ℕ) (k : ℕ) → start w t k ≡ length (encode (take k t))) where
  before_end : (b : List ℕ) (end p : ℕ) → p < start w b end → get_or (encode (take end b)) p 0 ≡ get_or (encode b) p 0
  before_end b end p h =
      sym (ap (λ t. get_or (encode t) p 0) (sym (take-append-drop end b)) ∙ ap (λ us. get_or us p 0) (append (take end b) (drop end b))
      ∙ get_or_append_left (encode (take end b)) (encode (drop end b)) 0 p (omega (arith, long b end)))

  after_first : (t : List ℕ) (first p : ℕ) → start w t first ≤ p → get_or (encode (drop first t)) (p - start w t first) 0 ≡ get_or (encode t) p 0
  after_first t first p h =
      sym (ap (λ s. get_or (encode s) p 0) (sym (take-append-drop first t)) ∙ ap (λ us. get_or us p 0) (append (take first t) (drop first t))
      ∙ get_or-append_right (encode (take first t)) (encode (drop first t)) (start w t first) p 0 (sym (long t first)) h)

  pub part-unit : (b : List ℕ) (first end p : ℕ) → first ≤ end → start w b first ≤ p → p < start w b end
      → get_or (encode (part b first end)) (p - start w b first) 0 ≡ get_or (encode b) p 0
  part-unit b first end p order after before =
      let same : part b first end ≡ drop first (take end b) =
      sym (drop-take first (end - first) b) ∙ ap (λ n. drop first (take n b)) {x = first + (end - first)} {y = end} (omega arith) in
      let begins = start-take w b end first order in
      ap (λ t. get_or (encode t) (p - start w b first) 0) same
      ∙ ap (λ n. get_or (encode (drop first (take end b))) (p - n) 0) (sym begins)
      ∙ after_first (take end b) first p (omega (arith, begins, after))
      ∙ before_end b end p before
