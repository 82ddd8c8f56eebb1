-- The list of crumbs, as it grows.
use Rattle.std.proofs.Common.{◌≡◌, sym, ap, subst, ◌∙◌, ℕ, zero, suc, ◌+◌, ◌-◌, ◌*◌, ◌/◌, ◌<◌, ◌≤◌, ⊎_elim, List, [], ◌∷◌, ◌++◌, length, length-append, map, arith}
use Rattle.std.proofs.lemmas.Bool.{cases_lt}
use Rattle.std.proofs.lemmas.Nat.{mul-le, div_below, le-div}
use Rattle.std.proofs.lemmas.List.FromFn.{map-range_with_len_more, length-map-range_with_len}
use Rattle.std.proofs.Math.Nat.{suc-mul}
use Rattle.std.specs.List.{range_with_len}
use Rattle.index_words.specs.Crumbs.{size16, index16, crumbs}
use Rattle.slot_table.specs.Owners.{DraftSeen}
use Rattle.crumbs.specs.Counting.{crumbs_below}

pub below_more : (t : List ℕ) (n j w : ℕ) → w ≡ index16 t (j * n) → crumbs_below t n j ++ (w ∷ []) ≡ crumbs_below t n (j + 1)
below_more t n j w e =
    ap (λ l. size16 t ∷ l) (ap (λ x. map (λ i. index16 t (i * n)) (range_with_len 0 j) ++ (x ∷ [])) e ∙ sym (map-range_with_len_more (λ i. index16 t (i * n)) 0 j j (omega arith)))

-- all of them
pub below_all : (t : List ℕ) (n j : ℕ) → 1 ≤ n → size16 t < j * n → (0 < j → (j - 1) * n ≤ size16 t) → crumbs_below t n j ≡ crumbs t n
below_all t n j some past last =
    let pos : 0 < j = ⊎_elim (λ h. h) (λ h. let none : j * n ≡ 0 * n = ap (λ i. i * n) {x = j} {y = 0} (omega arith) in absurd (omega arith)) (cases_lt 0 j) in
    let same : j ≡ size16 t / n + 1 = omega (arith, div_below (size16 t) n j some past, le-div (j - 1) (size16 t) n some (last pos)) in
    ap (crumbs_below t n) same

pub length-below : (t : List ℕ) (n j : ℕ) → length (crumbs_below t n j) ≡ j + 1
length-below t n j = omega (arith, length-map-range_with_len (λ i. index16 t (i * n)) 0 j)

pub due_within : (t : List ℕ) (n j : ℕ) → 1 ≤ n → j * n < size16 t + 1 → j ≤ size16 t / n
due_within t n j some h = le-div j (size16 t) n some (omega arith)

pub few_from_last : (r n s : ℕ) → 1 ≤ n → (0 < r → (r - 1) * n < s) → r ≤ s
few_from_last zero n s some last = omega arith
few_from_last (suc r) n s some last =
    let e : suc r - 1 ≡ r = omega arith in
    let l : r * n < s = subst (λ i. i * n < s) e (last (omega arith)) in
    omega (arith, mul-le r 1 r n (omega arith) some)

-- ---- behind what a draft held before
module _ (b : List ℕ) (n number : ℕ) (d e : DraftSeen) (is : e ≡ record d { written = d.written ++ crumbs_below b n number }) where
  pub room_left : length d.written + size16 b / n + 2 ≤ d.heap.layout.capacity_words
      → length e.written + size16 b / n + 1 ≤ e.heap.layout.capacity_words + number
  room_left room =
      let long : length e.written ≡ length (d.written ++ crumbs_below b n number) = ap (λ (x : DraftSeen). length x.written) is in
      let same : e.heap.layout.capacity_words ≡ d.heap.layout.capacity_words = ap (λ (x : DraftSeen). x.heap.layout.capacity_words) is in
      omega (arith, long, same, room, length-append d.written (crumbs_below b n number), length-below b n number)

  pub grown : (result : ℕ) (f : DraftSeen)
      → ((front : List ℕ) → e.written ≡ front ++ crumbs_below b n number → f ≡ record e { written = front ++ crumbs_below b n result })
      → f ≡ record d { written = d.written ++ crumbs_below b n result }
  grown result f more =
      more d.written (ap (λ (x : DraftSeen). x.written) is)
      ∙ ap (λ (x : DraftSeen). record x { written = d.written ++ crumbs_below b n result }) is

-- ---- strides that no text reaches the first of
one_crumb : (t : List ℕ) (n : ℕ) → size16 t / n ≡ 0 → crumbs t n ≡ size16 t ∷ index16 t 0 ∷ []
one_crumb t n none =
    let first : 0 * n ≡ 0 = omega arith in
    ap (λ q. size16 t ∷ map (λ j. index16 t (j * n)) (range_with_len 0 (q + 1))) none ∙ ap (λ m. size16 t ∷ index16 t m ∷ []) first

pub same_crumbs : (t : List ℕ) (n m : ℕ) → size16 t / n ≡ 0 → size16 t / m ≡ 0 → crumbs t n ≡ crumbs t m
same_crumbs t n m none also = one_crumb t n none ∙ sym (one_crumb t m also)

-- the next multiple is at most a stride behind
pub multiple_most : (j n stop : ℕ) → (0 < j → (j - 1) * n < stop) → j * n ≤ stop + n
multiple_most zero n stop last = omega arith
multiple_most (suc j) n stop last =
    let e : suc j - 1 ≡ j = omega arith in
    let l : j * n < stop = subst (λ i. i * n < stop) e (last (omega arith)) in
    omega (arith, l, suc-mul j n)
