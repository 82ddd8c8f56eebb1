-- A part of the buffer, and where its first newline stands.
use Rattle.std.proofs.Common.{◌≡◌, ℕ, ◌+◌, ◌-◌, ◌<◌, ◌≤◌, Bool, List, ◌++◌, length, take, drop, get_or, arith, sym, ap, ◌∙◌, length-drop, get_or-take, get_or-drop, Some, None}
use Rattle.std.proofs.lemmas.List.{drop-drop, drop-take, length-take-le}
use Rattle.std.proofs.Math.Seq.{take-add, take-append_seam}
use Rattle.memchr.specs.Find.{Nowhere, Passes, IsFirstByte}

-- the part less its first n
pub part-less-front : (xs : List ℕ) (s e n : ℕ) → n ≤ e - s → take (e - (s + n)) (drop (s + n) xs) ≡ drop n (take (e - s) (drop s xs))
part-less-front xs s e n h =
    let rest : e - s ≡ n + (e - (s + n)) = omega (arith, h) in
    sym (ap (λ k. drop n (take k (drop s xs))) rest ∙ drop-take n (e - (s + n)) (drop s xs) ∙ ap (take (e - (s + n))) (drop-drop n s xs))

pub at-part : (xs : List ℕ) (s e k : ℕ) → k < e - s → get_or (take (e - s) (drop s xs)) k 0 ≡ get_or xs (s + k) 0
at-part xs s e k h = get_or-take (e - s) (drop s xs) k 0 h ∙ get_or-drop s xs k 0

pub length-part : (xs : List ℕ) (s e : ℕ) → e ≤ length xs → length (take (e - s) (drop s xs)) ≡ e - s
length-part xs s e h = length-take-le (e - s) (drop s xs) (omega (arith, length-drop s xs, h))

module _ (test : ℕ → Bool) where
  -- nowhere in the part
  pub nowhere-of_part : (xs : List ℕ) (q e : ℕ) → e ≤ length xs → Nowhere (Passes test (take (e - q) (drop q xs))) 0 (length (take (e - q) (drop q xs))) → Nowhere (Passes test xs) q e
  nowhere-of_part xs q e inside none k low high passes =
      let here : k - q < e - q = omega (arith, low, high) in
      let same : q + (k - q) ≡ k = omega (arith, low) in
      none (k - q) (omega arith) (omega (arith, length-part xs q e inside, here))
      (ap test (at-part xs q e (k - q) here ∙ ap (λ i. get_or xs i 0) same) ∙ passes)

  pub nowhere-in_part : (xs : List ℕ) (s e m : ℕ) → m ≤ e → Nowhere (Passes test xs) s m → Nowhere (Passes test (take (e - s) (drop s xs))) 0 (m - s)
  nowhere-in_part xs s e m inside none k low high passes =
      none (s + k) (omega arith) (omega (arith, high)) (ap test (sym (at-part xs s e k (omega (arith, high, inside)))) ∙ passes)

  -- nowhere in two parts, one behind the other
  pub nowhere-join : (P : ℕ → Type 0) (s q e : ℕ) → Nowhere P s q → Nowhere P q e → Nowhere P s e
  nowhere-join P s q e first second k low high holds = grind arith

  -- the first newline is behind what was searched
  pub first-in_part : (xs : List ℕ) (s q e at : ℕ) → s ≤ q → q ≤ e → e ≤ length xs → Nowhere (Passes test xs) s q
      → IsFirstByte test (take (e - q) (drop q xs)) (Some at) → IsFirstByte test (take (e - s) (drop s xs)) (Some (q + at - s))
  first-in_part xs s q e at sq qe inside none first =
      let high : at < e - q = omega (arith, length-part xs q e inside, first.0.high) in
      let place : q + at - s < e - s = omega (arith, high, sq) in
      let where_ : s + (q + at - s) ≡ q + at = omega (arith, sq) in
      let until : Nowhere (Passes test xs) q (q + at) = λ k low below passes.
      first.0.before (k - q) (omega arith) (omega (arith, low, below))
      (ap test (at-part xs q e (k - q) (omega (arith, low, below, high)) ∙ ap (λ i. get_or xs i 0) (let e1 : q + (k - q) ≡ k = omega (arith, low) in e1)) ∙ passes) in (
        record {
          low = omega arith;
          high = omega (arith, length-part xs s e inside, place);
          before = nowhere-in_part xs s e (q + at) (omega (arith, high, qe)) (nowhere-join (Passes test xs) s q (q + at) none until);
        },
        ap test (at-part xs s e (q + at - s) place ∙ ap (λ i. get_or xs i 0) where_ ∙ sym (at-part xs q e at high)) ∙ first.1,
      )

  -- there is none
  pub none-in_part : (xs : List ℕ) (s q e : ℕ) → e ≤ length xs → s ≤ q → q ≤ e → Nowhere (Passes test xs) s q
      → IsFirstByte test (take (e - q) (drop q xs)) None → IsFirstByte test (take (e - s) (drop s xs)) None
  none-in_part xs s q e inside sq qe none first =
      let all = nowhere-in_part xs s e e (omega arith) (nowhere-join (Passes test xs) s q e none (nowhere-of_part xs q e inside first)) in
      λ k low high passes. all k low (omega (arith, high, length-part xs s e inside)) passes

-- what stands between s and e is the same where the places up to e are
pub same-part : (old new : List ℕ) (s e : ℕ) → s ≤ e → take e new ≡ take e old → take (e - s) (drop s new) ≡ take (e - s) (drop s old)
same-part old new s e h same =
    let whole : s + (e - s) ≡ e = omega (arith, h) in
    sym (drop-take s (e - s) new) ∙ ap (drop s) (ap (λ k. take k new) whole ∙ same ∙ ap (λ k. take k old) (sym whole)) ∙ drop-take s (e - s) old

-- the part with the n bytes behind it
pub part-with-more : (old new : List ℕ) (s e n : ℕ) → s ≤ e → take e new ≡ take e old
    → take (e + n - s) (drop s new) ≡ take (e - s) (drop s old) ++ take n (drop e new)
part-with-more old new s e n h same =
    let whole : s + (e - s) ≡ e = omega (arith, h) in
    let sum : e + n - s ≡ (e - s) + n = omega (arith, h) in
    ap (λ k. take k (drop s new)) sum ∙ take-add (e - s) n (drop s new)
    ∙ ap (λ xs. xs ++ take n (drop (e - s) (drop s new))) (same-part old new s e h same)
    ∙ ap (λ xs. take (e - s) (drop s old) ++ take n xs) (drop-drop (e - s) s new ∙ ap (λ k. drop k new) whole)

-- a slice of all places gives them all back
pub written-back : (old new : List ℕ) (n : ℕ) → length new ≡ n → take n (new ++ drop (length new) old) ≡ new
written-back old new n e = ap (λ k. take k (new ++ drop (length new) old)) (sym e) ∙ take-append_seam new (drop (length new) old)
