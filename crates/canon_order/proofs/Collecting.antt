-- The scalars of a text, collected one after another.
use Rattle.std.proofs.Common.{◌≡◌, sym, ap, ◌∙◌, ℕ, suc, ◌+◌, ◌-◌, ◌<◌, ◌≤◌, List, [], ◌∷◌, ◌++◌, length, take, drop, get_or, arith, length-drop}
use Rattle.std.proofs.Math.Seq.{take-suc}
use Rattle.std.proofs.lemmas.List.{get_or-drop}
use Rattle.text_spec.specs.declared.encoding.Encoding.{Encoding}
use Rattle.text_spec.specs.Offsets.{start, down}
use Rattle.text_spec.specs.Views.{width_in, size_in, part}
use Rattle.text_spec.proofs.Walk.{down-start, start-le, start-mono}
use Rattle.text_spec.proofs.Widths.{width_some}

-- nothing lies between a scalar and itself
pub part-none : (b : List ℕ) (k : ℕ) → [] ≡ part b k k
part-none b k = let none : 0 ≡ k - k = omega arith in ap (λ n. take n (drop k b)) none

-- one scalar more
pub part-more : (b : List ℕ) (first k m c : ℕ) → first ≤ k → k < length b → m ≡ suc k → c ≡ get_or b k 0 → part b first k ++ c ∷ [] ≡ part b first m
part-more b first k m c order inside next is =
    let here : first + (k - first) ≡ k = omega (arith, order) in
    let long : suc (k - first) ≡ m - first = omega (arith, order, next) in
    ap (λ x. part b first k ++ x ∷ []) (is ∙ sym (get_or-drop first b (k - first) 0 ∙ ap (λ n. get_or b n 0) here))
    ∙ sym (take-suc (drop first b) (k - first) 0 (omega (arith, length-drop first b, order, inside)))
    ∙ ap (λ n. take n (drop first b)) long

-- where a text begins and ends in its storage
pub record Ends (e : Encoding) (b : List ℕ) (first end low high : ℕ) : Type 0 where
  pub first_is : down (width_in e) b low ≡ first
  pub end_is : down (width_in e) b high ≡ end
  pub boundary : start (width_in e) b (down (width_in e) b low) ≡ low
  pub end_boundary : start (width_in e) b (down (width_in e) b high) ≡ high
  pub order : low ≤ high
  pub inside : high ≤ size_in e b

pub ends : (e : Encoding) (b : List ℕ) (first end low high : ℕ) → low ≡ start (width_in e) b first → high ≡ start (width_in e) b end
    → first ≤ end → end ≤ length b → Ends e b first end low high
ends e b first end low high low_is high_is order inside =
    let w = width_in e in
    let first_is : down w b low ≡ first = ap (down w b) low_is ∙ down-start w (width_some e) b first (omega (arith, order, inside)) in
    let end_is : down w b high ≡ end = ap (down w b) high_is ∙ down-start w (width_some e) b end inside in
    record {
      first_is = first_is;
      end_is = end_is;
      boundary = ap (start w b) first_is ∙ sym low_is;
      end_boundary = ap (start w b) end_is ∙ sym high_is;
      order = omega (arith, low_is, high_is, start-mono w b first end order);
      inside = omega (arith, high_is, start-le w b end);
    }
