-- Backing up to the boundary where the scalar begins that covers a place.
use Rattle.std.proofs.Common.{◌≡◌, sym, ap, subst, ◌∙◌, ℕ, ◌+◌, ◌-◌, ◌*◌, ◌/◌, ◌%◌, ◌^◌, ◌<◌, ◌≤◌, inl, inr, ⊎_elim, List, length, get_or, arith, Some}
use Rattle.std.proofs.lemmas.Bool.{cases_lt}
use Rattle.std.specs.Char.{len_utf8}
use Rattle.std.specs.Str.{encode_utf8_all}
use Rattle.text_spec.specs.declared.encoding.Encoding.{Encoding}
use Rattle.text_spec.specs.declared.encoding.Encoding.TheVariants.{Utf8, Utf16}
use Rattle.text_spec.specs.Offsets.{len_utf16, start, down}
use Rattle.text_spec.specs.Packed.{unit_of, units_of, denoted_text, IsPair}
use Rattle.text_spec.specs.Text.{repair}
use Rattle.text_spec.specs.Views.{width_in, size_in}
use Rattle.text_spec.proofs.Bytes.{length-utf8, floor-more, floor-stop, floor-near}
use Rattle.text_spec.proofs.Denoting.{denoted_as, utf8_words, utf16_words}
use Rattle.text_spec.proofs.Repaired.{inside16, pair_inside}
use Rattle.text_spec.proofs.Walk.{down-end}

-- what a byte between the boundary and p says of the boundary
pub record Backs (b : List ℕ) (p q byte : ℕ) : Type 0 where
  pub more : 128 ≤ byte → byte < 192 → start len_utf8 b (down len_utf8 b p) < q
  pub stop : (128 ≤ byte → 192 ≤ byte) → start len_utf8 b (down len_utf8 b p) ≡ q
  pub near : p < start len_utf8 b (down len_utf8 b p) + 4

pub backs8 : (e : Encoding) (ws : List ℕ) (n : ℕ) (b : List ℕ) (p q word byte : ℕ) → e ≡ Utf8 → n ≡ size_in e b → denoted_text e ws n ≡ Some b
    → p < size_in Utf8 b → start len_utf8 b (down len_utf8 b p) ≤ q → q ≤ p → word ≡ get_or ws (q / 8) 0 → byte ≡ word / 2 ^ (8 * (q % 8)) % 256
    → Backs b p q byte
backs8 e ws n b p q word byte same long is inside low high here value =
    let w = utf8_words ws (size_in Utf8 b) b (denoted_as e Utf8 ws n b same long is) in
    let below : p < length (encode_utf8_all b) = omega (arith, inside, length-utf8 b) in
    let own : byte ≡ get_or (encode_utf8_all b) q 0 = value ∙ ap (λ x. x / 2 ^ (8 * (q % 8)) % 256) here ∙ w.held.1 q (omega arith) in
    record {
      more = λ a c. floor-more b w.scalars p q below low high (omega (arith, own)) (omega (arith, own));
      stop = λ no. floor-stop b w.scalars p q below low high
          (⊎_elim (λ a. inl (omega (arith, own))) (λ a. inr (omega (arith, own, no a))) (cases_lt byte 128));
      near = floor-near b w.scalars p q below low high;
    }

-- and two units, of the floor in 16-bit storage
pub backs16 : (e : Encoding) (ws : List ℕ) (n : ℕ) (b : List ℕ) (p u beside : ℕ) → e ≡ Utf16 → n ≡ size_in e b → denoted_text e ws n ≡ Some b
    → p < size_in Utf16 b → u ≡ unit_of ws p
    → (0xDC00 ≤ u → u < 0xE000 → 0 < p → beside ≡ get_or (units_of ws (size_in Utf16 b)) (p - 1) 0)
    → (0xDC00 ≤ u → u < 0xE000 → p ≡ 0 → beside ≡ 0)
    → (IsPair beside u → (0 < p) × (p - 1 ≡ start len_utf16 b (down len_utf16 b p)))
    × ((IsPair beside u → ⊥) → p ≡ start len_utf16 b (down len_utf16 b p))
backs16 e ws n b p u beside same long is inside here before none =
    let us = units_of ws (size_in Utf16 b) in
    let w = utf16_words ws (size_in Utf16 b) b (denoted_as e Utf16 ws n b same long is) in
    let unit : u ≡ get_or us p 0 = here ∙ sym (w.unit p inside) in
    let below : p < length us = omega (arith, w.count, inside) in
    let text : (q : ℕ) → start len_utf16 (repair us) (down len_utf16 (repair us) q) ≡ start len_utf16 b (down len_utf16 b q) =
    λ q. ap (λ t. start len_utf16 t (down len_utf16 t q)) w.text in (
      λ pair.
          ⊎_elim
          (λ some.
          let back : p - 1 + 1 ≡ p = omega arith in
          let own : IsPair (get_or us (p - 1) 0) (get_or us p 0) = subst (λ v. IsPair (get_or us (p - 1) 0) v) unit (subst (λ v. IsPair v u) (before pair.2 pair.3 some) pair) in
          let own' : IsPair (get_or us (p - 1) 0) (get_or us (p - 1 + 1) 0) = subst (λ k. IsPair (get_or us (p - 1) 0) (get_or us k 0)) (sym back) own in
          (some, sym (pair_inside us w.fits (p - 1) (omega (arith, below)) own') ∙ text (p - 1 + 1) ∙ ap (λ k. start len_utf16 b (down len_utf16 b k)) back))
          (λ zero_p. absurd (omega (arith, none pair.2 pair.3 (omega arith), pair.0)))
          (cases_lt 0 p),
      λ no.
          ⊎_elim (λ at. sym at ∙ text p)
          (λ e. absurd (let some : 0 < p = omega (arith, e.0) in
          no (subst (λ v. IsPair v u) (sym (before (omega (arith, e.1.2, unit)) (omega (arith, e.1.3, unit)) some)) (subst (λ v. IsPair (get_or us (p - 1) 0) v) (sym unit) e.1))))
          (inside16 us w.fits p below),
    )

-- the end is a boundary
pub backs_end : (e : Encoding) (b : List ℕ) (p : ℕ) → p ≡ size_in e b → p ≡ start (width_in e) b (down (width_in e) b p)
backs_end e b p at = at ∙ sym (ap (start (width_in e) b) (down-end (width_in e) b p (omega (arith, at))))
