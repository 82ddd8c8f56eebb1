-- A text of ASCII alone: a scalar takes one unit in each encoding, so numbers and positions are the same.
use Rattle.std.proofs.Common.{◌≡◌, sym, ap, ◌∙◌, ℕ, zero, suc, ◌-◌, ◌<◌, ◌≤◌, List, length, get_or, Some, arith}
use Rattle.std.proofs.lemmas.Bool.{cond-true, lt-ltb}
use Rattle.text_spec.specs.declared.encoding.Encoding.{Encoding}
use Rattle.text_spec.specs.declared.encoding.Encoding.TheVariants.{Utf8, Utf16}
use Rattle.text_spec.specs.Offsets.{start, down}
use Rattle.text_spec.specs.Rounding.{Place, across}
use Rattle.text_spec.specs.Views.{width_in, other_width}
use Rattle.text_spec.proofs.Walk.{start-zero, start-suc, down-start}
use Rattle.text_spec.proofs.Widths.{width_some, other_some}
use Rattle.word_units.specs.Parts.{part_of}
use Rattle.rounding.specs.Resolving.{Bounds, other_place}
use Rattle.rounding.proofs.Places.{other_in}

pub width_one : (e : Encoding) (c : ℕ) → c < 0x80 → width_in e c ≡ 1
width_one Utf8 c h = cond-true _ _ _ (lt-ltb c 128 h)
width_one Utf16 c h = cond-true _ _ _ (lt-ltb c 65536 (omega arith))

pub other_one : (e : Encoding) (c : ℕ) → c < 0x80 → other_width e c ≡ 1
other_one Utf8 c h = width_one Utf16 c h
other_one Utf16 c h = width_one Utf8 c h

module _ (w : ℕ → ℕ) (some : (c : ℕ) → 0 < w c) (one : (c : ℕ) → c < 0x80 → w c ≡ 1) (b : List ℕ) (below : (k : ℕ) → k < length b → get_or b k 0 < 0x80) where
  pub start-ascii : (k : ℕ) → k ≤ length b → start w b k ≡ k
  start-ascii zero h = start-zero w b
  start-ascii (suc k) h =
      let unit = one (get_or b k 0) (below k (omega arith)) in
      omega (arith, start-suc w b k (omega arith), start-ascii k (omega arith), unit)

  pub down-ascii : (p : ℕ) → p ≤ length b → down w b p ≡ p
  down-ascii p inside = ap (down w b) (sym (start-ascii p inside)) ∙ down-start w some b p inside

-- so an offset in the other encoding is the position
pub record AsciiOffset (e : Encoding) (b : List ℕ) (first end low high q : ℕ) : Type 0 where
  pub low_other : low ≡ start (other_width e) b first
  pub high_other : high ≡ start (other_width e) b end
  pub boundary : q ≤ high → start (width_in e) b (down (width_in e) b q) ≡ q
  pub place : low ≤ q → q ≤ high → other_place (part_of e b first end) q ≡ Some (q, 0)

pub ascii_offset : (e : Encoding) (b : List ℕ) → ((k : ℕ) → k < length b → get_or b k 0 < 0x80) → (first end low high q : ℕ) → Bounds (part_of e b first end) low high
    → first ≤ length b → AsciiOffset e b first end low high q
ascii_offset e b below first end low high q bounds inside =
    let w = width_in e in
    let o = other_width e in
    let own = start-ascii w (width_some e) (width_one e) b below in
    let other = start-ascii o (other_some e) (other_one e) b below in
    let number = down-ascii w (width_some e) (width_one e) b below in
    let other_number = down-ascii o (other_some e) (other_one e) b below in
    let low_is : low ≡ start o b first = bounds.low_is ∙ own first inside ∙ sym (other first inside) in
    let high_is : high ≡ start o b end = bounds.high_is ∙ own end bounds.end_inside ∙ sym (other end bounds.end_inside) in
    let few : q ≤ high → q ≤ length b = λ h. omega (arith, h, bounds.high_is, own end bounds.end_inside, bounds.end_inside) in
    record {
      low_other = low_is;
      high_other = high_is;
      boundary = λ h. ap (start w b) (number q (few h)) ∙ own q (few h);
      place = λ l h.
          let here : ◌≡◌ {A = Place} (across w o b q) (q, 0) =
          ap (λ k. (start w b k, q - start o b k)) (other_number q (few h))
          ∙ ap (λ p. (p, q - start o b q)) (own q (few h)) ∙ ap (λ n. (q, n)) {x = q - start o b q} {y = 0} (omega (arith, other q (few h))) in
          other_in e b first end q (omega (arith, low_is, l)) (omega (arith, high_is, h)) ∙ ap Some here;
    }
