-- Pieces of a text that grow by a scalar.
use Rattle.std.proofs.Common.{◌≡◌, refl, sym, ap, ◌∙◌, ℕ, suc, ◌+◌, ◌-◌, ◌<◌, ◌≤◌, ⊎_elim, List, [], ◌∷◌, ◌++◌, length, take, drop, get_or, arith, append-nil, take-add}
use Rattle.std.proofs.Math.Seq.{drop-cons}
use Rattle.std.proofs.lemmas.Bool.{cases_lt}
use Rattle.std.proofs.lemmas.List.{drop-drop}
use Rattle.std.proofs.lemmas.Str.{encodes-append, len_utf8_bounds}
use Rattle.std.specs.Char.{encode_utf8, len_utf8}
use Rattle.text_spec.specs.declared.encoding.Encoding.{Encoding}
use Rattle.text_spec.specs.Offsets.{start, down}
use Rattle.text_spec.specs.Text.{utf8}
use Rattle.text_spec.specs.Views.{width_in, size_in, part}
use Rattle.text_spec.proofs.Downward.{start-down, down-length}
use Rattle.text_spec.proofs.Walk.{start-suc, start-mono, down-next, down-start}
use Rattle.text_spec.proofs.Widths.{width_some}
use Rattle.word_units.specs.Filling.{IsPiece}
use Rattle.word_units.proofs.Passing.{passes}
use Rattle.word_units.specs.Parts.{part_of}

-- nothing lies between a boundary and itself
pub utf8-part-none : (b : List ℕ) (k : ℕ) → [] ≡ utf8 (part b k k)
utf8-part-none b k = let none : 0 ≡ k - k = omega arith in ap (λ n. utf8 (take n (drop k b))) none

-- one scalar more
pub utf8-part-more : (b : List ℕ) (j k : ℕ) → j ≤ k → k < length b → utf8 (part b j (suc k)) ≡ utf8 (part b j k) ++ encode_utf8 (get_or b k 0)
utf8-part-more b j k order inside =
    let more : suc k - j ≡ (k - j) + 1 = omega (arith, order) in
    let at : j + (k - j) ≡ k = omega (arith, order) in
    ap (λ n. utf8 (take n (drop j b))) more
    ∙ ap utf8 (take-add (k - j) 1 (drop j b))
    ∙ ap (λ l. utf8 (take (k - j) (drop j b) ++ take 1 l)) (drop-drop (k - j) j b ∙ ap (λ n. drop n b) at ∙ drop-cons b k 0 inside)
    ∙ encodes-append (take (k - j) (drop j b)) (get_or b k 0 ∷ [])
    ∙ ap (λ l. utf8 (part b j k) ++ l) (append-nil (encode_utf8 (get_or b k 0)))

-- and the piece with it
pub grows : (b : List ℕ) (j k m c : ℕ) → j ≤ k → k < length b → m ≡ suc k → c ≡ get_or b k 0 → utf8 (part b j k) ++ encode_utf8 c ≡ utf8 (part b j m)
grows b j k m c order inside next is =
    ap (λ x. utf8 (part b j k) ++ encode_utf8 x) is ∙ sym (utf8-part-more b j k order inside) ∙ ap (λ n. utf8 (part b j n)) (sym next)

pub piece_of : (e : Encoding) (b : List ℕ) (first end from to size : ℕ) (piece : List ℕ) → piece ≡ utf8 (part b (down (width_in e) b from) (down (width_in e) b to))
    → length piece ≡ size → from ≤ to → start (width_in e) b (down (width_in e) b from) ≡ from → start (width_in e) b (down (width_in e) b to) ≡ to
    → start len_utf8 b (down (width_in e) b from) + size ≡ start len_utf8 b (down (width_in e) b to) → IsPiece (part_of e b first end) from to piece
piece_of e b first end from to size piece bytes long order boundary end_boundary sum =
    record { bytes = bytes; order = order; boundary = boundary; end_boundary = end_boundary; size = omega (arith, long, sum) }

-- the scalar that is passed on the way to a boundary
pub record Passed (e : Encoding) (b : List ℕ) (at to next scalar : ℕ) : Type 0 where
  pub is : scalar ≡ get_or b (down (width_in e) b at) 0
  pub inside : down (width_in e) b at < length b
  pub number : down (width_in e) b next ≡ suc (down (width_in e) b at)
  pub boundary : start (width_in e) b (down (width_in e) b next) ≡ next
  pub ahead : at < next
  pub within : next ≤ to
  pub size : start len_utf8 b (down (width_in e) b next) ≡ start len_utf8 b (down (width_in e) b at) + len_utf8 scalar
  pub some : 1 ≤ len_utf8 scalar
  pub few : len_utf8 scalar ≤ 4
  pub last : start len_utf8 b (down (width_in e) b at) + len_utf8 scalar ≤ start len_utf8 b (down (width_in e) b to)

pub passed : (e : Encoding) (b : List ℕ) (at to next scalar : ℕ) → at < to → to ≤ size_in e b
    → start (width_in e) b (down (width_in e) b at) ≡ at → start (width_in e) b (down (width_in e) b to) ≡ to
    → scalar ≡ get_or b (down (width_in e) b at) 0 → next ≡ at + width_in e (get_or b (down (width_in e) b at) 0)
    → Passed e b at to next scalar
passed e b at to next scalar before within boundary end_boundary is ends =
    let w = width_in e in
    let k = down w b at in
    let m = down w b to in
    let one = passes e b 0 0 at next _ (omega (arith, before, within)) boundary ends refl in
    let below : k < m = ⊎_elim (λ h. h) (λ (h : m ≤ k). absurd (omega (arith, start-mono w b m k h, boundary, end_boundary, before))) (cases_lt k m) in
    let number : down w b next ≡ suc k = omega (arith, one.number) in
    let step = start-suc len_utf8 b k one.inside in
    let long : len_utf8 scalar ≡ len_utf8 (get_or b k 0) = ap len_utf8 is in
    let bounds = len_utf8_bounds (get_or b k 0) in
    let here : next ≡ start w b (suc k) = sym one.boundary ∙ ap (start w b) number in
    record {
      is = is;
      inside = one.inside;
      number = number;
      boundary = one.boundary;
      ahead = one.ahead;
      within = omega (arith, here, start-mono w b (suc k) m (omega (arith, below)), end_boundary);
      size = ap (start len_utf8 b) number ∙ omega (arith, step, long);
      some = omega (arith, long, bounds);
      few = omega (arith, long, bounds);
      last = omega (arith, step, long, start-mono len_utf8 b (suc k) m (omega (arith, below)));
    }

-- a piece for which there is room reaches the boundary
pub reaches : (e : Encoding) (b : List ℕ) (from to at size : ℕ) → at ≤ to → to ≤ size_in e b → start (width_in e) b (down (width_in e) b at) ≡ at
    → start (width_in e) b (down (width_in e) b to) ≡ to
    → start len_utf8 b (down (width_in e) b from) + size ≡ start len_utf8 b (down (width_in e) b at)
    → start len_utf8 b (down (width_in e) b to) ≤ start len_utf8 b (down (width_in e) b from) + 64
    → (at < to → 64 < size + len_utf8 (get_or b (down (width_in e) b at) 0)) → at ≡ to
reaches e b from to at size before within boundary end_boundary sum fits most =
    ⊎_elim
    (λ (h : at < to).
    let next = passed e b at to _ _ h within boundary end_boundary refl refl in
    absurd (omega (arith, next.last, most h, sum, fits))) (λ (h : to ≤ at). omega (arith, h, before)) (cases_lt at to)

-- the scalar before a boundary
pub record Backed (e : Encoding) (b : List ℕ) (first from at : ℕ) : Type 0 where
  pub inside : at < size_in e b
  pub boundary : start (width_in e) b (down (width_in e) b at) ≡ at
  pub before : at < from
  pub number : down (width_in e) b from ≡ suc (down (width_in e) b at)
  pub previous : down (width_in e) b from - 1 ≡ down (width_in e) b at
  pub within : start (width_in e) b first ≤ at
  pub size : start len_utf8 b (down (width_in e) b from) ≡ start len_utf8 b (down (width_in e) b at) + len_utf8 (get_or b (down (width_in e) b at) 0)
  pub some : 1 ≤ len_utf8 (get_or b (down (width_in e) b at) 0)
  pub few : len_utf8 (get_or b (down (width_in e) b at) 0) ≤ 4

pub backed : (e : Encoding) (b : List ℕ) (first from at : ℕ) → start (width_in e) b first < from → from ≤ size_in e b
    → start (width_in e) b (down (width_in e) b from) ≡ from → at ≡ start (width_in e) b (down (width_in e) b (from - 1)) → Backed e b first from at
backed e b first from at above within boundary is =
    let w = width_in e in
    let m = down w b (from - 1) in
    let k = down w b from in
    let next = down-next w b (from - 1) (omega (arith, above, within)) in
    let low = start-down w b (from - 1) in
    let number_at : down w b at ≡ m = ap (down w b) is ∙ down-start w (width_some e) b m (omega (arith, next.0)) in
    let more : m < k = ⊎_elim (λ h. h) (λ (h : k ≤ m). absurd (omega (arith, start-mono w b k m h, boundary, low, above))) (cases_lt m k) in
    let most : k ≤ suc m = ⊎_elim (λ (h : suc m < k).
    absurd (omega (arith, start-mono w b (suc m) k (omega (arith, h)), next.1, boundary, width_some e (get_or b (suc m) 0), start-suc w b (suc m) (omega (arith, h, down-length w b from)), start-mono w b (suc (suc m)) k (omega (arith, h)))))
    (λ h. h) (cases_lt (suc m) k) in
    let number : k ≡ suc (down w b at) = omega (arith, more, most, number_at) in
    let below : first < k = ⊎_elim (λ h. h) (λ (h : k ≤ first). absurd (omega (arith, start-mono w b k first h, boundary, above))) (cases_lt first k) in
    let step = start-suc len_utf8 b (down w b at) (omega (arith, number_at, next.0)) in
    let bounds = len_utf8_bounds (get_or b (down w b at) 0) in
    record {
      inside = omega (arith, is, low, above, within);
      boundary = ap (start w b) number_at ∙ sym is;
      before = omega (arith, is, low, above);
      number = number;
      previous = omega (arith, number);
      within = omega (arith, is, start-mono w b first m (omega (arith, below, most)));
      size = ap (start len_utf8 b) number ∙ step;
      some = omega (arith, bounds);
      few = omega (arith, bounds);
    }
