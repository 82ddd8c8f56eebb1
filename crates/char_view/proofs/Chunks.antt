-- Pieces of the storage's text as chunks of the UTF-8 of the text.
use Rattle.std.proofs.Common.{◌≡◌, refl, sym, ap, subst, ◌∙◌, ℕ, zero, suc, ◌+◌, ◌-◌, ◌<◌, ◌≤◌, ⊎_elim, List, [], ◌∷◌, ◌++◌, length, take, drop, arith, slice_range}
use Rattle.std.proofs.lemmas.Bool.{cases_lt}
use Rattle.std.proofs.lemmas.List.{take-append-drop, drop-take, drop-drop}
use Rattle.std.proofs.lemmas.Str.{encodes-append}
use Rattle.std.proofs.Math.Seq.{take-append_seam, drop-append_seam}
use Rattle.std.specs.Char.{len_utf8}
use Rattle.std.specs.Str.{IsUtf8, IsCharBoundary}
use Rattle.unicode_segmentation.specs.Cursor.{IsChunkOf}
use Rattle.text_spec.specs.declared.encoding.Encoding.{Encoding}
use Rattle.text_spec.specs.Offsets.{start, down}
use Rattle.text_spec.specs.Text.{utf8}
use Rattle.text_spec.specs.Views.{width_in, part}
use Rattle.text_spec.proofs.Lengths.{start-utf8}
use Rattle.text_spec.proofs.Walk.{start-strict}
use Rattle.text_spec.proofs.Downward.{down-length}
use Rattle.text_spec.proofs.Widths.{width_some}
use Rattle.word_units.specs.Filling.{IsPiece}
use Rattle.word_units.specs.Parts.{part_of}
use Rattle.char_view.specs.Places.{IsText, IsPlace, own_bytes, own_number}
use Rattle.char_view.proofs.Parts.{start-part, place_of, cut_at, scalars-take, scalars-drop}

take-take : (n m : ℕ) (l : List ℕ) → n ≤ m → take n (take m l) ≡ take n l
take-take zero m l h = refl
take-take (suc n) zero l h = absurd (omega arith)
take-take (suc n) (suc m) [] h = refl
take-take (suc n) (suc m) (c ∷ l) h = ap (λ r. c ∷ r) (take-take n m l (omega arith))

-- a part of the text is a part of the whole
part-part : (b : List ℕ) (first end j k : ℕ) → first + k ≤ end → j ≤ k → part b (first + j) (first + k) ≡ part (part b first end) j k
part-part b first end j k inside order =
    let more : j + (end - first - j) ≡ end - first = omega (arith, inside, order) in
    let width : first + k - (first + j) ≡ k - j = omega arith in
    ap (λ n. take n (drop (first + j) b)) width
    ∙ sym (take-take (k - j) (end - first - j) (drop (first + j) b) (omega (arith, inside)))
    ∙ ap (λ l. take (k - j) (take (end - first - j) l)) (sym (drop-drop j first b))
    ∙ ap (take (k - j)) (sym (drop-take j (end - first - j) (drop first b)) ∙ ap (λ n. drop j (take n (drop first b))) more)

-- the UTF-8 of a part, as a slice of that of the text
utf8-part : (t : List ℕ) (j k : ℕ) → j ≤ k → k ≤ length t → (piece : List ℕ) → piece ≡ utf8 (part t j k)
    → piece ≡ slice_range (utf8 t) (start len_utf8 t j) (start len_utf8 t j + length piece)
utf8-part t j k order inside piece is =
    let front = utf8 (take j t) in
    let mid = utf8 (part t j k) in
    let back = utf8 (drop (k - j) (drop j t)) in
    let o = start len_utf8 t j in
    let whole : utf8 t ≡ front ++ (mid ++ back) =
    ap utf8 (sym (take-append-drop j t)) ∙ encodes-append (take j t) (drop j t)
    ∙ ap (λ l. front ++ l) (ap utf8 (sym (take-append-drop (k - j) (drop j t))) ∙ encodes-append (take (k - j) (drop j t)) (drop (k - j) (drop j t))) in
    let width : o + length piece - o ≡ length piece = omega arith in
    sym (ap (λ n. take n (drop o (utf8 t))) width
    ∙ ap (λ n. take (length piece) (drop n (utf8 t))) (start-utf8 t j)
    ∙ ap (λ l. take (length piece) (drop (length front) l)) whole
    ∙ ap (take (length piece)) (drop-append_seam front (mid ++ back))
    ∙ ap (λ l. take (length l) (mid ++ back)) is
    ∙ take-append_seam mid back ∙ sym is)

-- a piece between two places of the text
pub record IsCut (e : Encoding) (b : List ℕ) (first end from to offset end_offset : ℕ) (piece : List ℕ) : Type 0 where
  pub place : IsPlace (part_of e b first end) offset from
  pub end_place : IsPlace (part_of e b first end) end_offset to
  pub chunk : IsChunkOf (own_bytes (part_of e b first end)) piece offset
  pub utf8 : IsUtf8 piece
  pub sum : offset + length piece ≡ end_offset

-- of two boundaries in this order the first isn't the later scalar
in_order : (e : Encoding) (b : List ℕ) (from to m n : ℕ) → from ≤ to → start (width_in e) b m ≡ from → start (width_in e) b n ≡ to → n < m → m ≤ length b → ⊥
in_order e b from to m n order m_is n_is h inside = omega (arith, order, m_is, n_is, start-strict (width_in e) (width_some e) b n m h inside)

pub cut_of : (e : Encoding) (b : List ℕ) (first end from to : ℕ) (piece : List ℕ) → IsText (part_of e b first end) → IsPiece (part_of e b first end) from to piece
    → start (width_in e) b first ≤ from → to ≤ start (width_in e) b end
    → IsCut e b first end from to (start len_utf8 (part b first end) (own_number (part_of e b first end) from)) (start len_utf8 (part b first end) (own_number (part_of e b first end) to)) piece
cut_of e b first end from to piece text p low high =
    let w = width_in e in
    let t = part b first end in
    let j = own_number (part_of e b first end) from in
    let k = own_number (part_of e b first end) to in
    let lowest : first ≤ down w b from = ⊎_elim (λ (l : down w b from < first). absurd (in_order e b _ _ first (down w b from) low refl p.boundary l (omega (arith, text.order, text.inside)))) (λ l. l) (cases_lt (down w b from) first) in
    let between : down w b from ≤ down w b to = ⊎_elim (λ (l : down w b to < down w b from). absurd (in_order e b from to (down w b from) (down w b to) p.order p.boundary p.end_boundary l (down-length w b from))) (λ l. l) (cases_lt (down w b to) (down w b from)) in
    let highest : down w b to ≤ end = ⊎_elim (λ (l : end < down w b to). absurd (in_order e b to _ (down w b to) end high p.end_boundary refl l (down-length w b to))) (λ l. l) (cases_lt end (down w b to)) in
    let from_is : first + j ≡ down w b from = omega (arith, lowest) in
    let to_is : first + k ≡ down w b to = omega (arith, lowest, between) in
    let within : k ≤ length t = omega (arith, highest, to_is, text.size) in
    let sum : start len_utf8 t j + length piece ≡ start len_utf8 t k =
    omega (arith, p.size, start-part len_utf8 b first end j (omega (arith, from_is, between, highest)), start-part len_utf8 b first end k (omega (arith, to_is, highest)), ap (start len_utf8 b) from_is, ap (start len_utf8 b) to_is) in
    let bytes : piece ≡ utf8 (part t j k) =
    p.bytes ∙ ap (λ n. utf8 (part b n (down w b to))) (sym from_is) ∙ ap (λ n. utf8 (part b (first + j) n)) (sym to_is)
    ∙ ap utf8 (part-part b first end j k (omega (arith, to_is, highest)) (omega (arith, from_is, to_is, between))) in
    record {
      place = place_of e b first end j _ from text (omega (arith, from_is, between, highest)) refl (sym p.boundary ∙ ap (start w b) (sym from_is));
      end_place = place_of e b first end k _ to text (omega (arith, to_is, highest)) refl (sym p.end_boundary ∙ ap (start w b) (sym to_is));
      chunk = record {
        start_boundary = cut_at t text.scalars j (omega (arith, from_is, to_is, between, within));
        end_boundary = subst (IsCharBoundary (own_bytes (part_of e b first end))) (sym sum) (cut_at t text.scalars k within);
        bytes = utf8-part t j k (omega (arith, from_is, to_is, between)) within piece bytes;
      };
      utf8 = (part t j k, (scalars-take (drop j t) (k - j) (scalars-drop t j text.scalars), sym bytes));
      sum = sum;
    }
