-- Whether a side is the list of breadcrumbs of the bytes beside it, scalar by scalar.
use Rattle.std.proofs.Common.{◌≡◌, refl, sym, ap, subst, ◌∙◌, ℕ, zero, suc, ◌+◌, ◌-◌, ◌*◌, ◌/◌, ◌<◌, ◌≤◌, ⊎_elim, List, [], ◌∷◌, ◌++◌, length, take, drop, get_or, arith, Some}
use Rattle.std.proofs.lemmas.Bool.{cases_lt, cond-true, le-leb}
use Rattle.std.proofs.lemmas.Nat.{mul-le, le-div, div_below}
use Rattle.std.proofs.lemmas.List.{ext_get_or, take-append-drop, drop-drop}
use Rattle.std.proofs.lemmas.List.FromFn.{length-map-range_with_len}
use Rattle.std.proofs.lemmas.Str.{length-encode, encode_same, is_utf8-from_IsUtf8, IsUtf8-append, IsUtf8-encode}
use Rattle.std.proofs.Math.Seq.{drop-append_seam, drop-cons, take-add, take-length}
use Rattle.std.specs.Char.{IsScalar, encode_utf8, len_utf8}
use Rattle.std.specs.Str.{IsUtf8, is_utf8, encode_utf8_all, chars, StartsWithNoChar}
use Rattle.text_spec.specs.declared.encoding.Encoding.TheVariants.{Utf8}
use Rattle.text_spec.specs.Offsets.{len_utf16, start, down}
use Rattle.index_words.specs.Crumbs.{size16, index_word8, index16, crumbs}
use Rattle.text_spec.specs.Packed.{byte_of, bytes_of, denoted_text}
use Rattle.text_spec.proofs.Bytes.{scalar_at_index}
use Rattle.text_spec.proofs.Decoding.{utf8-decode_utf8}
use Rattle.text_spec.proofs.Denoting.{denoted_parts, denoted_size, utf8_words}
use Rattle.text_spec.proofs.Walk.{start-suc, start-le, down-next, down-start, down-unique, down-end}
use Rattle.text_spec.proofs.Widths.{len8_some}
use Rattle.crumbs.specs.Fitting.{BeginsScalar, Matches, IsAmiss}
use Rattle.crumbs.proofs.Crumbing.{index16-at, length-crumbs, crumbs-at, size16-le}

drop_start : (t : List ℕ) (k : ℕ) → drop (start len_utf8 t k) (encode_utf8_all t) ≡ encode_utf8_all (drop k t)
drop_start [] zero = refl
drop_start [] (suc k) = refl
drop_start (c ∷ t) zero = refl
drop_start (c ∷ t) (suc k) =
    let xs = encode_utf8 c ++ encode_utf8_all t in
    sym (drop-drop (start len_utf8 t k) (len_utf8 c) xs)
    ∙ ap (drop (start len_utf8 t k)) (ap (λ n. drop n xs) (sym (length-encode c)) ∙ drop-append_seam (encode_utf8 c) (encode_utf8_all t))
    ∙ drop_start t k

-- units from one number to another are those of what stands at a byte
abbrev pub AreUnits : List ℕ → ℕ → ℕ → ℕ → Type 0
AreUnits t at reached stop = (o : ℕ) → reached ≤ o → o < stop → index16 t o ≡ index_word8 at (o - reached)

module _ (content : List ℕ) (count : ℕ) (t : List ℕ) (denoted : denoted_text Utf8 content count ≡ Some t) where
  -- the scalar that begins at a boundary
  record Here (p k : ℕ) : Type 0 where
    inside : k < length t
    ok : IsScalar (get_or t k 0)
    rest : drop p (bytes_of content count) ≡ encode_utf8 (get_or t k 0) ++ encode_utf8_all (drop (suc k) t)

  here : (p : ℕ) → start len_utf8 t (down len_utf8 t p) ≡ p → p < count → Here p (down len_utf8 t p)
  here p boundary before =
      let k = down len_utf8 t p in
      let w = utf8_words content count t denoted in
      let near = down-next len_utf8 t p (omega (arith, denoted_size Utf8 content count t denoted, before)) in
      let bytes : encode_utf8_all t ≡ bytes_of content count = utf8-decode_utf8 (bytes_of content count) t (denoted_parts Utf8 content count t denoted).1 in
      record {
        inside = near.0;
        ok = scalar_at_index t w.scalars k near.0;
        rest = ap (drop p) (sym bytes) ∙ ap (λ n. drop n (encode_utf8_all t)) (sym boundary) ∙ drop_start t k ∙ ap encode_utf8_all (drop-cons t k 0 near.0);
      }

  pub scalar_begins : (p : ℕ) → start len_utf8 t (down len_utf8 t p) ≡ p → p < count → StartsWithNoChar (drop p (bytes_of content count)) → ⊥
  scalar_begins p boundary before none = let h = here p boundary before in none (get_or t (down len_utf8 t p) 0) (encode_utf8_all (drop (suc (down len_utf8 t p)) t)) h.ok h.rest

  -- one scalar on
  pub record Onward (p width reached units : ℕ) : Type 0 where
    pub boundary : start len_utf8 t (down len_utf8 t (p + width)) ≡ p + width
    pub units_are : start len_utf16 t (down len_utf8 t (p + width)) ≡ reached + units
    pub units_in : reached + units ≤ size16 t
    pub each : AreUnits t p reached (reached + units)

  pub onward : (p reached width units : ℕ) → start len_utf8 t (down len_utf8 t p) ≡ p → start len_utf16 t (down len_utf8 t p) ≡ reached → p < count
      → BeginsScalar content count p width → ((c : ℕ) → width ≡ len_utf8 c → units ≡ len_utf16 c) → Onward p width reached units
  onward p reached width units boundary units_are before found takes =
      let k = down len_utf8 t p in
      let h = here p boundary before in
      let c = get_or t k 0 in
      let left = drop p (bytes_of content count) in
      let both : encode_utf8 found.scalar ++ drop width left ≡ encode_utf8 c ++ encode_utf8_all (drop (suc k) t) =
      ap (λ l. l ++ drop width left) (sym found.bytes) ∙ take-append-drop width left ∙ h.rest in
      let same = (encode_same found.scalar c (drop width left) (encode_utf8_all (drop (suc k) t)) both).0 in
      let wide : width ≡ len_utf8 c = found.width_is ∙ ap len_utf8 same in
      let long : units ≡ len_utf16 c = takes c wide in
      let next8 : start len_utf8 t (suc k) ≡ p + width = omega (arith, start-suc len_utf8 t k h.inside, boundary, wide) in
      let next16 : start len_utf16 t (suc k) ≡ reached + units = omega (arith, start-suc len_utf16 t k h.inside, units_are, long) in
      let number : down len_utf8 t (p + width) ≡ suc k = ap (down len_utf8 t) (sym next8) ∙ down-start len_utf8 len8_some t (suc k) h.inside in
      record {
        boundary = ap (start len_utf8 t) number ∙ next8;
        units_are = ap (start len_utf16 t) number ∙ next16;
        units_in = omega (arith, next16, start-le len_utf16 t (suc k));
        each = λ o low high.
            let d : down len_utf16 t o ≡ k = down-unique len_utf16 t o k h.inside (omega (arith, units_are)) (omega (arith, next16)) in
            sym (index16-at t o k p (o - reached) d boundary (ap (λ n. o - n) units_are));
      }

  -- the end
  pub record AtEnd (reached : ℕ) : Type 0 where
    pub all : reached ≡ size16 t
    pub each : AreUnits t count reached (reached + 1)

  pub at_end : (reached : ℕ) → start len_utf16 t (down len_utf8 t count) ≡ reached → AtEnd reached
  at_end reached units_are =
      let size = denoted_size Utf8 content count t denoted in
      let last : down len_utf8 t count ≡ length t = down-end len_utf8 t count (omega (arith, size)) in
      let all : reached ≡ size16 t = sym units_are ∙ ap (start len_utf16 t) last in
      record {
        all = all;
        each = λ o low high.
            let d : down len_utf16 t o ≡ length t = down-end len_utf16 t o (omega (arith, all)) in
            sym (index16-at t o (length t) count (o - reached) d (sym size) (omega (arith, all)));
      }

module _ (t : List ℕ) (n : ℕ) (side : List ℕ) where
  -- the side has the first breadcrumbs of the text
  abbrev pub HasFirst : ℕ → Type 0
  HasFirst number = (j : ℕ) → j < number → (j + 1 < length side) × (get_or side (j + 1) 0 ≡ index16 t (j * n))

  pub has_more : (number at reached stop next : ℕ) → reached ≤ number * n → AreUnits t at reached stop → Matches side number n at reached stop next → HasFirst number → HasFirst next
  has_more number at reached stop next due units found first j below =
      ⊎_elim (λ (h : j < number). first j h)
      (λ (h : number ≤ j).
      let here = found.each j h below in
      let low : reached ≤ j * n = omega (arith, due, mul-le number n j n h (omega arith)) in
      let high : j * n < stop = omega (arith, found.last (omega arith), mul-le j n (next - 1) n (omega arith) (omega arith)) in
      (here.0, here.1 ∙ sym (units (j * n) low high))) (cases_lt j number)

  -- where one is amiss, the side isn't the list
  pub not_list : (number at reached stop : ℕ) → 1 ≤ n → reached ≤ number * n → stop ≤ size16 t + 1 → AreUnits t at reached stop → IsAmiss side number n at reached stop
      → side ≡ crumbs t n → ⊥
  not_list number at reached stop some due within units found is =
      let j = found.number in
      let low : reached ≤ j * n = omega (arith, due, mul-le number n j n found.onward (omega arith)) in
      let most : j ≤ size16 t / n = le-div j (size16 t) n some (omega (arith, found.due, within)) in
      let long : j + 1 < length side = omega (arith, ap length is, length-crumbs t n, most) in
      found.amiss (long, ap (λ l. get_or l (j + 1) 0) is ∙ crumbs-at t n j most ∙ units (j * n) low found.due)

  -- how many there are
  pub total : (next : ℕ) → 1 ≤ n → size16 t + 1 ≤ next * n → (0 < next → (next - 1) * n < size16 t + 1) → next ≡ size16 t / n + 1
  total next some due last =
      let pos : 0 < next = ⊎_elim (λ h. h) (λ (h : next ≤ 0). let none : next * n ≡ 0 * n = ap (λ i. i * n) {x = next} {y = 0} (omega arith) in absurd (omega (arith, due, none))) (cases_lt 0 next) in
      omega (arith, div_below (size16 t) n next some (omega (arith, due)), le-div (next - 1) (size16 t) n some (omega (arith, last pos)))

  -- a side with the length, all breadcrumbs and no more is the list
  pub is_list : (next : ℕ) → next ≡ size16 t / n + 1 → HasFirst next → length side ≡ next + 1 → get_or side 0 0 ≡ size16 t → side ≡ crumbs t n
  is_list next all first long zero_is =
      ext_get_or 0 side (crumbs t n) (omega (arith, long, all, length-crumbs t n)) each
    where
      each : (i : ℕ) → i < length side → get_or side i 0 ≡ get_or (crumbs t n) i 0
      each zero h = zero_is
      each (suc j) h =
          let e : suc j ≡ j + 1 = omega arith in
          ap (λ i. get_or side i 0) e ∙ (first j (omega (arith, long))).1 ∙ sym (crumbs-at t n j (omega (arith, long, all))) ∙ ap (λ i. get_or (crumbs t n) i 0) (sym e)

-- ---- at the end
pub record Ended (t : List ℕ) (n : ℕ) (side : List ℕ) (reached next : ℕ) : Type 0 where
  pub all : reached ≡ size16 t
  pub next_is : next ≡ size16 t / n + 1
  pub first : HasFirst t n side next

pub ended : (content : List ℕ) (count : ℕ) (t : List ℕ) → denoted_text Utf8 content count ≡ Some t → (n : ℕ) (side : List ℕ) (at number reached next : ℕ) → 1 ≤ n
    → at ≡ count → start len_utf16 t (down len_utf8 t at) ≡ reached → HasFirst t n side number → reached ≤ number * n → Matches side number n count reached (reached + 1) next
    → Ended t n side reached next
ended content count t den n side at number reached next some here units_are first due found =
    let e = at_end content count t den reached (subst (λ p. start len_utf16 t (down len_utf8 t p) ≡ reached) here units_are) in
    record {
      all = e.all;
      next_is = total t n side next some (omega (arith, e.all, found.due)) (λ h. omega (arith, e.all, found.last h));
      first = has_more t n side number count reached (reached + 1) next due e.each found first;
    }

-- where the last one is amiss, the side isn't the list
pub end_amiss : (content : List ℕ) (count : ℕ) (t : List ℕ) → denoted_text Utf8 content count ≡ Some t → (n : ℕ) (side : List ℕ) (at number reached : ℕ) → 1 ≤ n
    → at ≡ count → start len_utf16 t (down len_utf8 t at) ≡ reached → reached ≤ number * n → IsAmiss side number n count reached (reached + 1) → side ≡ crumbs t n → ⊥
end_amiss content count t den n side at number reached some here units_are due found is =
    let e = at_end content count t den reached (subst (λ p. start len_utf16 t (down len_utf8 t p) ≡ reached) here units_are) in
    not_list t n side number count reached (reached + 1) some due (omega (arith, e.all)) e.each found is

-- a text of the bytes has few units, so that another stride of as few crumbs has the same list
pub small_text : (content : List ℕ) (count : ℕ) (t : List ℕ) → denoted_text Utf8 content count ≡ Some t → count < 281474976710656 → size16 t < 281474976710656
small_text content count t den small = omega (arith, size16-le Utf8 t, denoted_size Utf8 content count t den, small)

-- ---- the bytes so far are UTF-8
module _ (content : List ℕ) (count : ℕ) where
  pub front_more : (p width : ℕ) → IsUtf8 (take p (bytes_of content count)) → BeginsScalar content count p width → IsUtf8 (take (p + width) (bytes_of content count))
  front_more p width front found =
      subst IsUtf8 (ap (λ l. take p (bytes_of content count) ++ l) (sym found.bytes) ∙ sym (take-add p width (bytes_of content count)))
      (IsUtf8-append (take p (bytes_of content count)) (encode_utf8 found.scalar) front (IsUtf8-encode found.scalar found.is_scalar))

  -- so at the end they are a text
  pub denotes : (p : ℕ) → p ≡ count → count ≤ 8 * length content → IsUtf8 (take p (bytes_of content count)) → denoted_text Utf8 content count ≡ Some (chars (bytes_of content count))
  denotes p all room front =
      let bytes = bytes_of content count in
      let long : length bytes ≡ count = length-map-range_with_len (byte_of content) 0 count in
      let whole : IsUtf8 bytes = subst IsUtf8 (ap (λ m. take m bytes) (all ∙ sym long) ∙ take-length bytes) front in
      cond-true _ _ _ (le-leb count (8 * length content) room) ∙ cond-true (is_utf8 bytes) _ _ (is_utf8-from_IsUtf8 bytes whole)
