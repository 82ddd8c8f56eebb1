-- A text with a part replaced, its UTF-8, and its mark of ASCII.
use Rattle.std.proofs.Common.{◌≡◌, refl, sym, ap, subst, ◌∙◌, ℕ, suc, ◌+◌, ◌-◌, ◌^◌, ◌<◌, ◌≤◌, Vec, Global, List, [], ◌∷◌, ◌++◌, length, take, drop, get_or, slice_index, slice_range, length-append, Some, Bool, true, false, ◌&&◌, IsUtf8, chars, nat_lt, Result, Ok, Err, OnErr, ◌↔◌, arith}
use Rattle.str_value.specs.declared.error.MakeError.{MakeError}
use Rattle.str_value.specs.declared.wrote.Wrote.{Wrote}
use Rattle.str_value.specs.declared.error.MakeError.TheVariants.{TooLong}
use Rattle.text_spec.specs.declared.out_of_memory.OutOfMemory.{OutOfMemory}
use Rattle.std.proofs.Math.Bool.{true-and, and-true, and-false, and_assoc}
use Rattle.std.proofs.lemmas.Bool.{and_parts}
use Rattle.std.proofs.lemmas.List.{take_all, take-append-drop, length-take-le, length-drop, drop-drop}
use Rattle.std.proofs.lemmas.Str.{encodes-append, encodes-chars, chars-encodes, scalars-chars}
use Rattle.std.specs.Char.{len_utf8, IsScalar}
use Rattle.std.specs.List.{splice}
use Rattle.std.specs.Str.{all_scalars}
use Rattle.text_spec.specs.Editing.{replaced}
use Rattle.text_spec.specs.Offsets.{start, down}
use Rattle.text_spec.specs.Text.{utf8, repair}
use Rattle.text_spec.specs.Views.{width_in, size_in, part}
use Rattle.text_spec.proofs.Bytes.{length-utf8}
use Rattle.text_spec.proofs.Denoting.{denoted_size}
use Rattle.text_spec.proofs.Downward.{down-length}
use Rattle.text_spec.proofs.Walk.{start-zero, down-start, down-end}
use Rattle.text_spec.proofs.Widths.{width_some}
use Rattle.std.proofs.Math.Seq.{take-add}
use Rattle.text_spec.proofs.Lengths.{start-utf8}
use Rattle.text_spec.proofs.Replacing.{utf8-replaced}
use Rattle.text_spec.proofs.Repaired.{read16}
use Rattle.text_spec.proofs.Units.{scalar16}
use Rattle.object_words.specs.Rows.{Row, owned, is_ascii, count_of, Describes}
use Rattle.str_value.specs.Meaning.{Meaning, storage_of, text_between, spliced}
use Rattle.str_value.specs.declared.storage.Storage.{Storage}
use Rattle.str_value.specs.declared.storage.Storage.TheVariants.{Bytes}
use Rattle.str_value.specs.Stored.{meaning_of, IsStored}
use Rattle.str_value.proofs.Kept.{row-kept, denotes-kept, bytes-stored}
use Rattle.text_spec.specs.Packed.{units_of, denoted_text}
use Rattle.text_spec.specs.declared.encoding.Encoding.{Encoding}
use Rattle.text_spec.specs.declared.encoding.Encoding.TheVariants.{Utf8, Utf16}
use Rattle.text_spec.proofs.Denoting.{utf16_words}
use Rattle.text_spec.proofs.Listed.{utf8-bytes}
use Rattle.str_value.proofs.Between.{held-bytes, scalars-take, scalars-drop, both-true, down-mono}

-- ---- the scalars of a value's text
each-scalar : (t : List ℕ) → ((k : ℕ) → k < length t → IsScalar (get_or t k 0)) → all_scalars t ≡ true
each-scalar [] h = refl
each-scalar (c ∷ t) h = both-true _ _ (h 0 (omega arith)) (each-scalar t (λ k l. h (suc k) (omega arith)))

repair-scalars : (us : List ℕ) → ((i : ℕ) → slice_index us i < 2 ^ 16) → all_scalars (repair us) ≡ true
repair-scalars us fits = each-scalar (repair us) (λ k l. scalar16 us fits _ _ (read16 us fits k l))

scalars-denoted : (e : Encoding) (ws : List ℕ) (n : ℕ) (t : List ℕ) → denoted_text e ws n ≡ Some t → all_scalars t ≡ true
scalars-denoted Utf8 ws n t is = (held-bytes ws n t is).1
scalars-denoted Utf16 ws n t is = let w = utf16_words ws n t is in subst (λ u. all_scalars u ≡ true) w.text (repair-scalars (units_of ws n) w.fits)

pub scalars-kept : (object : ℕ × ℕ) (storage : Storage) (now : Meaning) → IsStored object storage → meaning_of object storage ≡ now
    → all_scalars (now.text) ≡ true
scalars-kept object storage now is e = scalars-denoted _ _ _ _ (denotes-kept object storage now is e)

-- ---- the UTF-8 of a text with another one in place of a part
scalars-append : (s t : List ℕ) → all_scalars s ≡ true → all_scalars t ≡ true → all_scalars (s ++ t) ≡ true
scalars-append [] t hs ht = ht
scalars-append (c ∷ s) t hs ht = let parts = and_parts _ _ hs in both-true _ _ parts.0 (scalars-append s t parts.1 ht)

pub replaced-scalars : (t r : List ℕ) (i j : ℕ) → all_scalars t ≡ true → all_scalars r ≡ true → all_scalars (replaced t i j r) ≡ true
replaced-scalars t r i j ht hr =
    scalars-append (take i t) (r ++ drop j t) (scalars-take i t ht) (scalars-append r (drop j t) hr (scalars-drop j t ht))

-- bytes that are the UTF-8 of a value's text with another one in place of a part
pub record IsSpliced (now : Meaning) (low high : ℕ) (with bytes : List ℕ) : Type 0 where
  pub bytes_are : bytes ≡ utf8 (spliced now low high (chars with))
  pub valid : IsUtf8 bytes
  pub text_is : chars bytes ≡ spliced now low high (chars with)

abbrev pub number : Meaning → ℕ → ℕ
number now p = down (width_in (storage_of (now.row))) (now.text) p

pub is-spliced : (now : Meaning) (low high from to : ℕ) (with : List ℕ) → all_scalars (now.text) ≡ true → IsUtf8 with
    → from ≡ start len_utf8 (now.text) (number now low) → to ≡ start len_utf8 (now.text) (number now high)
    → IsSpliced now low high with (splice (utf8 (now.text)) from to with)
is-spliced now low high from to with ok text f t =
    let old = now.text in
    let new = spliced now low high (chars with) in
    let same : splice (utf8 old) from to with ≡ utf8 new =
    ap (λ n. splice (utf8 old) n to with) f ∙ ap (λ n. splice (utf8 old) (start len_utf8 old (number now low)) n with) t
    ∙ ap (splice (utf8 old) (start len_utf8 old (number now low)) (start len_utf8 old (number now high))) (sym (encodes-chars with text))
    ∙ sym (utf8-replaced old (chars with) (number now low) (number now high)) in
    let scalars = replaced-scalars old (chars with) (number now low) (number now high) ok (scalars-chars with text) in
    record {
      bytes_are = same;
      valid = (new, (scalars, sym same));
      text_is = ap chars same ∙ chars-encodes new scalars;
    }

-- ---- lengths
pub length-splice : (xs ws : List ℕ) (l h : ℕ) → l ≤ h → h ≤ length xs → length (splice xs l h ws) ≡ length xs - (h - l) + length ws
length-splice xs ws l h order inside =
    omega (arith, length-append (take l xs) (ws ++ drop h xs), length-append ws (drop h xs), length-take-le l xs (omega arith), length-drop h xs)

-- ---- the mark of ASCII
pub ascii-append : (a b : List ℕ) → is_ascii (a ++ b) ≡ (is_ascii a && is_ascii b)
ascii-append [] b = sym (true-and (is_ascii b))
ascii-append (u ∷ a) b = ap (λ x. nat_lt u 128 && x) (ascii-append a b) ∙ sym (and_assoc (nat_lt u 128) (is_ascii a) (is_ascii b))

ascii-cut : (b : List ℕ) (k : ℕ) → is_ascii b ≡ (is_ascii (take k b) && is_ascii (drop k b))
ascii-cut b k = ap is_ascii (sym (take-append-drop k b)) ∙ ascii-append (take k b) (drop k b)

module _ (b w : List ℕ) (l h : ℕ) where
  ascii-parts : is_ascii (splice b l h w) ≡ (is_ascii (take l b) && (is_ascii w && is_ascii (drop h b)))
  ascii-parts = ascii-append (take l b) (w ++ drop h b) ∙ ap (λ x. is_ascii (take l b) && x) (ascii-append w (drop h b))

  pub ascii-marked : is_ascii b ≡ true → is_ascii w ≡ is_ascii (splice b l h w)
  ascii-marked marked =
      let front = (and_parts _ _ (sym (ascii-cut b l) ∙ marked)).0 in
      let back = (and_parts _ _ (sym (ascii-cut b h) ∙ marked)).1 in
      sym (ascii-parts ∙ ap (λ x. x && (is_ascii w && is_ascii (drop h b))) front ∙ true-and (is_ascii w && is_ascii (drop h b))
      ∙ ap (λ x. is_ascii w && x) back ∙ and-true (is_ascii w))

  pub ascii-added : is_ascii w ≡ false → is_ascii w ≡ is_ascii (splice b l h w)
  ascii-added none =
      none ∙ sym (ascii-parts ∙ ap (λ x. is_ascii (take l b) && (x && is_ascii (drop h b))) none ∙ and-false (is_ascii (take l b)))

  pub ascii-both : is_ascii w ≡ true → (is_ascii (take l b) && is_ascii (drop h b)) ≡ is_ascii (splice b l h w)
  ascii-both all = sym (ascii-parts ∙ ap (λ x. is_ascii (take l b) && (x && is_ascii (drop h b))) all ∙ ap (λ x. is_ascii (take l b) && x) (true-and (is_ascii (drop h b))))

  pub ascii-left : l ≤ h → is_ascii b ≡ false → is_ascii w ≡ true → is_ascii (slice_range b l h) ≡ true → false ≡ is_ascii (splice b l h w)
  ascii-left order other all gone =
      let n : l + (h - l) ≡ h = omega arith in
      let behind : is_ascii (drop l b) ≡ is_ascii (drop h b) =
      ascii-cut (drop l b) (h - l) ∙ ap (λ x. x && is_ascii (drop (h - l) (drop l b))) gone ∙ true-and (is_ascii (drop (h - l) (drop l b)))
      ∙ ap is_ascii (drop-drop (h - l) l b ∙ ap (λ k. drop k b) n) in
      sym other ∙ ascii-cut b l ∙ ap (λ x. is_ascii (take l b) && x) behind ∙ ascii-both all

-- ---- where a part stands in the UTF-8 of the text
pub part8 : (t : List ℕ) (i j : ℕ) → i ≤ j → start len_utf8 t i + length (utf8 (part t i j)) ≡ start len_utf8 t j
part8 t i j h =
    let n : i + (j - i) ≡ j = omega arith in
    let up : utf8 (take j t) ≡ utf8 (take i t) ++ utf8 (part t i j) =
    ap (λ k. utf8 (take k t)) (sym n) ∙ ap utf8 (take-add i (j - i) t) ∙ encodes-append (take i t) (part t i j) in
    omega (arith, start-utf8 t i, start-utf8 t j, ap length up, length-append (utf8 (take i t)) (utf8 (part t i j)))

pub record Places8 (now : Meaning) (low high end : ℕ) : Type 0 where
  pub first : length (utf8 (text_between now 0 low)) ≡ start len_utf8 (now.text) (number now low)
  pub second : start len_utf8 (now.text) (number now low) + length (utf8 (text_between now low high)) ≡ start len_utf8 (now.text) (number now high)
  pub third : start len_utf8 (now.text) (number now high) + length (utf8 (text_between now high end)) ≡ length (utf8 (now.text))

pub places8 : (now : Meaning) (low high end : ℕ) → end ≡ size_in (storage_of (now.row)) (now.text) → low ≤ high → Places8 now low high end
places8 now low high end is order =
    let t = now.text in
    let w = width_in (storage_of (now.row)) in
    let zero-is : down w t 0 ≡ 0 = ap (down w t) (sym (start-zero w t)) ∙ down-start w (width_some (storage_of (now.row))) t 0 (omega arith) in
    let end-is : down w t end ≡ length t = down-end w t end (omega (arith, is)) in
    record {
      first = omega (arith, part8 t (down w t 0) (down w t low) (down-mono w t 0 low (omega arith)), ap (start len_utf8 t) zero-is, start-zero len_utf8 t);
      second = part8 t (down w t low) (down w t high) (down-mono w t low high order);
      third = omega (arith, part8 t (down w t high) (down w t end) (omega (arith, end-is, down-length w t high)), ap (start len_utf8 t) end-is, length-utf8 t);
    }

-- where it ends in the storage
pub end-kept : (object : ℕ × ℕ) (storage : Storage) (now : Meaning) (end : ℕ) → IsStored object storage → meaning_of object storage ≡ now
    → ((row : Row) → Describes row object → end ≡ count_of row) → end ≡ size_in (storage_of (now.row)) (now.text)
end-kept object storage now end is e counted = counted (now.row) (row-kept object storage now is e) ∙ denoted_size _ _ _ _ (denotes-kept object storage now is e)

-- all of the text lies between its two ends
pub whole8 : (now : Meaning) (end : ℕ) → end ≡ size_in (storage_of (now.row)) (now.text) → utf8 (text_between now 0 end) ≡ utf8 (now.text)
whole8 now end is =
    let t = now.text in
    let w = width_in (storage_of (now.row)) in
    let zero-is : down w t 0 ≡ 0 = ap (down w t) (sym (start-zero w t)) ∙ down-start w (width_some (storage_of (now.row))) t 0 (omega arith) in
    let end-is : down w t end ≡ length t = down-end w t end (omega (arith, is)) in
    ap (λ i. utf8 (part t i (down w t end))) zero-is ∙ ap (λ j. utf8 (part t 0 j)) end-is ∙ ap utf8 (take_all (length t - 0) t (omega arith))

-- ---- a value in a vector of its own
pub own-stored : (object : ℕ × ℕ) (v : Vec ℕ Global) (bytes : List ℕ) (ascii : Bool) (n : ℕ) → Describes (owned false ascii ascii n) object
    → ascii ≡ is_ascii bytes → n ≡ length v.items → v.items ≡ bytes → IsUtf8 bytes → length bytes ≤ 16777216 → IsStored object (Bytes v)
own-stored object v bytes ascii n d marked count same ok limit =
    bytes-stored object v bytes ascii (subst (λ k. Describes (owned false ascii ascii k) object) (count ∙ ap length same) d) marked same ok (utf8-bytes bytes ok) limit

pub on_err : (r : Result (Unit {0}) OutOfMemory) (P : Type 0) → P → OnErr r P
on_err (Ok u) P p = tt
on_err (Err e) P p = p

-- ---- what the new text's length tells
pub record SplicedAs (now : Meaning) (low high size : ℕ) (with bytes : List ℕ) : Type 0 where
  pub is : IsSpliced now low high with bytes
  pub long : length bytes ≡ size
  pub size_is : size ≡ length (utf8 (spliced now low high (chars with)))

pub spliced-as : (now : Meaning) (low high from to all : ℕ) (with shown : List ℕ) → all_scalars (now.text) ≡ true → IsUtf8 shown → shown ≡ with
    → from ≡ start len_utf8 (now.text) (number now low) → to ≡ start len_utf8 (now.text) (number now high)
    → all ≡ length (utf8 (now.text)) → (from ≤ to) × (to ≤ all)
    → SplicedAs now low high (all - (to - from) + length shown) with (splice (utf8 (now.text)) from to shown)
spliced-as now low high from to all with shown ok text same f t a order =
    let bytes = splice (utf8 (now.text)) from to shown in
    let s : IsSpliced now low high with bytes =
    subst (λ w. IsSpliced now low high w bytes) same (is-spliced now low high from to shown ok text f t) in
    let l : length bytes ≡ all - (to - from) + length shown =
    omega (arith, length-splice (utf8 (now.text)) shown from to order.0 (omega (arith, order.1, a)), a) in
    record { is = s; long = l; size_is = sym l ∙ ap length s.bytes_are }

-- the answers by length
abbrev pub is_err_of : Result Wrote MakeError → MakeError → Type 0
is_err_of r e = r ≡ Err e

pub too-long : (m size : ℕ) → m ≡ size → 16777216 < m → (n : ℕ)
    → (is_err_of (Err (TooLong m)) (TooLong n)) ↔ ((n ≡ size) × (16777216 < n))
too-long m size is over n = (λ e. let same : m ≡ n = cc in (sym same ∙ is, omega (arith, over, same)), λ p. ap (λ k. Err (TooLong k)) (is ∙ sym (p.0)))

pub not-too-long : (r : Result Wrote MakeError) (size : ℕ) → ((n : ℕ) → ¬ (is_err_of r (TooLong n))) → size ≤ 16777216 → (n : ℕ)
    → (is_err_of r (TooLong n)) ↔ ((n ≡ size) × (16777216 < n))
not-too-long r size other within n = (λ e. absurd (other n e), λ p. absurd (omega (arith, p.0, p.1, within)))
