-- What content words tell of the text that they denote.
use Rattle.std.proofs.Common.{◌≡◌, refl, sym, ap, subst, ◌∙◌, ℕ, ◌*◌, ◌<◌, ◌≤◌, Bool, true, false, cond, nat_le, List, length, get_or, arith, Option, Some, None, ⊎_elim}
use Rattle.std.proofs.lemmas.Bool.{leb-true, cases_lt}
use Rattle.std.proofs.lemmas.List.{get_or_past}
use Rattle.std.proofs.lemmas.List.FromFn.{get_or-map-range_with_len, length-map-range_with_len}
use Rattle.std.proofs.lemmas.Str.{encodes-chars, scalars-chars, IsUtf8-from_is_utf8}
use Rattle.std.specs.Str.{is_utf8, all_scalars, encode_utf8_all, chars}
use Rattle.text_spec.specs.declared.encoding.Encoding.{Encoding}
use Rattle.text_spec.specs.declared.encoding.Encoding.TheVariants.{Utf8, Utf16}
use Rattle.text_spec.specs.Text.{repair}
use Rattle.text_spec.specs.Packed.{byte_of, unit_of, bytes_of, units_of, units_in, content_words, decode_packed, denoted_text}
use Rattle.text_spec.specs.Views.{size_in}
use Rattle.text_spec.proofs.Bytes.{length-utf8, HoldUtf8}
use Rattle.text_spec.proofs.Repaired.{total16}

pub some_if : {A : Type 0} (b : Bool) (o : Option A) (x : A) → cond b o None ≡ Some x → (b ≡ true) × (o ≡ Some x)
some_if b o x = elim b as (λ v. cond v o None ≡ Some x → (v ≡ true) × (o ≡ Some x)) [ true ↦ λ e. (refl, e) | false ↦ λ e. cc ]

pub some_same : {A : Type 0} (x y : A) → Some x ≡ Some y → x ≡ y
some_same x y e = cc

-- there is room for the units, and they denote the text
pub denoted_parts : (e : Encoding) (ws : List ℕ) (n : ℕ) (b : List ℕ) → denoted_text e ws n ≡ Some b → (n ≤ units_in e (length ws)) × (decode_packed e ws n ≡ Some b)
denoted_parts e ws n b is = let p = some_if (nat_le n (units_in e (length ws))) (decode_packed e ws n) b is in (leb-true _ _ p.0, p.1)

pub record Utf8Words (ws : List ℕ) (n : ℕ) (b : List ℕ) : Type 0 where
  pub count : n ≡ length (encode_utf8_all b)
  pub scalars : all_scalars b ≡ true
  pub held : HoldUtf8 ws b

pub utf8_words : (ws : List ℕ) (n : ℕ) (b : List ℕ) → denoted_text Utf8 ws n ≡ Some b → Utf8Words ws n b
utf8_words ws n b is =
    let parts = denoted_parts Utf8 ws n b is in
    let is8 = some_if (is_utf8 (bytes_of ws n)) (Some (chars (bytes_of ws n))) b parts.1 in
    let u = IsUtf8-from_is_utf8 (bytes_of ws n) is8.0 in
    let text : chars (bytes_of ws n) ≡ b = some_same _ _ is8.1 in
    let same : encode_utf8_all b ≡ bytes_of ws n = ap encode_utf8_all (sym text) ∙ encodes-chars (bytes_of ws n) u in
    let long : n ≡ length (encode_utf8_all b) = sym (length-map-range_with_len (byte_of ws) 0 n) ∙ ap length (sym same) in
    record {
      count = long;
      scalars = subst (λ t. all_scalars t ≡ true) text (scalars-chars (bytes_of ws n) u);
      held = (omega (arith, long, parts.0), λ p l. sym (get_or-map-range_with_len (byte_of ws) 0 n p p 0 (omega (arith, long)) (omega arith)) ∙ ap (λ bs. get_or bs p 0) (sym same));
    }

pub record Utf16Words (ws : List ℕ) (n : ℕ) (b : List ℕ) : Type 0 where
  pub room : n ≤ 4 * length ws
  pub count : length (units_of ws n) ≡ n
  pub text : repair (units_of ws n) ≡ b
  pub unit : (p : ℕ) → p < n → get_or (units_of ws n) p 0 ≡ unit_of ws p
  pub fits : (p : ℕ) → get_or (units_of ws n) p 0 < 65536

pub utf16_words : (ws : List ℕ) (n : ℕ) (b : List ℕ) → denoted_text Utf16 ws n ≡ Some b → Utf16Words ws n b
utf16_words ws n b is =
    let parts = denoted_parts Utf16 ws n b is in
    let at : (p : ℕ) → p < n → get_or (units_of ws n) p 0 ≡ unit_of ws p = λ p l. get_or-map-range_with_len (unit_of ws) 0 n p p 0 l (omega arith) in
    let long = length-map-range_with_len (unit_of ws) 0 n in
    record {
      room = parts.0;
      count = long;
      text = some_same _ _ parts.1;
      unit = at;
      fits = λ p. ⊎_elim (λ l. omega (arith, at p l)) (λ l. omega (arith, get_or_past (units_of ws n) p 0 (omega (arith, long)))) (cases_lt p n);
    }

-- so the count is the text's size, and the words are enough
pub denoted_size : (e : Encoding) (ws : List ℕ) (n : ℕ) (b : List ℕ) → denoted_text e ws n ≡ Some b → n ≡ size_in e b
denoted_size Utf8 ws n b is = let w = utf8_words ws n b is in w.count ∙ length-utf8 b
denoted_size Utf16 ws n b is =
    let w = utf16_words ws n b is in
    sym w.count ∙ sym (total16 (units_of ws n) w.fits) ∙ ap (size_in Utf16) w.text

pub denoted_room : (e : Encoding) (ws : List ℕ) (n : ℕ) (b : List ℕ) → denoted_text e ws n ≡ Some b → content_words e n ≤ length ws
denoted_room Utf8 ws n b is = let r = (denoted_parts Utf8 ws n b is).0 in omega arith
denoted_room Utf16 ws n b is = let r = (denoted_parts Utf16 ws n b is).0 in omega arith

-- a unit of the list is that of the words, and 0 past its end
pub units_of-at : (ws : List ℕ) (n q : ℕ) → q < n → get_or (units_of ws n) q 0 ≡ unit_of ws q
units_of-at ws n q l = get_or-map-range_with_len (unit_of ws) 0 n q q 0 l (omega arith)

pub units_of-past : (ws : List ℕ) (n q : ℕ) → n ≤ q → get_or (units_of ws n) q 0 ≡ 0
units_of-past ws n q l = get_or_past (units_of ws n) q 0 (omega (arith, length-map-range_with_len (unit_of ws) 0 n))

-- the same where the encoding and the count are known by other names
pub denoted_as : (e f : Encoding) (ws : List ℕ) (n : ℕ) (b : List ℕ) → e ≡ f → n ≡ size_in e b → denoted_text e ws n ≡ Some b
    → denoted_text f ws (size_in f b) ≡ Some b
denoted_as e f ws n b same long is =
    subst (λ x. denoted_text x ws (size_in x b) ≡ Some b) same (subst (λ m. denoted_text e ws m ≡ Some b) long is)
