-- The bytes of UTF-8 storage, copied a word at a time.
use Rattle.std.proofs.Common.{◌≡◌, refl, sym, ap, ◌∙◌, ℕ, zero, suc, ◌+◌, ◌*◌, ◌/◌, ◌%◌, ◌^◌, ◌<◌, ◌≤◌, List, [], ◌∷◌, ◌++◌, length, take, drop, get_or, Some, w64, IsUtf8, chars, arith, length-drop}
use Rattle.std.proofs.Math.Seq.{take-add}
use Rattle.std.proofs.Math.Nat.{div-one}
use Rattle.std.proofs.lemmas.List.{get_or-drop, take_more_same, take_all}
use Rattle.std.proofs.lemmas.Str.{chars-encodes}
use Rattle.std.specs.Int.{to_le_bytes}
use Rattle.text_spec.specs.declared.encoding.Encoding.{Encoding}
use Rattle.text_spec.specs.declared.encoding.Encoding.TheVariants.{Utf8}
use Rattle.text_spec.specs.Packed.{denoted_text}
use Rattle.text_spec.specs.Text.{utf8}
use Rattle.text_spec.specs.Views.{size_in}
use Rattle.text_spec.proofs.Denoting.{denoted_as, utf8_words}
use Rattle.text_spec.proofs.Widths.{width_most}

byte_at : (n j : ℕ) → j < 8 → get_or (to_le_bytes w64 n) j 0 ≡ n / 2 ^ (8 * j) % 256
byte_at n zero h = sym (ap (λ m. m % 256) (div-one n))
byte_at n (suc zero) h = refl
byte_at n (suc (suc zero)) h = refl
byte_at n (suc (suc (suc zero))) h = refl
byte_at n (suc (suc (suc (suc zero)))) h = refl
byte_at n (suc (suc (suc (suc (suc zero))))) h = refl
byte_at n (suc (suc (suc (suc (suc (suc zero)))))) h = refl
byte_at n (suc (suc (suc (suc (suc (suc (suc zero))))))) h = refl
byte_at n (suc (suc (suc (suc (suc (suc (suc (suc j)))))))) h = absurd (omega (arith, h))

same_front : (xs ys : List ℕ) (n : ℕ) → n ≤ length xs → n ≤ length ys → ((k : ℕ) → k < n → get_or xs k 0 ≡ get_or ys k 0) → take n xs ≡ take n ys
same_front xs ys zero left right same = refl
same_front xs ys (suc n) left right same =
    let next : n + 1 ≡ suc n = omega arith in
    sym (ap (λ k. take k xs) next) ∙ take_more_same xs ys n 0 (omega arith) (omega arith)
    (same_front xs ys n (omega arith) (omega arith) (λ k h. same k (omega arith))) (same n (omega arith)) ∙ ap (λ k. take k ys) next

-- a word's bytes go behind those of the words before
pub word-more : (e : Encoding) (ws : List ℕ) (n : ℕ) (b : List ℕ) (at size word : ℕ) → e ≡ Utf8 → n ≡ size_in e b → denoted_text e ws n ≡ Some b
    → at % 8 ≡ 0 → size ≤ 8 → at + size ≤ n → word ≡ get_or ws (at / 8) 0
    → take at (utf8 b) ++ take size (to_le_bytes w64 word) ≡ take (at + size) (utf8 b)
word-more e ws n b at size word is8 long is aligned most within here =
    let w = utf8_words ws (size_in Utf8 b) b (denoted_as e Utf8 ws n b is8 long is) in
    let whole : n ≡ length (utf8 b) = long ∙ ap (λ x. size_in x b) is8 ∙ w.count in
    let byte : (k : ℕ) → k < size → get_or (to_le_bytes w64 word) k 0 ≡ get_or (drop at (utf8 b)) k 0 = λ k low.
    let place : at / 8 ≡ (at + k) / 8 = omega (arith, aligned, low, most) in
    let offset : k ≡ (at + k) % 8 = omega (arith, aligned, low, most) in
    byte_at word k (omega (arith, low, most)) ∙ ap (λ v. v / 2 ^ (8 * k) % 256) (here ∙ ap (λ i. get_or ws i 0) place)
    ∙ ap (λ j. get_or ws ((at + k) / 8) 0 / 2 ^ (8 * j) % 256) offset
    ∙ w.held.1 (at + k) (omega (arith, low, within, whole)) ∙ sym (get_or-drop at (utf8 b) k 0) in
    ap (λ l. take at (utf8 b) ++ l) (same_front (to_le_bytes w64 word) (drop at (utf8 b)) size (omega (arith, most)) (omega (arith, length-drop at (utf8 b), within, whole)) byte)
    ∙ sym (take-add at size (utf8 b))

-- and they are all of them at the end
pub whole-bytes : (e : Encoding) (ws : List ℕ) (n : ℕ) (b : List ℕ) (at : ℕ) → e ≡ Utf8 → n ≡ size_in e b → denoted_text e ws n ≡ Some b → at ≡ n
    → take at (utf8 b) ≡ utf8 b
whole-bytes e ws n b at is8 long is there =
    let w = utf8_words ws (size_in Utf8 b) b (denoted_as e Utf8 ws n b is8 long is) in
    let whole : at ≡ length (utf8 b) = there ∙ long ∙ ap (λ x. size_in x b) is8 ∙ w.count in
    ap (λ k. take k (utf8 b)) whole ∙ take_all (length (utf8 b)) (utf8 b) (omega arith)

-- they are UTF-8, of the whole text
pub record Spelled (b : List ℕ) : Type 0 where
  pub utf8_is : IsUtf8 (utf8 b)
  pub chars_are : chars (utf8 b) ≡ b

pub spelled8 : (e : Encoding) (ws : List ℕ) (n : ℕ) (b : List ℕ) → e ≡ Utf8 → n ≡ size_in e b → denoted_text e ws n ≡ Some b → Spelled b
spelled8 e ws n b is8 long is =
    let w = utf8_words ws (size_in Utf8 b) b (denoted_as e Utf8 ws n b is8 long is) in
    record { utf8_is = (b, (w.scalars, refl)); chars_are = chars-encodes b w.scalars }

-- a scalar takes four bytes at most
pub size-most : (b : List ℕ) → size_in Utf8 b ≤ 4 * length b
size-most [] = omega arith
size-most (c ∷ b) = omega (arith, width_most Utf8 c, size-most b)
