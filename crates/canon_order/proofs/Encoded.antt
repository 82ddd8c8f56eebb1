-- The order of UTF-8 by bytes is that of scalars (The Unicode Standard, section 3.9, D92).
use Rattle.std.proofs.Common.{◌≡◌, refl, sym, ap, ◌∙◌, ⊎_elim, ℕ, ◌+◌, ◌/◌, ◌%◌, ◌<◌, ◌≤◌, List, [], ◌∷◌, ◌++◌, Ordering, arith}
use Rattle.std.proofs.lemmas.Bool.{cases_lt}
use Rattle.std.proofs.lemmas.Cmp.{nat_list_cmp_total, tied_itself}
use Rattle.std.proofs.lemmas.Str.{encode_ascii}
use Rattle.std.specs.declared.cmp.Ordering.TheVariants.{Less, Equal, Greater}
use Rattle.std.specs.Char.{encode_utf8}
use Rattle.std.specs.Cmp.{nat_cmp_is}
use Rattle.std.specs.Cmp.Lexicographic.{slice_cmp}
use Rattle.std.specs.FinMap.{slice_cmp-IsAntisymmetric, nat_cmp-IsAntisymmetric}
use Rattle.std.specs.Ordering.{nat_cmp, ordering_then, ordering_reverse}
use Rattle.text_spec.specs.Text.{utf8}
use Rattle.text_spec.proofs.Bytes.{bytes-2, bytes-3, bytes-4}

abbrev compared : List ℕ → List ℕ → Ordering
compared = slice_cmp nat_cmp

-- a lesser byte decides, and an equal one leaves it to those behind
first_less : (x y : ℕ) (xs ys : List ℕ) → x < y → compared (x ∷ xs) (y ∷ ys) ≡ Less
first_less x y xs ys less = ap (λ o. ordering_then o (compared xs ys)) (sym (nat_cmp_is x y Less less))

first_same : (x y : ℕ) (xs ys : List ℕ) → x ≡ y → compared (x ∷ xs) (y ∷ ys) ≡ compared xs ys
first_same x y xs ys same = ap (λ o. ordering_then o (compared xs ys)) (sym (nat_cmp_is x y Equal same))

first_most : (x y : ℕ) (xs ys : List ℕ) → x ≤ y → (x ≡ y → compared xs ys ≡ Less) → compared (x ∷ xs) (y ∷ ys) ≡ Less
first_most x y xs ys most rest =
    ⊎_elim (λ (less : x < y). first_less x y xs ys less) (λ (h : y ≤ x). let same : x ≡ y = omega arith in first_same x y xs ys same ∙ rest same) (cases_lt x y)

-- what stands behind a scalar's first byte
abbrev tail2 : ℕ → List ℕ → List ℕ
tail2 c xs = (128 + c % 64) ∷ xs

abbrev tail3 : ℕ → List ℕ → List ℕ
tail3 c xs = (128 + c / 64 % 64) ∷ tail2 c xs

abbrev tail4 : ℕ → List ℕ → List ℕ
tail4 c xs = (128 + c / 4096 % 64) ∷ tail3 c xs

encode1 : (c : ℕ) (xs : List ℕ) → c < 128 → encode_utf8 c ++ xs ≡ c ∷ xs
encode1 c xs a = ap (λ l. l ++ xs) (encode_ascii c a)

encode2 : (c : ℕ) (xs : List ℕ) → 128 ≤ c → c < 2048 → encode_utf8 c ++ xs ≡ (192 + c / 64) ∷ tail2 c xs
encode2 c xs a b = ap (λ l. l ++ xs) (bytes-2 c a b)

encode3 : (c : ℕ) (xs : List ℕ) → 2048 ≤ c → c < 65536 → encode_utf8 c ++ xs ≡ (224 + c / 4096) ∷ tail3 c xs
encode3 c xs a b = ap (λ l. l ++ xs) (bytes-3 c a b)

encode4 : (c : ℕ) (xs : List ℕ) → 65536 ≤ c → encode_utf8 c ++ xs ≡ (240 + c / 262144) ∷ tail4 c xs
encode4 c xs a = ap (λ l. l ++ xs) (bytes-4 c a)

spelled_out : (ls ms xs ys : List ℕ) → ls ≡ xs → ms ≡ ys → compared xs ys ≡ Less → compared ls ms ≡ Less
spelled_out ls ms xs ys left right less = ap (λ l. compared l ms) left ∙ ap (compared xs) right ∙ less

-- the bytes of a lesser scalar are less, whatever comes behind them
module _ (c d : ℕ) (xs ys : List ℕ) (less : c < d) where
  one : c < 128 → compared (encode_utf8 c ++ xs) (encode_utf8 d ++ ys) ≡ Less
  one low =
      ⊎_elim (λ (a : d < 128). spelled_out _ _ _ _ (encode1 c xs low) (encode1 d ys a) (first_less c d xs ys less))
      (λ (a : 128 ≤ d). ⊎_elim
      (λ (b : d < 2048). spelled_out _ _ _ _ (encode1 c xs low) (encode2 d ys a b) (first_less c (192 + d / 64) xs (tail2 d ys) (omega arith)))
      (λ (b : 2048 ≤ d). ⊎_elim
      (λ (e : d < 65536). spelled_out _ _ _ _ (encode1 c xs low) (encode3 d ys b e) (first_less c (224 + d / 4096) xs (tail3 d ys) (omega arith)))
      (λ (e : 65536 ≤ d). spelled_out _ _ _ _ (encode1 c xs low) (encode4 d ys e) (first_less c (240 + d / 262144) xs (tail4 d ys) (omega arith)))
      (cases_lt d 65536)) (cases_lt d 2048)) (cases_lt d 128)

  two : 128 ≤ c → c < 2048 → compared (encode_utf8 c ++ xs) (encode_utf8 d ++ ys) ≡ Less
  two above low =
      ⊎_elim
      (λ (b : d < 2048). spelled_out _ _ _ _ (encode2 c xs above low) (encode2 d ys (omega arith) b)
      (first_most (192 + c / 64) (192 + d / 64) (tail2 c xs) (tail2 d ys) (omega arith)
      (λ h. first_less (128 + c % 64) (128 + d % 64) xs ys (omega arith))))
      (λ (b : 2048 ≤ d). ⊎_elim
      (λ (e : d < 65536). spelled_out _ _ _ _ (encode2 c xs above low) (encode3 d ys b e) (first_less (192 + c / 64) (224 + d / 4096) (tail2 c xs) (tail3 d ys) (omega arith)))
      (λ (e : 65536 ≤ d). spelled_out _ _ _ _ (encode2 c xs above low) (encode4 d ys e) (first_less (192 + c / 64) (240 + d / 262144) (tail2 c xs) (tail4 d ys) (omega arith)))
      (cases_lt d 65536)) (cases_lt d 2048)

  three : 2048 ≤ c → c < 65536 → compared (encode_utf8 c ++ xs) (encode_utf8 d ++ ys) ≡ Less
  three above low =
      ⊎_elim
      (λ (e : d < 65536). spelled_out _ _ _ _ (encode3 c xs above low) (encode3 d ys (omega arith) e)
      (first_most (224 + c / 4096) (224 + d / 4096) (tail3 c xs) (tail3 d ys) (omega arith)
      (λ h. first_most (128 + c / 64 % 64) (128 + d / 64 % 64) (tail2 c xs) (tail2 d ys) (omega arith)
      (λ k. first_less (128 + c % 64) (128 + d % 64) xs ys (omega arith)))))
      (λ (e : 65536 ≤ d). spelled_out _ _ _ _ (encode3 c xs above low) (encode4 d ys e) (first_less (224 + c / 4096) (240 + d / 262144) (tail3 c xs) (tail4 d ys) (omega arith)))
      (cases_lt d 65536)

  four : 65536 ≤ c → compared (encode_utf8 c ++ xs) (encode_utf8 d ++ ys) ≡ Less
  four above =
      spelled_out _ _ _ _ (encode4 c xs above) (encode4 d ys (omega arith))
      (first_most (240 + c / 262144) (240 + d / 262144) (tail4 c xs) (tail4 d ys) (omega arith)
      (λ h. first_most (128 + c / 4096 % 64) (128 + d / 4096 % 64) (tail3 c xs) (tail3 d ys) (omega arith)
      (λ k. first_most (128 + c / 64 % 64) (128 + d / 64 % 64) (tail2 c xs) (tail2 d ys) (omega arith)
      (λ l. first_less (128 + c % 64) (128 + d % 64) xs ys (omega arith)))))

  encoded_less : compared (encode_utf8 c ++ xs) (encode_utf8 d ++ ys) ≡ Less
  encoded_less =
      ⊎_elim one (λ a. ⊎_elim (two a) (λ b. ⊎_elim (three b) four (cases_lt c 65536)) (cases_lt c 2048)) (cases_lt c 128)

-- the same bytes leave it to those behind
front_same : (front xs ys : List ℕ) → compared (front ++ xs) (front ++ ys) ≡ compared xs ys
front_same [] xs ys = refl
front_same (x ∷ front) xs ys = first_same x x (front ++ xs) (front ++ ys) refl ∙ front_same front xs ys

-- nothing is less than the bytes of a scalar
nothing_less : (d : ℕ) (ys : List ℕ) → compared [] (encode_utf8 d ++ ys) ≡ Less
nothing_less d ys =
    ⊎_elim (λ (a : d < 128). rw (encode_ascii d a) refl)
    (λ (a : 128 ≤ d). ⊎_elim (λ (b : d < 2048). rw (bytes-2 d a b) refl)
    (λ (b : 2048 ≤ d). ⊎_elim (λ (e : d < 65536). rw (bytes-3 d b e) refl)
    (λ (e : 65536 ≤ d). rw (bytes-4 d e) refl) (cases_lt d 65536)) (cases_lt d 2048)) (cases_lt d 128)

turned : (a b : List ℕ) → compared b a ≡ Less → compared a b ≡ Greater
turned a b h = nat_list_cmp_total.antisymm a b ∙ ap ordering_reverse h

pub utf8_compares : (a b : List ℕ) → compared (utf8 a) (utf8 b) ≡ compared a b
utf8_compares [] [] = refl
utf8_compares [] (d ∷ b) = nothing_less d (utf8 b)
utf8_compares (c ∷ a) [] = turned (utf8 (c ∷ a)) [] (nothing_less c (utf8 a))
utf8_compares (c ∷ a) (d ∷ b) =
    ⊎_elim
    (λ (less : c < d). encoded_less c d (utf8 a) (utf8 b) less ∙ sym (first_less c d a b less))
    (λ (most : d ≤ c). ⊎_elim
    (λ (more : d < c). turned (utf8 (c ∷ a)) (utf8 (d ∷ b)) (encoded_less d c (utf8 b) (utf8 a) more) ∙ sym (turned (c ∷ a) (d ∷ b) (first_less d c b a more)))
    (λ (least : c ≤ d). let same : c ≡ d = omega arith in
    ap (λ x. compared (utf8 (c ∷ a)) (encode_utf8 x ++ utf8 b)) (sym same) ∙ front_same (encode_utf8 c) (utf8 a) (utf8 b)
    ∙ utf8_compares a b ∙ sym (first_same c d a b same))
    (cases_lt d c))
    (cases_lt c d)

-- one UTF-8 is one text's
pub same_texts : (a b : List ℕ) → utf8 a ≡ utf8 b → a ≡ b
same_texts a b same =
    slice_cmp-IsAntisymmetric nat_cmp-IsAntisymmetric a b (sym (utf8_compares a b) ∙ ap (compared (utf8 a)) (sym same) ∙ tied_itself nat_list_cmp_total (utf8 a))
