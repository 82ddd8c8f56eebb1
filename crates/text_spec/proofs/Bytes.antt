-- The bytes of a text, by the scalar that each belongs to.
use Rattle.std.proofs.Common.{◌≡◌, true, refl, sym, ap, ◌∙◌, ℕ, zero, suc, ◌+◌, ◌-◌, ◌*◌, ◌/◌, ◌%◌, ◌<◌, ◌≤◌, List, [], ◌∷◌, length, get_or, arith, ⊎_elim, length-append, inl, inr, ◌⊎◌}
use Rattle.std.proofs.lemmas.Bool.{cases_lt, cond-true, cond-false, lt-ltb, le-ltb, and_parts}
use Rattle.std.proofs.lemmas.List.{get_or_append_left, get_or-append_right}
use Rattle.std.proofs.lemmas.Str.{length-encode, encode_ascii, len_utf8_bounds}
use Rattle.std.specs.Char.{IsScalar, encode_utf8, len_utf8}
use Rattle.std.specs.Str.{all_scalars, encode_utf8_all}
use lib.Utf8.{scalar_cases}
use Rattle.text_spec.specs.Packed.{byte_of}
use Rattle.text_spec.specs.Offsets.{start, down}
use Rattle.text_spec.proofs.Downward.{start-down}
use Rattle.text_spec.proofs.Walk.{down-yes, down-no, start-suc, start-le, down-next, down-unique, down-end}

pub length-utf8 : (t : List ℕ) → length (encode_utf8_all t) ≡ start len_utf8 t (length t)
length-utf8 [] = refl
length-utf8 (c ∷ t) = omega (arith, length-append (encode_utf8 c) (encode_utf8_all t), length-encode c, length-utf8 t)

-- byte q of a text is a byte of the scalar that covers q
pub byte-covers : (t : List ℕ) (q : ℕ) → q < length (encode_utf8_all t)
    → get_or (encode_utf8_all t) q 0 ≡ get_or (encode_utf8 (get_or t (down len_utf8 t q) 0)) (q - start len_utf8 t (down len_utf8 t q)) 0
byte-covers [] q h = absurd (omega arith)
byte-covers (c ∷ t) q h =
    let own = length-encode c in
    ⊎_elim
    (λ low.
    let none : q - 0 ≡ q = omega arith in
    get_or_append_left (encode_utf8 c) (encode_utf8_all t) 0 q (omega arith)
    ∙ rw (down-no len_utf8 c t q low, none) refl)
    (λ high.
    let less : q - (len_utf8 c + start len_utf8 t (down len_utf8 t (q - len_utf8 c))) ≡ q - len_utf8 c - start len_utf8 t (down len_utf8 t (q - len_utf8 c)) = omega arith in
    get_or-append_right (encode_utf8 c) (encode_utf8_all t) (len_utf8 c) q 0 own high
    ∙ byte-covers t (q - len_utf8 c) (omega (arith, length-append (encode_utf8 c) (encode_utf8_all t)))
    ∙ rw (down-yes len_utf8 c t q high, less) refl) (cases_lt q (len_utf8 c))

-- ---- one scalar's bytes
pub bytes-2 : (c : ℕ) → 128 ≤ c → c < 2048 → encode_utf8 c ≡ (192 + c / 64) ∷ (128 + c % 64) ∷ []
unfolding encode_utf8
bytes-2 c a b = cond-false _ _ _ (le-ltb c 128 a) ∙ cond-true _ _ _ (lt-ltb c 2048 b)

pub bytes-3 : (c : ℕ) → 2048 ≤ c → c < 65536 → encode_utf8 c ≡ (224 + c / 4096) ∷ (128 + c / 64 % 64) ∷ (128 + c % 64) ∷ []
unfolding encode_utf8
bytes-3 c a b = cond-false _ _ _ (le-ltb c 128 (omega arith)) ∙ cond-false _ _ _ (le-ltb c 2048 a) ∙ cond-true _ _ _ (lt-ltb c 65536 b)

pub bytes-4 : (c : ℕ) → 65536 ≤ c → encode_utf8 c ≡ (240 + c / 262144) ∷ (128 + c / 4096 % 64) ∷ (128 + c / 64 % 64) ∷ (128 + c % 64) ∷ []
unfolding encode_utf8
bytes-4 c a = cond-false _ _ _ (le-ltb c 128 (omega arith)) ∙ cond-false _ _ _ (le-ltb c 2048 (omega arith)) ∙ cond-false _ _ _ (le-ltb c 65536 a)

-- what the bytes of a scalar tell of it
pub record Decoded (bs : List ℕ) (c : ℕ) : Type 0 where
  pub lead : (get_or bs 0 0 < 128) ⊎ (192 ≤ get_or bs 0 0)
  pub byte : get_or bs 0 0 < 248
  pub one : get_or bs 0 0 < 128 → (length bs ≡ 1) × (c ≡ get_or bs 0 0)
  pub two : 128 ≤ get_or bs 0 0 → get_or bs 0 0 < 224 → (length bs ≡ 2) × (c ≡ get_or bs 0 0 % 32 * 64 + get_or bs 1 0 % 64)
  pub three : 224 ≤ get_or bs 0 0 → get_or bs 0 0 < 240 → (length bs ≡ 3) × (c ≡ get_or bs 0 0 % 16 * 4096 + get_or bs 1 0 % 64 * 64 + get_or bs 2 0 % 64)
  pub four : 240 ≤ get_or bs 0 0 → (length bs ≡ 4) × (c ≡ get_or bs 0 0 % 8 * 262144 + get_or bs 1 0 % 64 * 4096 + get_or bs 2 0 % 64 * 64 + get_or bs 3 0 % 64)
  pub rest : (j : ℕ) → 0 < j → j < length bs → (128 ≤ get_or bs j 0) × (get_or bs j 0 < 192)

decoded-1 : (c : ℕ) → c < 128 → Decoded (c ∷ []) c
decoded-1 c h =
    record {
      lead = inl h;
      byte = omega arith;
      one = λ _. (refl, refl);
      two = λ a _. absurd (omega arith);
      three = λ a _. absurd (omega arith);
      four = λ a. absurd (omega arith);
      rest = λ j a b. absurd (omega arith);
    }

decoded-2 : (c : ℕ) → 128 ≤ c → c < 2048 → Decoded ((192 + c / 64) ∷ (128 + c % 64) ∷ []) c
decoded-2 c h i =
    record {
      lead = inr (omega arith);
      byte = omega arith;
      one = λ a. absurd (omega arith);
      two = λ a _. (refl, omega arith);
      three = λ a _. absurd (omega arith);
      four = λ a. absurd (omega arith);
      rest = at;
    }
  where
    at : (j : ℕ) → 0 < j → j < 2 → (128 ≤ get_or ((192 + c / 64) ∷ (128 + c % 64) ∷ []) j 0) × (get_or ((192 + c / 64) ∷ (128 + c % 64) ∷ []) j 0 < 192)
    at zero a b = absurd (omega arith)
    at (suc zero) a b = (omega arith, omega arith)
    at (suc (suc j)) a b = absurd (omega arith)

decoded-3 : (c : ℕ) → 2048 ≤ c → c < 65536 → Decoded ((224 + c / 4096) ∷ (128 + c / 64 % 64) ∷ (128 + c % 64) ∷ []) c
decoded-3 c h i =
    record {
      lead = inr (omega arith);
      byte = omega arith;
      one = λ a. absurd (omega arith);
      two = λ _ a. absurd (omega arith);
      three = λ a _. (refl, omega arith);
      four = λ a. absurd (omega arith);
      rest = at;
    }
  where
    at : (j : ℕ) → 0 < j → j < 3 → (128 ≤ get_or ((224 + c / 4096) ∷ (128 + c / 64 % 64) ∷ (128 + c % 64) ∷ []) j 0) × (get_or ((224 + c / 4096) ∷ (128 + c / 64 % 64) ∷ (128 + c % 64) ∷ []) j 0 < 192)
    at zero a b = absurd (omega arith)
    at (suc zero) a b = (omega arith, omega arith)
    at (suc (suc zero)) a b = (omega arith, omega arith)
    at (suc (suc (suc j))) a b = absurd (omega arith)

decoded-4 : (c : ℕ) → 65536 ≤ c → c < 1114112 → Decoded ((240 + c / 262144) ∷ (128 + c / 4096 % 64) ∷ (128 + c / 64 % 64) ∷ (128 + c % 64) ∷ []) c
decoded-4 c h i =
    record {
      lead = inr (omega arith);
      byte = omega arith;
      one = λ a. absurd (omega arith);
      two = λ _ a. absurd (omega arith);
      three = λ _ a. absurd (omega arith);
      four = λ a. (refl, omega arith);
      rest = at;
    }
  where
    at : (j : ℕ) → 0 < j → j < 4 → (128 ≤ get_or ((240 + c / 262144) ∷ (128 + c / 4096 % 64) ∷ (128 + c / 64 % 64) ∷ (128 + c % 64) ∷ []) j 0) × (get_or ((240 + c / 262144) ∷ (128 + c / 4096 % 64) ∷ (128 + c / 64 % 64) ∷ (128 + c % 64) ∷ []) j 0 < 192)
    at zero a b = absurd (omega arith)
    at (suc zero) a b = (omega arith, omega arith)
    at (suc (suc zero)) a b = (omega arith, omega arith)
    at (suc (suc (suc zero))) a b = (omega arith, omega arith)
    at (suc (suc (suc (suc j)))) a b = absurd (omega arith)

pub scalar_small : (c : ℕ) → IsScalar c → c < 1114112
scalar_small c h = ⊎_elim (λ a. omega arith) (λ a. a.1) (scalar_cases c h)

pub decoded : (c : ℕ) → IsScalar c → Decoded (encode_utf8 c) c
decoded c h =
    let small = scalar_small c h in
    ⊎_elim (λ a. rw (encode_ascii c a) (decoded-1 c a))
    (λ a. ⊎_elim (λ b. rw (bytes-2 c a b) (decoded-2 c a b))
    (λ b. ⊎_elim (λ d. rw (bytes-3 c b d) (decoded-3 c b d)) (λ d. rw (bytes-4 c d) (decoded-4 c d small))
    (cases_lt c 65536)) (cases_lt c 2048)) (cases_lt c 128)

-- ---- the bytes of a text at a place
pub scalar_at_index : (t : List ℕ) → all_scalars t ≡ true → (k : ℕ) → k < length t → IsScalar (get_or t k 0)
scalar_at_index [] h k l = absurd (omega arith)
scalar_at_index (c ∷ t) h zero l = (and_parts _ _ h).0
scalar_at_index (c ∷ t) h (suc k) l = scalar_at_index t (and_parts _ _ h).1 k (omega arith)

-- what stands at a place below the end of the bytes
pub record Covered (t : List ℕ) (q : ℕ) : Type 0 where
  pub inside : down len_utf8 t q < length t
  pub scalar : IsScalar (get_or t (down len_utf8 t q) 0)
  pub low : start len_utf8 t (down len_utf8 t q) ≤ q
  pub high : q < start len_utf8 t (down len_utf8 t q) + len_utf8 (get_or t (down len_utf8 t q) 0)
  pub next : start len_utf8 t (suc (down len_utf8 t q)) ≡ start len_utf8 t (down len_utf8 t q) + len_utf8 (get_or t (down len_utf8 t q) 0)
  pub fits : start len_utf8 t (suc (down len_utf8 t q)) ≤ length (encode_utf8_all t)
  pub width : (1 ≤ len_utf8 (get_or t (down len_utf8 t q) 0)) × (len_utf8 (get_or t (down len_utf8 t q) 0) ≤ 4)

pub covered : (t : List ℕ) → all_scalars t ≡ true → (q : ℕ) → q < length (encode_utf8_all t) → Covered t q
covered t ok q h =
    let long = length-utf8 t in
    let near = down-next len_utf8 t q (omega arith) in
    let k = down len_utf8 t q in
    let next = start-suc len_utf8 t k near.0 in
    record {
      inside = near.0;
      scalar = scalar_at_index t ok k near.0;
      low = start-down len_utf8 t q;
      high = omega arith;
      next = next;
      fits = omega (arith, start-le len_utf8 t (suc k));
      width = len_utf8_bounds (get_or t k 0);
    }

-- the bytes that follow a boundary are those of its scalar
pub byte-after : (t : List ℕ) → all_scalars t ≡ true → (p j : ℕ) → p < length (encode_utf8_all t)
    → start len_utf8 t (down len_utf8 t p) ≡ p → j < len_utf8 (get_or t (down len_utf8 t p) 0)
    → get_or (encode_utf8_all t) (p + j) 0 ≡ get_or (encode_utf8 (get_or t (down len_utf8 t p) 0)) j 0
byte-after t ok p j h at l =
    let here = covered t ok p h in
    let k = down len_utf8 t p in
    let same : down len_utf8 t (p + j) ≡ k = down-unique len_utf8 t (p + j) k here.inside (omega arith) (omega (arith, here.next)) in
    let less : p + j - start len_utf8 t k ≡ j = omega arith in
    byte-covers t (p + j) (omega (arith, here.next, here.fits)) ∙ rw (same, less) refl

-- a byte that continues a scalar, and one that doesn't
pub lead-boundary : (t : List ℕ) → all_scalars t ≡ true → (q : ℕ) → q < length (encode_utf8_all t)
    → (get_or (encode_utf8_all t) q 0 < 128) ⊎ (192 ≤ get_or (encode_utf8_all t) q 0) → start len_utf8 t (down len_utf8 t q) ≡ q
lead-boundary t ok q h b =
    let here = covered t ok q h in
    let k = down len_utf8 t q in
    let c = get_or t k 0 in
    let bytes = decoded c here.scalar in
    let own = length-encode c in
    let is = byte-covers t q h in
    ⊎_elim
    (λ inner.
    let r = bytes.rest (q - start len_utf8 t k) (omega arith) (omega (arith, here.high)) in
    absurd (⊎_elim (λ a. omega arith) (λ a. omega arith) b))
    (λ at. omega (arith, here.low)) (cases_lt (start len_utf8 t k) q)

pub rest-inside : (t : List ℕ) → all_scalars t ≡ true → (q : ℕ) → q < length (encode_utf8_all t)
    → 128 ≤ get_or (encode_utf8_all t) q 0 → get_or (encode_utf8_all t) q 0 < 192 → start len_utf8 t (down len_utf8 t q) < q
rest-inside t ok q h a b =
    let here = covered t ok q h in
    let k = down len_utf8 t q in
    let bytes = decoded (get_or t k 0) here.scalar in
    let is = byte-covers t q h in
    ⊎_elim (λ inner. inner)
    (λ at.
    let none : q - start len_utf8 t k ≡ 0 = omega (arith, here.low) in
    let first : get_or (encode_utf8_all t) q 0 ≡ get_or (encode_utf8 (get_or t k 0)) 0 0 = is ∙ ap (λ j. get_or (encode_utf8 (get_or t k 0)) j 0) none in
    absurd (⊎_elim (λ d. omega arith) (λ d. omega arith) bytes.lead)) (cases_lt (start len_utf8 t k) q)

-- the words begin with the UTF-8 of the text
abbrev pub HoldUtf8 : List ℕ → List ℕ → Type 0
HoldUtf8 words t =
    (length (encode_utf8_all t) ≤ 8 * length words)
    × ((p : ℕ) → p < length (encode_utf8_all t) → byte_of words p ≡ get_or (encode_utf8_all t) p 0)

-- the scalar c stands at p of the words, and its bytes tell it
pub record Stands (ws : List ℕ) (p c : ℕ) : Type 0 where
  pub scalar : IsScalar c
  pub fits : p + len_utf8 c ≤ 8 * length ws
  pub one : byte_of ws p < 128 → (len_utf8 c ≡ 1) × (c ≡ byte_of ws p)
  pub two : 128 ≤ byte_of ws p → byte_of ws p < 224 → (len_utf8 c ≡ 2) × (c ≡ byte_of ws p % 32 * 64 + byte_of ws (p + 1) % 64)
  pub three : 224 ≤ byte_of ws p → byte_of ws p < 240
      → (len_utf8 c ≡ 3) × (c ≡ byte_of ws p % 16 * 4096 + byte_of ws (p + 1) % 64 * 64 + byte_of ws (p + 2) % 64)
  pub four : 240 ≤ byte_of ws p
      → (len_utf8 c ≡ 4) × (c ≡ byte_of ws p % 8 * 262144 + byte_of ws (p + 1) % 64 * 4096 + byte_of ws (p + 2) % 64 * 64 + byte_of ws (p + 3) % 64)

pub stands : (ws t : List ℕ) → all_scalars t ≡ true → HoldUtf8 ws t → (p : ℕ) → p < length (encode_utf8_all t)
    → start len_utf8 t (down len_utf8 t p) ≡ p → Stands ws p (get_or t (down len_utf8 t p) 0)
stands ws t ok held p h at =
    let here = covered t ok p h in
    let c = get_or t (down len_utf8 t p) 0 in
    let bytes = decoded c here.scalar in
    let own = length-encode c in
    let byte : (j : ℕ) → j < len_utf8 c → byte_of ws (p + j) ≡ get_or (encode_utf8 c) j 0 =
    λ j l. held.1 (p + j) (omega (arith, here.next, here.fits)) ∙ byte-after t ok p j h at l in
    let e : p + 0 ≡ p = omega arith in
    let lead : byte_of ws p ≡ get_or (encode_utf8 c) 0 0 = ap (byte_of ws) (sym e) ∙ byte 0 (omega (arith, here.width.0)) in
    record {
      scalar = here.scalar;
      fits = omega (arith, here.next, here.fits, held.0);
      one = λ a. let r = bytes.one (omega arith) in (omega arith, omega arith);
      two = λ a b. let r = bytes.two (omega arith) (omega arith) in let b1 = byte 1 (omega arith) in (omega arith, r.1 ∙ rw (lead, b1) refl);
      three = λ a b. let r = bytes.three (omega arith) (omega arith) in let b1 = byte 1 (omega arith) in let b2 = byte 2 (omega arith) in (omega arith, r.1 ∙ rw (lead, b1, b2) refl);
      four = λ a. let r = bytes.four (omega arith) in let b1 = byte 1 (omega arith) in let b2 = byte 2 (omega arith) in let b3 = byte 3 (omega arith) in (omega arith, r.1 ∙ rw (lead, b1, b2, b3) refl);
    }

-- ---- backing up to a boundary
pub floor-end : (t : List ℕ) (p : ℕ) → p ≡ length (encode_utf8_all t) → start len_utf8 t (down len_utf8 t p) ≡ p
floor-end t p e =
    let long = length-utf8 t in
    ap (start len_utf8 t) (down-end len_utf8 t p (omega arith)) ∙ sym long ∙ sym e

module _ (t : List ℕ) (ok : all_scalars t ≡ true) (p q : ℕ) (h : p < length (encode_utf8_all t)) (low : start len_utf8 t (down len_utf8 t p) ≤ q) (high : q ≤ p) where
  down-same : down len_utf8 t q ≡ down len_utf8 t p
  down-same =
      let here = covered t ok p h in
      down-unique len_utf8 t q (down len_utf8 t p) here.inside low (omega (arith, here.high, here.next))

  pub floor-more : 128 ≤ get_or (encode_utf8_all t) q 0 → get_or (encode_utf8_all t) q 0 < 192 → start len_utf8 t (down len_utf8 t p) < q
  floor-more a b = omega (arith, rest-inside t ok q (omega arith) a b, ap (start len_utf8 t) down-same)

  pub floor-stop : (get_or (encode_utf8_all t) q 0 < 128) ⊎ (192 ≤ get_or (encode_utf8_all t) q 0) → start len_utf8 t (down len_utf8 t p) ≡ q
  floor-stop b = ap (start len_utf8 t) (sym down-same) ∙ lead-boundary t ok q (omega arith) b

  pub floor-near : p < start len_utf8 t (down len_utf8 t p) + 4
  floor-near = let here = covered t ok p h in omega (arith, here.high, here.width.1)
