-- What the bytes of a word tell, told at all of them at once and added up.
use Rattle.std.proofs.Common.{◌≡◌, refl, ap, ◌∙◌, ℕ, zero, suc, ◌+◌, ◌-◌, ◌*◌, ◌/◌, ◌%◌, ◌^◌, ◌<◌, ◌≤◌, min, ⊎_elim, arith}
use lib.Bits.{bit_and, and_block, and_step, and_zero_l, and_le_l}
use Rattle.std.proofs.lemmas.Nat.{shr-shr}
use Rattle.std.proofs.lemmas.Bool.{cases_lt, cond-true, cond-false, lt-ltb, le-ltb}
use Rattle.word_units.specs.Counting.{scalars_begun, bytes_begun, units_begun, within}

-- ---- a byte
pub record Told (b scalars bytes units : ℕ) : Type 0 where
  pub scalars_are : scalars_begun b ≡ scalars
  pub bytes_are : bytes_begun b ≡ bytes
  pub units_are : units_begun b ≡ units

pub told_one : (b : ℕ) → b < 128 → Told b 1 1 1
told_one b h = record { scalars_are = cond-true _ _ _ (lt-ltb b 128 h); bytes_are = cond-true _ _ _ (lt-ltb b 128 h); units_are = cond-true _ _ _ (lt-ltb b 128 h) }

pub told_rest : (b : ℕ) → 128 ≤ b → b < 192 → Told b 0 0 0
told_rest b h l =
    record {
      scalars_are = cond-false _ _ _ (le-ltb b 128 h) ∙ cond-true _ _ _ (lt-ltb b 192 l);
      bytes_are = cond-false _ _ _ (le-ltb b 128 h) ∙ cond-true _ _ _ (lt-ltb b 192 l);
      units_are = cond-false _ _ _ (le-ltb b 128 h) ∙ cond-true _ _ _ (lt-ltb b 192 l);
    }

pub told_two : (b : ℕ) → 192 ≤ b → b < 224 → Told b 1 2 1
told_two b h l =
    let past = le-ltb b 128 (omega arith) in
    let lead = le-ltb b 192 h in
    record {
      scalars_are = cond-false _ _ _ past ∙ cond-false _ _ _ lead;
      bytes_are = cond-false _ _ _ past ∙ cond-false _ _ _ lead ∙ cond-true _ _ _ (lt-ltb b 224 l);
      units_are = cond-false _ _ _ past ∙ cond-false _ _ _ lead ∙ cond-true _ _ _ (lt-ltb b 240 (omega arith));
    }

pub told_three : (b : ℕ) → 224 ≤ b → b < 240 → Told b 1 3 1
told_three b h l =
    let past = le-ltb b 128 (omega arith) in
    let lead = le-ltb b 192 (omega arith) in
    record {
      scalars_are = cond-false _ _ _ past ∙ cond-false _ _ _ lead;
      bytes_are = cond-false _ _ _ past ∙ cond-false _ _ _ lead ∙ cond-false _ _ _ (le-ltb b 224 h) ∙ cond-true _ _ _ (lt-ltb b 240 l);
      units_are = cond-false _ _ _ past ∙ cond-false _ _ _ lead ∙ cond-true _ _ _ (lt-ltb b 240 l);
    }

pub told_four : (b : ℕ) → 240 ≤ b → Told b 1 4 2
told_four b h =
    let past = le-ltb b 128 (omega arith) in
    let lead = le-ltb b 192 (omega arith) in
    record {
      scalars_are = cond-false _ _ _ past ∙ cond-false _ _ _ lead;
      bytes_are = cond-false _ _ _ past ∙ cond-false _ _ _ lead ∙ cond-false _ _ _ (le-ltb b 224 (omega arith)) ∙ cond-false _ _ _ (le-ltb b 240 h);
      units_are = cond-false _ _ _ past ∙ cond-false _ _ _ lead ∙ cond-false _ _ _ (le-ltb b 240 h);
    }

-- of each byte one of these holds
told_by : (C : Type 0) (b : ℕ) → (b < 128 → Told b 1 1 1 → C) → (128 ≤ b → b < 192 → Told b 0 0 0 → C) → (192 ≤ b → b < 224 → Told b 1 2 1 → C)
    → (224 ≤ b → b < 240 → Told b 1 3 1 → C) → (240 ≤ b → Told b 1 4 2 → C) → C
told_by C b one rest two three four =
    ⊎_elim (λ h. one h (told_one b h))
    (λ h. ⊎_elim (λ l. rest h l (told_rest b h l))
    (λ m. ⊎_elim (λ l. two m l (told_two b m l))
    (λ n. ⊎_elim (λ l. three n l (told_three b n l)) (λ l. four l (told_four b l)) (cases_lt b 240)) (cases_lt b 224)) (cases_lt b 192)) (cases_lt b 128)

pub bytes_most : (b : ℕ) → bytes_begun b ≤ 4
bytes_most b =
    told_by (bytes_begun b ≤ 4) b (λ h t. omega (arith, t.bytes_are)) (λ h l t. omega (arith, t.bytes_are)) (λ h l t. omega (arith, t.bytes_are))
    (λ h l t. omega (arith, t.bytes_are)) (λ h t. omega (arith, t.bytes_are))

pub units_few : (b : ℕ) → units_begun b ≤ bytes_begun b
units_few b =
    told_by (units_begun b ≤ bytes_begun b) b (λ h t. omega (arith, t.bytes_are, t.units_are)) (λ h l t. omega (arith, t.bytes_are, t.units_are))
    (λ h l t. omega (arith, t.bytes_are, t.units_are)) (λ h l t. omega (arith, t.bytes_are, t.units_are)) (λ h t. omega (arith, t.bytes_are, t.units_are))

pub units_most : (b : ℕ) → units_begun b ≤ 2
units_most b =
    told_by (units_begun b ≤ 2) b (λ h t. omega (arith, t.units_are)) (λ h l t. omega (arith, t.units_are)) (λ h l t. omega (arith, t.units_are))
    (λ h l t. omega (arith, t.units_are)) (λ h t. omega (arith, t.units_are))

pub scalars_few : (b : ℕ) → scalars_begun b ≤ units_begun b
scalars_few b =
    told_by (scalars_begun b ≤ units_begun b) b (λ h t. omega (arith, t.scalars_are, t.units_are)) (λ h l t. omega (arith, t.scalars_are, t.units_are))
    (λ h l t. omega (arith, t.scalars_are, t.units_are)) (λ h l t. omega (arith, t.scalars_are, t.units_are)) (λ h t. omega (arith, t.scalars_are, t.units_are))

-- the four highest bits of a byte tell them
record ByBits (b f s u t : ℕ) : Type 0 where
  pub scalars : 1 + s ≡ f + scalars_begun b
  pub bytes : 1 + s + s + u + t ≡ f + bytes_begun b
  pub units : 1 + s + t ≡ f + units_begun b

by_bits : (b f s u t : ℕ) → b < 256 → f ≡ b / 128 → s ≡ min f (b / 64 % 2) → u ≡ min s (b / 32 % 2) → t ≡ min u (b / 16 % 2) → ByBits b f s u t
by_bits b f s u t small first second third fourth =
    told_by (ByBits b f s u t) b
    (λ h d. record { scalars = omega (arith, d.scalars_are); bytes = omega (arith, d.bytes_are); units = omega (arith, d.units_are) })
    (λ h l d. record { scalars = omega (arith, d.scalars_are); bytes = omega (arith, d.bytes_are); units = omega (arith, d.units_are) })
    (λ h l d. record { scalars = omega (arith, d.scalars_are); bytes = omega (arith, d.bytes_are); units = omega (arith, d.units_are) })
    (λ h l d. record { scalars = omega (arith, d.scalars_are); bytes = omega (arith, d.bytes_are); units = omega (arith, d.units_are) })
    (λ h d. record { scalars = omega (arith, d.scalars_are); bytes = omega (arith, d.bytes_are); units = omega (arith, d.units_are) })

-- ---- sums over the bytes of a word
pub within_most : (f : ℕ → ℕ) (m : ℕ) → ((b : ℕ) → f b ≤ m) → (n w : ℕ) → within f n w ≤ n * m
within_most f m most zero w = omega arith
within_most f m most (suc n) w = omega (arith, within_most f m most n (w / 256), most (w % 256))

pub within_le : (f g : ℕ → ℕ) → ((b : ℕ) → f b ≤ g b) → (n w : ℕ) → within f n w ≤ within g n w
within_le f g le zero w = omega arith
within_le f g le (suc n) w = omega (arith, within_le f g le n (w / 256), le (w % 256))

-- one byte more
byte_on : (f : ℕ → ℕ) (n w : ℕ) → within f (suc n) w ≡ within f n w + f (w / 2 ^ (8 * n) % 256)
byte_on f zero w =
    let first : w % 256 ≡ w / 2 ^ (8 * 0) % 256 = omega arith in
    omega (arith, ap f first)
byte_on f (suc n) w =
    let next : 8 + 8 * n ≡ 8 * suc n = omega arith in
    let byte : w / 256 / 2 ^ (8 * n) % 256 ≡ w / 2 ^ (8 * suc n) % 256 = ap (λ v. v % 256) (shr-shr w 8 (8 * n)) ∙ ap (λ k. w / 2 ^ k % 256) next in
    omega (arith, byte_on f n (w / 256), ap f byte)

pub within_more : (f : ℕ → ℕ) (n w : ℕ) → within f (n + 1) w ≡ within f n w + f (w / 2 ^ (8 * n) % 256)
within_more f n w = let next : n + 1 ≡ suc n = omega arith in ap (λ m. within f m w) next ∙ byte_on f n w

-- zeros that were shifted in
zeros : (f : ℕ → ℕ) → f 0 ≡ 1 → (z : ℕ) → within f z 0 ≡ z
zeros f one zero = refl
zeros f one (suc z) = omega (arith, one, zeros f one z)

within_zeros : (f : ℕ → ℕ) → f 0 ≡ 1 → (z n w : ℕ) → w / 2 ^ (8 * n) ≡ 0 → within f (n + z) w ≡ within f n w + z
within_zeros f one z zero w none =
    let is : w ≡ 0 = omega (arith, none) in
    let same : 0 + z ≡ z = omega arith in
    omega (arith, ap (λ v. within f z v) is, zeros f one z, ap (λ m. within f m w) same)
within_zeros f one z (suc n) w none =
    let next : 8 + 8 * n ≡ 8 * suc n = omega arith in
    let high : w / 256 / 2 ^ (8 * n) ≡ 0 = shr-shr w 8 (8 * n) ∙ ap (λ k. w / 2 ^ k) next ∙ none in
    let same : suc n + z ≡ suc (n + z) = omega arith in
    omega (arith, within_zeros f one z n (w / 256) high, ap (λ m. within f m w) same)

-- a word without its first p bytes, behind which that many zeros are left
pub within_left : (f : ℕ → ℕ) → f 0 ≡ 1 → (word p : ℕ) → word < 2 ^ 64 → p ≤ 8 → within f 8 (word / 2 ^ (8 * p)) ≡ within f (8 - p) (word / 2 ^ (8 * p)) + p
within_left f one word p small few =
    let w = word / 2 ^ (8 * p) in
    let all : 8 * p + 8 * (8 - p) ≡ 64 = omega arith in
    let none : w / 2 ^ (8 * (8 - p)) ≡ 0 = shr-shr word (8 * p) (8 * (8 - p)) ∙ ap (λ m. word / 2 ^ m) all ∙ omega (arith, small) in
    let eight : 8 ≡ 8 - p + p = omega arith in
    ap (λ m. within f m w) eight ∙ within_zeros f one p (8 - p) w none

-- ---- a word that holds at each byte what is told of the byte there
abbrev pub packed : (ℕ → ℕ) → ℕ → ℕ → ℕ
packed f zero w = 0
packed f (suc n) w = packed f n (w / 256) * 256 + f (w % 256)

pub within_packed : (f : ℕ → ℕ) → ((b : ℕ) → f b ≤ 4) → (n w : ℕ) → within (λ b. b) n (packed f n w) ≡ within f n w
within_packed f few zero w = refl
within_packed f few (suc n) w =
    let low : (packed f n (w / 256) * 256 + f (w % 256)) % 256 ≡ f (w % 256) = omega (arith, few (w % 256)) in
    let high : (packed f n (w / 256) * 256 + f (w % 256)) / 256 ≡ packed f n (w / 256) = omega (arith, few (w % 256)) in
    ap (λ d. d + within (λ b. b) n ((packed f n (w / 256) * 256 + f (w % 256)) / 256)) low
    ∙ ap (λ v. f (w % 256) + within (λ b. b) n v) high ∙ ap (λ m. f (w % 256) + m) (within_packed f few n (w / 256))

-- ---- the bits of all bytes
abbrev ones : ℕ → ℕ
ones zero = 0
ones (suc n) = ones n * 256 + 1

-- a bit at the place of a byte's lowest
and_bit : (x b y : ℕ) → b < 2 → bit_and (x * 256 + b) y ≡ bit_and x (y / 256) * 256 + min b (y % 2)
and_bit x b y small =
    let split : y ≡ y / 256 * 2 ^ 8 + y % 256 = omega arith in
    let both : bit_and (x * 2 ^ 8 + b) (y / 256 * 2 ^ 8 + y % 256) ≡ bit_and x (y / 256) * 2 ^ 8 + bit_and b (y % 256) =
    and_block 8 x (y / 256) b (y % 256) (omega arith) (omega arith) in
    let none : b / 2 ≡ 0 = omega arith in
    let low : bit_and b (y % 256) ≡ bit_and 0 (y % 256 / 2) * 2 + min (b % 2) (y % 256 % 2) =
    and_step b (y % 256) ∙ ap (λ c. bit_and c (y % 256 / 2) * 2 + min (b % 2) (y % 256 % 2)) none in
    ap (bit_and (x * 256 + b)) split ∙ omega (arith, both, low, and_zero_l (y % 256 / 2))

abbrev firsts : ℕ → ℕ → ℕ
firsts n w = bit_and (ones n) (w / 128)

abbrev seconds : ℕ → ℕ → ℕ
seconds n w = bit_and (firsts n w) (w / 64)

abbrev thirds : ℕ → ℕ → ℕ
thirds n w = bit_and (seconds n w) (w / 32)

abbrev fourths : ℕ → ℕ → ℕ
fourths n w = bit_and (thirds n w) (w / 16)

-- of one byte more
bit_on : (x b k z w : ℕ) → z ≡ x * 256 + b → b < 2 → w / k / 256 ≡ w / 256 / k → bit_and z (w / k) ≡ bit_and x (w / 256 / k) * 256 + min b (w / k % 2)
bit_on x b k z w is small same =
    ap (λ a. bit_and a (w / k)) is ∙ and_bit x b (w / k) small ∙ ap (λ a. bit_and x a * 256 + min b (w / k % 2)) same

pub record Spread (n w : ℕ) : Type 0 where
  pub scalars : ones n + seconds n w ≡ firsts n w + packed scalars_begun n w
  pub bytes : ones n + seconds n w + seconds n w + thirds n w + fourths n w ≡ firsts n w + packed bytes_begun n w
  pub units : ones n + seconds n w + fourths n w ≡ firsts n w + packed units_begun n w

pub spread : (n w : ℕ) → Spread n w
spread zero w =
    let first = and_zero_l (w / 128) in
    let second = and_le_l (firsts 0 w) (w / 64) in
    let third = and_le_l (seconds 0 w) (w / 32) in
    let fourth = and_le_l (thirds 0 w) (w / 16) in
    record { scalars = omega arith; bytes = omega arith; units = omega arith }
spread (suc n) w =
    let v = w / 256 in
    let first = bit_on (ones n) 1 128 (ones (suc n)) w refl (omega arith) (omega arith) in
    let f = min 1 (w / 128 % 2) in
    let second = bit_on (firsts n v) f 64 (firsts (suc n) w) w first (omega arith) (omega arith) in
    let s = min f (w / 64 % 2) in
    let third = bit_on (seconds n v) s 32 (seconds (suc n) w) w second (omega arith) (omega arith) in
    let u = min s (w / 32 % 2) in
    let fourth = bit_on (thirds n v) u 16 (thirds (suc n) w) w third (omega arith) (omega arith) in
    let t = min u (w / 16 % 2) in
    let r = w % 256 in
    let byte = by_bits r f s u t (omega arith) (omega arith) (omega arith) (omega arith) (omega arith) in
    let rest = spread n v in
    record {
      scalars = omega (arith, first, second, byte.scalars, rest.scalars);
      bytes = omega (arith, first, second, third, fourth, byte.bytes, rest.bytes);
      units = omega (arith, first, second, fourth, byte.units, rest.units);
    }

-- the words whose bytes are added up
pub scalars_at : (w : ℕ) → 0x0101010101010101 - firsts 8 w + seconds 8 w ≡ packed scalars_begun 8 w
scalars_at w = omega (arith, (spread 8 w).scalars, and_le_l 0x0101010101010101 (w / 128))

pub bytes_at : (w : ℕ) → 0x0101010101010101 - firsts 8 w + seconds 8 w + seconds 8 w + thirds 8 w + fourths 8 w ≡ packed bytes_begun 8 w
bytes_at w = omega (arith, (spread 8 w).bytes, and_le_l 0x0101010101010101 (w / 128))

pub units_at : (w : ℕ) → 0x0101010101010101 - firsts 8 w + seconds 8 w + fourths 8 w ≡ packed units_begun 8 w
units_at w = omega (arith, (spread 8 w).units, and_le_l 0x0101010101010101 (w / 128))

pub told : (f : ℕ → ℕ) → ((b : ℕ) → f b ≤ 4) → (w x : ℕ) → x ≡ packed f 8 w → within (λ b. b) 8 x ≡ within f 8 w
told f few w x is = ap (λ v. within (λ b. b) 8 v) is ∙ within_packed f few 8 w

-- ---- eight bytes added up by a product
eight : (a b c d e f g h : ℕ) → a + (b + (c + (d + (e + (f + (g + (h + 0))))))) < 256
    → (a + 256 * (b + 256 * (c + 256 * (d + 256 * (e + 256 * (f + 256 * (g + 256 * h))))))) * 0x0101010101010101 % 2 ^ 64 / 2 ^ 56 ≡ a + (b + (c + (d + (e + (f + (g + (h + 0)))))))
eight a b c d e f g h small = omega (arith, small)

pub summed : (w : ℕ) → w < 2 ^ 64 → within (λ b. b) 8 w < 256 → w * 0x0101010101010101 % 2 ^ 64 / 2 ^ 56 ≡ within (λ b. b) 8 w
summed w word small =
    let w1 = w / 256 in
    let w2 = w1 / 256 in
    let w3 = w2 / 256 in
    let w4 = w3 / 256 in
    let w5 = w4 / 256 in
    let w6 = w5 / 256 in
    let w7 = w6 / 256 in
    let parts : w ≡ w % 256 + 256 * (w1 % 256 + 256 * (w2 % 256 + 256 * (w3 % 256 + 256 * (w4 % 256 + 256 * (w5 % 256 + 256 * (w6 % 256 + 256 * (w7 % 256))))))) = omega (arith, word) in
    ap (λ v. v * 0x0101010101010101 % 2 ^ 64 / 2 ^ 56) parts ∙ eight _ _ _ _ _ _ _ _ small
