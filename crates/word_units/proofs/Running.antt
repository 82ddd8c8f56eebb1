-- Eight bytes of ASCII, and one scalar by its lead byte.
use Rattle.std.proofs.Common.{◌≡◌, refl, sym, ap, subst, ◌∙◌, ℕ, zero, suc, ◌+◌, ◌-◌, ◌*◌, ◌/◌, ◌%◌, ◌^◌, ◌<◌, ◌≤◌, inl, inr, ⊎_elim, List, length, get_or, arith, Some}
use lib.Bits.{bit_and, and_block}
use Rattle.std.proofs.lemmas.Bool.{cases_lt, cond-true, lt-ltb}
use Rattle.std.specs.Char.{len_utf8}
use Rattle.text_spec.specs.declared.encoding.Encoding.{Encoding}
use Rattle.text_spec.specs.declared.encoding.Encoding.TheVariants.{Utf8, Utf16}
use Rattle.text_spec.specs.Offsets.{len_utf16, start, down}
use Rattle.std.specs.Char.Utf16.{lone_unit_char}
use Rattle.std.specs.Option.{unwrap_or}
use Rattle.std.proofs.str.Utf16.{lone_unit_char_low, lone_unit_char_high}
use Rattle.text_spec.specs.Packed.{byte_of, unit_of, units_of, denoted_text, IsPair}
use Rattle.text_spec.specs.Views.{size_in}
use Rattle.std.specs.Str.{encode_utf8_all}
use Rattle.text_spec.proofs.Bytes.{length-utf8}
use Rattle.text_spec.proofs.Denoting.{denoted_as, utf8_words}
use Rattle.text_spec.proofs.Walk.{down-start}
use Rattle.text_spec.proofs.Widths.{len8_some}
use Rattle.word_units.specs.Counting.{scalars_begun, bytes_begun, units_begun, within}
use Rattle.word_units.proofs.Spreading.{within_left, within_le, scalars_few, units_few}
use Rattle.word_units.proofs.Beginning.{crossed_bytes, near}
use Rattle.word_units.specs.Running.{PassesRun}
use Rattle.word_units.specs.Walking.{Passes}
use Rattle.word_units.proofs.Passing.{passes}
use Rattle.word_units.proofs.Telling.{told8, told16, width-is}
use Rattle.word_units.specs.Parts.{Part, part_of}

-- ---- the high bits of the bytes of a word
abbrev mask : ℕ → ℕ
mask zero = 0
mask (suc n) = mask n * 256 + 128

abbrev shifted : ℕ → ℕ → ℕ
shifted w zero = w
shifted w (suc j) = shifted (w / 256) j

no_high : (r : ℕ) → r < 256 → bit_and r 128 ≡ 0 → r < 128
no_high r small none =
    ⊎_elim (λ l. l)
    (λ g.
    let split : 1 * 2 ^ 7 + (r - 128) ≡ r = omega (arith, g) in
    let both : bit_and (1 * 2 ^ 7 + (r - 128)) 128 ≡ 1 * 2 ^ 7 + bit_and (r - 128) 0 = and_block 7 1 1 (r - 128) 0 (omega (arith, small)) (omega arith) in
    absurd (omega (arith, ap (λ n. bit_and n 128) split, both, none)))
    (cases_lt r 128)

ascii_bytes : (n w : ℕ) → bit_and w (mask n) ≡ 0 → (j : ℕ) → j < n → shifted w j % 256 < 128
ascii_bytes zero w none j h = absurd (omega arith)
ascii_bytes (suc n) w none zero h =
    let split : w / 256 * 2 ^ 8 + w % 256 ≡ w = omega arith in
    let both : bit_and (w / 256 * 2 ^ 8 + w % 256) (mask n * 2 ^ 8 + 128) ≡ bit_and (w / 256) (mask n) * 2 ^ 8 + bit_and (w % 256) 128 =
    and_block 8 (w / 256) (mask n) (w % 256) 128 (omega arith) (omega arith) in
    no_high (w % 256) (omega arith) (omega (arith, ap (λ x. bit_and x (mask (suc n))) split, both, none))
ascii_bytes (suc n) w none (suc i) h =
    let split : w / 256 * 2 ^ 8 + w % 256 ≡ w = omega arith in
    let both : bit_and (w / 256 * 2 ^ 8 + w % 256) (mask n * 2 ^ 8 + 128) ≡ bit_and (w / 256) (mask n) * 2 ^ 8 + bit_and (w % 256) 128 =
    and_block 8 (w / 256) (mask n) (w % 256) 128 (omega arith) (omega arith) in
    let high : bit_and (w / 256) (mask n) ≡ 0 = omega (arith, ap (λ x. bit_and x (mask (suc n))) split, both, none) in
    ascii_bytes n (w / 256) high i (omega arith)

-- a byte of a word without high bits
ascii_byte : (w : ℕ) → bit_and w 0x8080808080808080 ≡ 0 → (j : ℕ) → j < 8 → w / 2 ^ (8 * j) % 256 < 128
ascii_byte w none zero h = omega (arith, ascii_bytes 8 w none 0 (omega arith))
ascii_byte w none (suc zero) h = omega (arith, ascii_bytes 8 w none 1 (omega arith))
ascii_byte w none (suc (suc zero)) h = omega (arith, ascii_bytes 8 w none 2 (omega arith))
ascii_byte w none (suc (suc (suc zero))) h = omega (arith, ascii_bytes 8 w none 3 (omega arith))
ascii_byte w none (suc (suc (suc (suc zero)))) h = omega (arith, ascii_bytes 8 w none 4 (omega arith))
ascii_byte w none (suc (suc (suc (suc (suc zero))))) h = omega (arith, ascii_bytes 8 w none 5 (omega arith))
ascii_byte w none (suc (suc (suc (suc (suc (suc zero)))))) h = omega (arith, ascii_bytes 8 w none 6 (omega arith))
ascii_byte w none (suc (suc (suc (suc (suc (suc (suc zero))))))) h = omega (arith, ascii_bytes 8 w none 7 (omega arith))
ascii_byte w none (suc (suc (suc (suc (suc (suc (suc (suc j)))))))) h = absurd (omega arith)

-- ---- one scalar
pub one_run : (t : Part) (at most next units : ℕ) → Passes t at next units → PassesRun t at most next units 1
one_run t at most next units p = record {
  number = p.number;
  boundary = p.boundary;
  other = p.other;
  ahead = p.ahead;
  within = p.within;
  some = p.some;
  size = inl refl;
}

-- ---- the scalars that begin in a word from the boundary `at` on
pub word_run : (e : Encoding) (ws : List ℕ) (n : ℕ) (b : List ℕ) (first last at most word bytes units scalars : ℕ) → e ≡ Utf8 → n ≡ size_in e b → denoted_text e ws n ≡ Some b
    → 11 ≤ most → at + most ≤ size_in Utf8 b → start len_utf8 b (down len_utf8 b at) ≡ at → word ≡ get_or ws (at / 8) 0 → word < 2 ^ 64
    → bytes ≡ within bytes_begun 8 (word / 2 ^ (8 * (at % 8))) → units ≡ within units_begun 8 (word / 2 ^ (8 * (at % 8)))
    → scalars ≡ within scalars_begun 8 (word / 2 ^ (8 * (at % 8)))
    → PassesRun (part_of e b first last) at most (at + bytes - at % 8) (units - at % 8) (scalars - at % 8)
word_run e ws n b first last at most word bytes units scalars is8 long denotes room fits boundary here small sum8 sum16 sum =
    let j = 8 - at % 8 in
    let w = word / 2 ^ (8 * (at % 8)) in
    let k = down len_utf8 b at in
    let text = utf8_words ws (size_in Utf8 b) b (denoted_as e Utf8 ws n b is8 long denotes) in
    let long8 : length (encode_utf8_all b) ≡ size_in Utf8 b = length-utf8 b in
    let bytes_is : bytes ≡ within bytes_begun j w + at % 8 = sum8 ∙ within_left bytes_begun refl word (at % 8) small (omega arith) in
    let units_is : units ≡ within units_begun j w + at % 8 = sum16 ∙ within_left units_begun refl word (at % 8) small (omega arith) in
    let scalars_is : scalars ≡ within scalars_begun j w + at % 8 = sum ∙ within_left scalars_begun refl word (at % 8) small (omega arith) in
    let crossed = crossed_bytes ws b text.scalars text.held at word here boundary (omega (arith, fits, room)) j (omega arith) (omega (arith, fits, room, long8)) in
    let m = k + within scalars_begun j w in
    let next = at + within bytes_begun j w in
    let place : at + j ≡ at / 8 * 8 + 8 = omega arith in
    let reach = near b (at + j) m crossed.begun (omega arith) in
    let same : down len_utf8 b next ≡ m = ap (down len_utf8 b) (sym crossed.bytes) ∙ down-start len_utf8 len8_some b m crossed.begun.inside in
    let ends : at + bytes - at % 8 ≡ next = omega (arith, bytes_is) in
    let takes : units - at % 8 ≡ within units_begun j w = omega (arith, units_is) in
    let are : scalars - at % 8 ≡ within scalars_begun j w = omega (arith, scalars_is) in
    let ahead : at < next = omega (arith, crossed.begun.next, crossed.bytes) in
    let some : 1 ≤ within scalars_begun j w =
    ⊎_elim (λ (h : within scalars_begun j w < 1). let stays : m ≡ k = omega (arith, h) in absurd (omega (arith, ap (start len_utf8 b) stays, crossed.bytes, boundary, ahead))) (λ h. h) (cases_lt (within scalars_begun j w) 1) in
    let more = within_le scalars_begun units_begun scalars_few j w in
    let few = within_le units_begun bytes_begun units_few j w in
    subst (λ x. PassesRun (part_of x b first last) at most (at + bytes - at % 8) (units - at % 8) (scalars - at % 8)) (sym is8)
    (subst (λ x. PassesRun (part_of Utf8 b first last) at most x (units - at % 8) (scalars - at % 8)) (sym ends)
    (subst (λ x. PassesRun (part_of Utf8 b first last) at most next x (scalars - at % 8)) (sym takes)
    (subst (λ x. PassesRun (part_of Utf8 b first last) at most next (within units_begun j w) x) (sym are)
    (record {
      number = same;
      boundary = ap (start len_utf8 b) same ∙ crossed.bytes;
      other = ap (start len_utf16 b) same ∙ crossed.units;
      ahead = ahead;
      within = omega (arith, reach, crossed.bytes, fits, room);
      some = omega (arith, some, more);
      size = inr (some, more, omega (arith, few, reach, crossed.bytes, room), omega (arith, reach, crossed.bytes, room));
    }))))

module _ (e : Encoding) (ws : List ℕ) (n : ℕ) (b : List ℕ) (first_scalar last_scalar : ℕ) (is8 : e ≡ Utf8) (long : n ≡ size_in e b) (denotes : denoted_text e ws n ≡ Some b) where
  pub lead_passes : (at word lead width units : ℕ) → at < size_in Utf8 b → start len_utf8 b (down len_utf8 b at) ≡ at
      → word ≡ get_or ws (at / 8) 0 → lead ≡ word / 2 ^ (8 * (at % 8)) % 256
      → (lead < 128 → width ≡ 1) → (128 ≤ lead → lead < 224 → width ≡ 2) → (224 ≤ lead → lead < 240 → width ≡ 3) → (240 ≤ lead → width ≡ 4)
      → ((scalar : ℕ) → width ≡ len_utf8 scalar → units ≡ len_utf16 scalar) → Passes (part_of e b first_scalar last_scalar) at (at + width) units
  lead_passes at word lead width units inside boundary here is one two three four takes =
      let told = told8 e ws n b at is8 long denotes inside boundary in
      let c = get_or b (down len_utf8 b at) 0 in
      let byte : lead ≡ byte_of ws at = is ∙ ap (λ w. w / 2 ^ (8 * (at % 8)) % 256) here in
      let wide : width ≡ len_utf8 c = width-is ws at c lead told.stands byte width one two three four in
      subst (λ x. Passes (part_of x b first_scalar last_scalar) at (at + width) units) (sym is8)
      (passes Utf8 b first_scalar last_scalar at (at + width) units inside boundary (ap (λ k. at + k) wide) (takes c wide))

  -- ---- eight scalars of ASCII
  module _ (at word : ℕ) (fits : at + 8 ≤ size_in Utf8 b) (first : at % 8 ≡ 0) (here : word ≡ get_or ws (at / 8) 0) (none : bit_and word 0x8080808080808080 ≡ 0)
      (boundary : start len_utf8 b (down len_utf8 b at) ≡ at) where
    record RunAt (j p : ℕ) : Type 0 where
      pub number : down len_utf8 b p ≡ down len_utf8 b at + j
      pub begins : start len_utf8 b (down len_utf8 b p) ≡ p
      pub units : start len_utf16 b (down len_utf8 b p) ≡ start len_utf16 b (down len_utf8 b at) + j

    run_at : (j p : ℕ) → j ≤ 8 → p ≡ at + j → RunAt j p
    run_at zero p h is =
        let same : at ≡ p = omega arith in
        subst (RunAt 0) same (record { number = omega arith; begins = boundary; units = omega arith })
    run_at (suc j) p h is =
        let q = at + j in
        let before = run_at j q (omega arith) refl in
        let inside : q < size_in Utf8 b = omega (arith, fits) in
        let told = told8 e ws n b q is8 long denotes inside before.begins in
        let c = get_or b (down len_utf8 b q) 0 in
        let place : q / 8 ≡ at / 8 = omega (arith, first) in
        let offset : q % 8 ≡ j = omega (arith, first) in
        let byte : byte_of ws q ≡ word / 2 ^ (8 * j) % 256 =
        ap (λ k. get_or ws k 0 / 2 ^ (8 * (q % 8)) % 256) place ∙ ap (λ w. w / 2 ^ (8 * (q % 8)) % 256) (sym here) ∙ ap (λ k. word / 2 ^ (8 * k) % 256) offset in
        let few : byte_of ws q < 128 = omega (arith, byte, ascii_byte word none j (omega arith)) in
        let one = told.stands.one few in
        let small : c < 65536 = omega (arith, one.1, few) in
        let thin : len_utf16 c ≡ 1 = cond-true _ _ _ (lt-ltb c 65536 small) in
        let step = passes Utf8 b first_scalar last_scalar q p 1 inside before.begins (omega (arith, is, one.0)) (sym thin) in
        record {
          number = omega (arith, step.number, before.number);
          begins = step.boundary;
          units = omega (arith, step.other, before.units);
        }

    pub ascii_run : (most : ℕ) → 8 ≤ most → PassesRun (part_of e b first_scalar last_scalar) at most (at + 8) 8 8
    ascii_run most room =
        let run = run_at 8 (at + 8) (omega arith) refl in
        subst (λ x. PassesRun (part_of x b first_scalar last_scalar) at most (at + 8) 8 8) (sym is8) (record {
          number = run.number;
          boundary = run.begins;
          other = run.units;
          ahead = omega arith;
          within = fits;
          some = omega arith;
          size = inr (omega arith, omega arith, room, omega (arith, room));
        })

-- ---- the scalars of a word of UTF-16 that holds no half of a pair
module _ (e : Encoding) (ws : List ℕ) (n : ℕ) (b : List ℕ) (first_scalar last_scalar : ℕ) (is16 : e ≡ Utf16) (long : n ≡ size_in e b) (denotes : denoted_text e ws n ≡ Some b) where
  record PlainTo (at j bytes p : ℕ) : Type 0 where
    pub number : down len_utf16 b p ≡ down len_utf16 b at + j
    pub begins : start len_utf16 b (down len_utf16 b p) ≡ p
    pub bytes_are : start len_utf8 b (down len_utf16 b p) ≡ start len_utf8 b (down len_utf16 b at) + bytes

  plain_on : (at j bytes q p u : ℕ) → PlainTo at j bytes q → q < size_in Utf16 b → p ≡ q + 1 → u ≡ unit_of ws q → (0xD800 ≤ u → 0xE000 ≤ u)
      → PlainTo at (j + 1) (bytes + len_utf8 u) p
  plain_on at j bytes q p u before inside is here plain =
      let us = units_of ws (size_in Utf16 b) in
      let none : ¬ (IsPair u (get_or us (q + 1) 0)) = λ pair. absurd (omega (arith, plain pair.0, pair.1)) in
      let alone : u ≡ unwrap_or (lone_unit_char u) 0xFFFD =
      ⊎_elim (λ low. sym (ap (λ o. unwrap_or o 0xFFFD) (lone_unit_char_low u low))) (λ high. sym (ap (λ o. unwrap_or o 0xFFFD) (lone_unit_char_high u (plain high)))) (cases_lt u 0xD800) in
      let told = told16 e ws n b q u (get_or us (q + 1) 0) u 1 is16 long denotes inside before.begins here (λ low high. refl) ((λ pair. absurd (none pair)), λ no. (alone, refl)) in
      let step = passes Utf16 b first_scalar last_scalar q p (len_utf8 u) inside before.begins (omega (arith, is, told.1)) (ap len_utf8 told.0) in
      record {
        number = omega (arith, step.number, before.number);
        begins = step.boundary;
        bytes_are = omega (arith, step.other, before.bytes_are);
      }

  pub plain_run : (at most word bytes : ℕ) → at + most ≤ size_in Utf16 b → 12 ≤ most → at % 4 ≡ 0 → word ≡ get_or ws (at / 4) 0 → start len_utf16 b (down len_utf16 b at) ≡ at
      → (0xD800 ≤ word % 65536 → 0xE000 ≤ word % 65536) → (0xD800 ≤ word / 2 ^ 16 % 65536 → 0xE000 ≤ word / 2 ^ 16 % 65536)
      → (0xD800 ≤ word / 2 ^ 32 % 65536 → 0xE000 ≤ word / 2 ^ 32 % 65536) → (0xD800 ≤ word / 2 ^ 48 % 65536 → 0xE000 ≤ word / 2 ^ 48 % 65536)
      → bytes ≡ len_utf8 (word % 65536) + len_utf8 (word / 2 ^ 16 % 65536) + len_utf8 (word / 2 ^ 32 % 65536) + len_utf8 (word / 2 ^ 48 % 65536)
      → 4 ≤ bytes → bytes ≤ 12 → PassesRun (part_of e b first_scalar last_scalar) at most (at + 4) bytes 4
  plain_run at most word bytes fits room first here boundary p0 p1 p2 p3 sum some few =
      let unit = λ (j : ℕ) (u : ℕ) (low : j < 4) (is : u ≡ word / 2 ^ (16 * j) % 65536).
      let place : (at + j) / 4 ≡ at / 4 = omega (arith, first, low) in
      let offset : (at + j) % 4 ≡ j = omega (arith, first, low) in
      let same : u ≡ unit_of ws (at + j) =
      is ∙ ap (λ w. w / 2 ^ (16 * j) % 65536) here ∙ ap (λ k. get_or ws k 0 / 2 ^ (16 * j) % 65536) (sym place) ∙ ap (λ k. get_or ws ((at + j) / 4) 0 / 2 ^ (16 * k) % 65536) (sym offset) in
      same in
      let zero_to : PlainTo at 0 0 (at + 0) = subst (PlainTo at 0 0) {x = at} {y = at + 0} (omega arith) (record { number = omega arith; begins = boundary; bytes_are = omega arith }) in
      let one_to = plain_on at 0 0 (at + 0) (at + 1) (word % 65536) zero_to (omega (arith, fits, room)) (omega arith) (unit 0 (word % 65536) (omega arith) (omega arith)) p0 in
      let two_to = plain_on at 1 _ (at + 1) (at + 2) (word / 2 ^ 16 % 65536) one_to (omega (arith, fits, room)) (omega arith) (unit 1 (word / 2 ^ 16 % 65536) (omega arith) refl) p1 in
      let three_to = plain_on at 2 _ (at + 2) (at + 3) (word / 2 ^ 32 % 65536) two_to (omega (arith, fits, room)) (omega arith) (unit 2 (word / 2 ^ 32 % 65536) (omega arith) refl) p2 in
      let four_to = plain_on at 3 _ (at + 3) (at + 4) (word / 2 ^ 48 % 65536) three_to (omega (arith, fits, room)) (omega arith) (unit 3 (word / 2 ^ 48 % 65536) (omega arith) refl) p3 in
      subst (λ x. PassesRun (part_of x b first_scalar last_scalar) at most (at + 4) bytes 4) (sym is16) (record {
        number = omega (arith, four_to.number);
        boundary = four_to.begins;
        other = omega (arith, four_to.bytes_are, sum);
        ahead = omega arith;
        within = omega (arith, fits, room);
        some = omega (arith, some);
        size = inr (omega arith, some, omega (arith, few, room), omega (arith, room));
      })

  -- ---- one scalar
  pub code_run : (at most next code width bytes : ℕ) → at < size_in Utf16 b → start len_utf16 b (down len_utf16 b at) ≡ at → code ≡ get_or b (down len_utf16 b at) 0
      → width ≡ len_utf16 (get_or b (down len_utf16 b at) 0) → bytes ≡ len_utf8 code → next ≡ at + width → PassesRun (part_of e b first_scalar last_scalar) at most next bytes 1
  code_run at most next code width bytes inside boundary is wide takes ends =
      one_run (part_of e b first_scalar last_scalar) at most next bytes (subst (λ x. Passes (part_of x b first_scalar last_scalar) at next bytes) (sym is16)
      (passes Utf16 b first_scalar last_scalar at next bytes inside boundary (ends ∙ ap (λ k. at + k) wide) (takes ∙ ap len_utf8 is)))
