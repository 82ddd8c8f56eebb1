-- The scalars of a text that begin before a byte, counted byte by byte.
use Rattle.std.proofs.Common.{◌≡◌, sym, ap, subst, ◌∙◌, ℕ, zero, suc, ◌+◌, ◌-◌, ◌*◌, ◌/◌, ◌%◌, ◌^◌, ◌<◌, ◌≤◌, inl, inr, ⊎_elim, true, List, length, get_or, arith}
use Rattle.std.proofs.lemmas.Bool.{cases_lt, cond-true, cond-false, lt-ltb, le-ltb}
use Rattle.std.proofs.lemmas.Nat.{shr-shr}
use Rattle.std.proofs.lemmas.Str.{len_utf8_bounds, length-encode}
use Rattle.std.specs.Char.{encode_utf8, len_utf8}
use Rattle.std.specs.Str.{all_scalars, encode_utf8_all}
use Rattle.text_spec.specs.Offsets.{len_utf16, start, down}
use Rattle.text_spec.proofs.Walk.{start-zero, start-suc, start-le, start-mono, down-start, down-next}
use Rattle.text_spec.proofs.Bytes.{length-utf8, covered, byte-after, lead-boundary, decoded, Decoded, HoldUtf8}
use Rattle.text_spec.proofs.Widths.{len8_some}
use Rattle.word_units.specs.Counting.{scalars_begun, bytes_begun, units_begun, within}
use Rattle.word_units.proofs.Spreading.{Told, told_one, told_rest, told_two, told_three, told_four, within_more}

-- the first `number` scalars are those that begin before byte p
pub record Begun (text : List ℕ) (p number : ℕ) : Type 0 where
  pub inside : number ≤ length text
  pub next : p ≤ start len_utf8 text number
  pub last : (j : ℕ) → j < number → start len_utf8 text j < p

pub len_small : (c : ℕ) → c < 65536 → len_utf8 c ≤ 3
len_small c h =
    ⊎_elim (λ a. let e : len_utf8 c ≡ 1 = cond-true _ _ _ (lt-ltb c 128 a) in omega arith)
    (λ a. ⊎_elim (λ b. let e : len_utf8 c ≡ 2 = cond-false _ _ _ (le-ltb c 128 a) ∙ cond-true _ _ _ (lt-ltb c 2048 b) in omega arith)
    (λ b. let e : len_utf8 c ≡ 3 = cond-false _ _ _ (le-ltb c 128 a) ∙ cond-false _ _ _ (le-ltb c 2048 b) ∙ cond-true _ _ _ (lt-ltb c 65536 h) in omega arith)
    (cases_lt c 2048)) (cases_lt c 128)

-- what the first byte of a scalar tells of it
pub lead_told : (c b : ℕ) → Decoded (encode_utf8 c) c → b ≡ get_or (encode_utf8 c) 0 0 → Told b 1 (len_utf8 c) (len_utf16 c)
lead_told c b d is =
    let own = length-encode c in
    let thin : c < 65536 → len_utf16 c ≡ 1 = λ h. cond-true _ _ _ (lt-ltb c 65536 h) in
    ⊎_elim
    (λ a.
    let is_one = d.one (omega arith) in
    let t = told_one b a in
    record { scalars_are = t.scalars_are; bytes_are = omega (arith, t.bytes_are, is_one.0); units_are = omega (arith, t.units_are, thin (omega (arith, is_one.1))) })
    (λ a.
    let high : 192 ≤ b = ⊎_elim (λ (e : get_or (encode_utf8 c) 0 0 < 128). absurd (omega arith)) (λ (e : 192 ≤ get_or (encode_utf8 c) 0 0). omega arith) d.lead in
    ⊎_elim
    (λ e.
    let is_two = d.two (omega arith) (omega arith) in
    let t = told_two b high e in
    record { scalars_are = t.scalars_are; bytes_are = omega (arith, t.bytes_are, is_two.0); units_are = omega (arith, t.units_are, thin (omega (arith, is_two.1))) })
    (λ e. ⊎_elim
    (λ f.
    let is_three = d.three (omega arith) (omega arith) in
    let t = told_three b e f in
    record { scalars_are = t.scalars_are; bytes_are = omega (arith, t.bytes_are, is_three.0); units_are = omega (arith, t.units_are, thin (omega (arith, is_three.1))) })
    (λ f.
    let is_four = d.four (omega arith) in
    let t = told_four b f in
    let big : 65536 ≤ c = ⊎_elim (λ g. absurd (omega (arith, own, len_small c g, is_four.0))) (λ g. g) (cases_lt c 65536) in
    let pair : len_utf16 c ≡ 2 = cond-false _ _ _ (le-ltb c 65536 big) in
    record { scalars_are = t.scalars_are; bytes_are = omega (arith, t.bytes_are, is_four.0); units_are = omega (arith, t.units_are, pair) })
    (cases_lt b 240)) (cases_lt b 224))
    (cases_lt b 128)

-- ---- one byte more
pub record OneMore (t : List ℕ) (p k b : ℕ) : Type 0 where
  pub begun : Begun t (p + 1) (k + scalars_begun b)
  pub bytes : start len_utf8 t (k + scalars_begun b) ≡ start len_utf8 t k + bytes_begun b
  pub units : start len_utf16 t (k + scalars_begun b) ≡ start len_utf16 t k + units_begun b

module _ (t : List ℕ) (ok : all_scalars t ≡ true) where
  -- where scalar k begins, the byte is its first
  pub byte_lead : (k p : ℕ) → k < length t → start len_utf8 t k ≡ p → Told (get_or (encode_utf8_all t) p 0) 1 (len_utf8 (get_or t k 0)) (len_utf16 (get_or t k 0))
  byte_lead k p h e =
      let next = start-suc len_utf8 t k h in
      let inside : p < length (encode_utf8_all t) = omega (arith, len8_some (get_or t k 0), start-le len_utf8 t (suc k), length-utf8 t) in
      let same : down len_utf8 t p ≡ k = ap (down len_utf8 t) (sym e) ∙ down-start len_utf8 len8_some t k (omega arith) in
      let at : start len_utf8 t (down len_utf8 t p) ≡ p = ap (start len_utf8 t) same ∙ e in
      let here = covered t ok p inside in
      let none : p + 0 ≡ p = omega arith in
      let first : get_or (encode_utf8_all t) p 0 ≡ get_or (encode_utf8 (get_or t (down len_utf8 t p) 0)) 0 0 =
      ap (λ n. get_or (encode_utf8_all t) n 0) (sym none) ∙ byte-after t ok p 0 inside at (omega (arith, here.width.0)) in
      subst (λ j. Told (get_or (encode_utf8_all t) p 0) 1 (len_utf8 (get_or t j 0)) (len_utf16 (get_or t j 0))) same
      (lead_told (get_or t (down len_utf8 t p) 0) (get_or (encode_utf8_all t) p 0) (decoded _ here.scalar) first)

  module _ (p k : ℕ) (s : Begun t p k) where
    -- below the start of the next one, it continues one
    pub byte_rest : p < length (encode_utf8_all t) → p < start len_utf8 t k → Told (get_or (encode_utf8_all t) p 0) 0 0 0
    byte_rest h low =
        let here = covered t ok p h in
        let j = down len_utf8 t p in
        let b = get_or (encode_utf8_all t) p 0 in
        -- the scalar that covers p began before it
        let began : j < k = ⊎_elim (λ l. l) (λ (l : k ≤ j). absurd (omega (arith, start-mono len_utf8 t k j l, here.low))) (cases_lt j k) in
        let before = s.last j began in
        let both : (128 ≤ b) × (b < 192) =
        ⊎_elim (λ a. absurd (omega (arith, lead-boundary t ok p h (inl a)))) (λ a. ⊎_elim (λ d. (a, d)) (λ d. absurd (omega (arith, lead-boundary t ok p h (inr d)))) (cases_lt b 192)) (cases_lt b 128) in
        told_rest b both.0 both.1

    -- a scalar begins at p where the text doesn't end there
    pub byte_begins : p < length (encode_utf8_all t) → start len_utf8 t k ≡ p → k < length t
    byte_begins h at =
        ⊎_elim (λ l. l) (λ (l : length t ≤ k). let f : k ≡ length t = omega (arith, s.inside) in absurd (omega (arith, ap (start len_utf8 t) f, length-utf8 t))) (cases_lt k (length t))

    pub one_more : p < length (encode_utf8_all t) → OneMore t p k (get_or (encode_utf8_all t) p 0)
    one_more h =
        let b = get_or (encode_utf8_all t) p 0 in
        ⊎_elim
        (λ low.
        let r = byte_rest h low in
        let same : k ≡ k + scalars_begun b = omega (arith, r.scalars_are) in
        record {
          begun = subst (Begun t (p + 1)) same (record { inside = s.inside; next = omega arith; last = λ j l. omega (arith, s.last j l) });
          bytes = omega (arith, ap (start len_utf8 t) same, r.bytes_are);
          units = omega (arith, ap (start len_utf16 t) same, r.units_are);
        })
        (λ high.
        let e : start len_utf8 t k ≡ p = omega (arith, s.next) in
        let some = byte_begins h e in
        let r = byte_lead k p some e in
        let next8 = start-suc len_utf8 t k some in
        let next16 = start-suc len_utf16 t k some in
        let same : suc k ≡ k + scalars_begun b = omega (arith, r.scalars_are) in
        record {
          begun = subst (Begun t (p + 1)) same (record {
            inside = some;
            next = omega (arith, len8_some (get_or t k 0));
            last = λ j l. omega (arith, start-mono len_utf8 t j k (omega arith));
          });
          bytes = omega (arith, ap (start len_utf8 t) same, r.bytes_are);
          units = omega (arith, ap (start len_utf16 t) same, r.units_are);
        }) (cases_lt p (start len_utf8 t k))

-- at a boundary those before it have begun
pub begun_at : (t : List ℕ) (p : ℕ) → p < start len_utf8 t (length t) → start len_utf8 t (down len_utf8 t p) ≡ p → Begun t p (down len_utf8 t p)
begun_at t p h at =
    let k = down len_utf8 t p in
    let here = down-next len_utf8 t p h in
    record {
      inside = omega (arith, here.0);
      next = omega (arith, at);
      last = λ j l. let before : j < length t = omega (arith, l, here.0) in
          omega (arith, start-suc len_utf8 t j before, len8_some (get_or t j 0), start-mono len_utf8 t (suc j) k l, at);
    }

-- the last that began ends at most three bytes on
pub near : (t : List ℕ) (p k : ℕ) → Begun t p k → 1 ≤ p → start len_utf8 t k ≤ p + 3
near t p zero s some = omega (arith, start-zero len_utf8 t)
near t p (suc k) s some =
    let bounds = len_utf8_bounds (get_or t k 0) in
    omega (arith, s.last k (omega arith), start-suc len_utf8 t k (omega (arith, s.inside)))

-- ---- the bytes of a word from the boundary `at` on
pub record Crossed (t : List ℕ) (at w j : ℕ) : Type 0 where
  pub begun : Begun t (at + j) (down len_utf8 t at + within scalars_begun j w)
  pub bytes : start len_utf8 t (down len_utf8 t at + within scalars_begun j w) ≡ at + within bytes_begun j w
  pub units : start len_utf16 t (down len_utf8 t at + within scalars_begun j w) ≡ start len_utf16 t (down len_utf8 t at) + within units_begun j w

module _ (ws t : List ℕ) (ok : all_scalars t ≡ true) (held : HoldUtf8 ws t) (at word : ℕ) (here : word ≡ get_or ws (at / 8) 0)
    (boundary : start len_utf8 t (down len_utf8 t at) ≡ at) (inside : at < start len_utf8 t (length t)) where
  pub crossed_bytes : (j : ℕ) → j ≤ 8 - at % 8 → at + j ≤ length (encode_utf8_all t) → Crossed t at (word / 2 ^ (8 * (at % 8))) j
  crossed_bytes zero most fits =
      let w = word / 2 ^ (8 * (at % 8)) in
      let k = down len_utf8 t at in
      let place : at ≡ at + 0 = omega arith in
      let same : k ≡ k + within scalars_begun zero w = omega arith in
      record {
        begun = subst (λ p. Begun t p (k + within scalars_begun zero w)) place (subst (Begun t at) same (begun_at t at inside boundary));
        bytes = ap (start len_utf8 t) (sym same) ∙ boundary ∙ place;
        units = omega (arith, ap (start len_utf16 t) same);
      }
  crossed_bytes (suc j) most fits =
      let w = word / 2 ^ (8 * (at % 8)) in
      let k = down len_utf8 t at in
      let before = crossed_bytes j (omega arith) (omega arith) in
      let p = at + j in
      let m = k + within scalars_begun j w in
      let below : p < length (encode_utf8_all t) = omega arith in
      let place : p / 8 ≡ at / 8 = omega arith in
      let offset : 8 * (at % 8) + 8 * j ≡ 8 * (p % 8) = omega arith in
      let byte : get_or (encode_utf8_all t) p 0 ≡ w / 2 ^ (8 * j) % 256 =
      sym (held.1 p below) ∙ ap (λ i. get_or ws i 0 / 2 ^ (8 * (p % 8)) % 256) place ∙ ap (λ v. v / 2 ^ (8 * (p % 8)) % 256) (sym here)
      ∙ ap (λ i. word / 2 ^ i % 256) (sym offset) ∙ ap (λ v. v % 256) (sym (shr-shr word (8 * (at % 8)) (8 * j))) in
      let step = subst (OneMore t p m) byte (one_more t ok p m before.begun below) in
      let next : j + 1 ≡ suc j = omega arith in
      let scalars : m + scalars_begun (w / 2 ^ (8 * j) % 256) ≡ k + within scalars_begun (suc j) w = omega (arith, within_more scalars_begun j w, ap (λ i. within scalars_begun i w) next) in
      let after : p + 1 ≡ at + suc j = omega arith in
      record {
        begun = subst (λ q. Begun t q (k + within scalars_begun (suc j) w)) after (subst (Begun t (p + 1)) scalars step.begun);
        bytes = ap (start len_utf8 t) (sym scalars) ∙ omega (arith, step.bytes, before.bytes, within_more bytes_begun j w, ap (λ i. within bytes_begun i w) next);
        units = ap (start len_utf16 t) (sym scalars) ∙ omega (arith, step.units, before.units, within_more units_begun j w, ap (λ i. within units_begun i w) next);
      }
