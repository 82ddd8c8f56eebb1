-- Words of a slot written anew, one after another.
use Rattle.std.proofs.Common.{◌≡◌, ◌≢◌, refl, sym, ap, subst, ◌∙◌, ℕ, ◌+◌, ◌-◌, ◌*◌, ◌/◌, ◌%◌, ◌^◌, ◌<◌, ◌≤◌, ◌⊎◌, inl, inr, ⊎_elim, List, [], ◌∷◌, ◌++◌, length, get_or, slice_index, set, max, eqb, arith, get_or-set_other, get_or-set_same, length-append, length-set}
use Rattle.std.proofs.lemmas.Bool.{cases_lt, cases_eq, cond-true, cond-false, eq-eqb, ne_eqb}
use Rattle.std.proofs.lemmas.List.{get_or_past, get_or_append_left, get_or-append_right}
use Rattle.slot_model.specs.History.{put}
use Rattle.slot_edits.specs.declared.part.Part.{Part}
use Rattle.slot_edits.specs.Parts.{spliced}
use Rattle.slot_edits.specs.Words.{content_byte, content_bytes, HoldsAt, Rewrites}
use Rattle.slot_edits.proofs.Bytes.{length-bytes, bytes-below, bytes-past, content-at, byte-same}
use Rattle.slot_edits.proofs.Splices.{splice-agrees, splice-back}

-- ---- one word
put-end : (ws : List ℕ) (k w : ℕ) → k ≡ length ws → put ws k w ≡ ws ++ w ∷ []
put-end ws k w h = cond-true (eqb k (length ws)) _ _ (eq-eqb k (length ws) h)

put-within : (ws : List ℕ) (k w : ℕ) → k ≢ length ws → put ws k w ≡ set ws k w
put-within ws k w h = cond-false (eqb k (length ws)) _ _ (ne_eqb k (length ws) h)

pub put-here : (ws : List ℕ) (k w : ℕ) → k ≤ length ws → slice_index (put ws k w) k ≡ w
put-here ws k w h =
    ⊎_elim
    (λ e. ap (λ l. get_or l k 0) (put-end ws k w e) ∙ get_or-append_right ws (w ∷ []) (length ws) k 0 refl (omega arith)
    ∙ let none : k - length ws ≡ 0 = omega arith in ap (λ n. get_or (w ∷ []) n 0) none)
    (λ ne. let lt : k < length ws = omega arith in ap (λ l. get_or l k 0) (put-within ws k w ne) ∙ get_or-set_same ws k w 0 lt)
    (cases_eq k (length ws))

pub put-other : (ws : List ℕ) (k w j : ℕ) → k ≤ length ws → j ≢ k → slice_index (put ws k w) j ≡ slice_index ws j
put-other ws k w j h ne =
    ⊎_elim
    (λ e.
    ap (λ l. get_or l j 0) (put-end ws k w e)
    ∙ ⊎_elim (λ l. get_or_append_left ws (w ∷ []) 0 j l)
    (λ l. get_or_past (ws ++ w ∷ []) j 0 (omega (arith, length-append ws (w ∷ []))) ∙ sym (get_or_past ws j 0 l)) (cases_lt j (length ws)))
    (λ no. ap (λ l. get_or l j 0) (put-within ws k w no) ∙ get_or-set_other ws k j w 0 ne)
    (cases_eq k (length ws))

pub length-put : (ws : List ℕ) (k w : ℕ) → k ≤ length ws → length (put ws k w) ≡ max (length ws) (k + 1)
length-put ws k w h =
    ⊎_elim (λ e. omega (arith, ap length (put-end ws k w e), length-append ws (w ∷ [])))
    (λ ne. omega (arith, ap length (put-within ws k w ne), length-set ws k w)) (cases_eq k (length ws))

-- ---- the bytes of a slot, one word of which is written
module _ (known new : List ℕ) (k w : ℕ) (there : k + 1 ≤ length known) where
  byte-here : HoldsAt new (8 * k) w → (p : ℕ) → p / 8 ≡ k → content_byte (put known (k + 1) w) p ≡ slice_index new p
  byte-here holds p e =
      let here : p / 8 + 1 ≡ k + 1 = omega arith in
      let place : 8 * k + p % 8 ≡ p = omega arith in
      content-at (put known (k + 1) w) p ∙ ap (λ j. slice_index (put known (k + 1) w) j / 2 ^ (8 * (p % 8)) % 256) here
      ∙ ap (λ v. v / 2 ^ (8 * (p % 8)) % 256) (put-here known (k + 1) w there) ∙ holds.byte (p % 8) (omega arith) ∙ ap (slice_index new) place

  byte-other : (p : ℕ) → p / 8 ≢ k → content_byte (put known (k + 1) w) p ≡ content_byte known p
  byte-other p ne =
      let other : p / 8 + 1 ≢ k + 1 = omega arith in
      byte-same known (put known (k + 1) w) p (put-other known (k + 1) w (p / 8 + 1) there other)

pub rewrites-none : (known new : List ℕ) (k : ℕ) → Rewrites known new k k known
rewrites-none known new k = record { within = λ p a b. absurd (omega arith); outside = λ j o. refl }

module _ (start new known : List ℕ) (from to k w : ℕ) (there : k + 1 ≤ length known) (holds : HoldsAt new (8 * k) w) where
  -- the word behind
  pub rewrites-up : from ≤ k → Rewrites start new from k known → Rewrites start new from (k + 1) (put known (k + 1) w)
  rewrites-up order r = record {
    within = λ p a b.
        ⊎_elim (λ e. byte-here known new k w there holds p e) (λ ne. byte-other known new k w there p ne ∙ r.within p a (omega arith)) (cases_eq (p / 8) k);
    outside = λ j o.
        let ne : j ≢ k + 1 = ⊎_elim (λ a. omega arith) (λ b. omega arith) o in
        put-other known (k + 1) w j there ne ∙ r.outside j (⊎_elim (λ a. inl a) (λ b. inr (omega arith)) o);
  }

  -- the word before
  pub rewrites-down : k < to → Rewrites start new (k + 1) to known → Rewrites start new k to (put known (k + 1) w)
  rewrites-down order r = record {
    within = λ p a b.
        ⊎_elim (λ e. byte-here known new k w there holds p e) (λ ne. byte-other known new k w there p ne ∙ r.within p (omega arith) b) (cases_eq (p / 8) k);
    outside = λ j o.
        let ne : j ≢ k + 1 = ⊎_elim (λ a. omega arith) (λ b. omega arith) o in
        put-other known (k + 1) w j there ne ∙ r.outside j (⊎_elim (λ a. inl (omega arith)) (λ b. inr b) o);
  }

-- ---- what a word is made of is as it was
byte-kept : (start new known : List ℕ) (from to count s : ℕ) → Rewrites start new from to known → ((s < count) → (s / 8 < from) ⊎ (to ≤ s / 8))
    → slice_index (content_bytes known count) s ≡ slice_index (content_bytes start count) s
byte-kept start new known from to count s r out =
    ⊎_elim
    (λ l.
    bytes-below known count s l ∙ byte-same start known s (r.outside (s / 8 + 1) (⊎_elim (λ a. inl (omega arith)) (λ b. inr (omega arith)) (out l)))
    ∙ sym (bytes-below start count s l))
    (λ l. bytes-past known count s l ∙ sym (bytes-past start count s l))
    (cases_lt s count)

module _ (start new known with : List ℕ) (part : Part) (from to k word : ℕ) (order : part.low ≤ part.high) (inside : part.high ≤ part.count) where
  pub still : (i : ℕ) → Rewrites start new from to known
      → (8 * k + i < part.low → (k < from) ⊎ (to ≤ k)) → i < 8
      → (part.low + length with ≤ 8 * k + i → part.high + (8 * k + i - (part.low + length with)) < part.count
      → ((part.high + (8 * k + i - (part.low + length with))) / 8 < from) ⊎ (to ≤ (part.high + (8 * k + i - (part.low + length with))) / 8))
      → slice_index (spliced known part with) (8 * k + i) ≡ slice_index (spliced start part with) (8 * k + i)
  still i r front few back =
      splice-agrees (content_bytes known part.count) (content_bytes start part.count) with part.low part.high (8 * k + i)
      (omega (arith, length-bytes known part.count)) (omega (arith, length-bytes start part.count))
      (λ l. byte-kept start new known from to part.count (8 * k + i) r (λ _. ⊎_elim (λ a. inl (omega arith)) (λ b. inr (omega arith)) (front l)))
      (λ l. byte-kept start new known from to part.count _ r (back l))

  pub still-up : Rewrites start new from to known → to ≡ k → (part.low + length with ≤ part.high) ⊎ (part.count ≤ 8 * from)
      → HoldsAt (spliced known part with) (8 * k) word → HoldsAt (spliced start part with) (8 * k) word
  still-up r e ahead h = record {
    byte = λ i few. h.byte i few ∙ still i r (λ l. inr (omega arith)) few
        (λ l m. ⊎_elim (λ a. inr (omega arith)) (λ b. inl (omega arith)) ahead);
  }

  pub still-down : Rewrites start new from to known → from ≡ k + 1 → part.high ≤ part.low + length with
      → HoldsAt (spliced known part with) (8 * k) word → HoldsAt (spliced start part with) (8 * k) word
  still-down r e behind h = record {
    byte = λ i few. h.byte i few ∙ still i r (λ l. inl (omega arith)) few (λ l m. inl (omega arith));
  }

-- ---- a word that is moved
pub moved-holds : (known with : List ℕ) (part : Part) (k p word : ℕ) → part.low ≤ part.high → part.high ≤ part.count → part.low + length with ≤ 8 * k
    → p ≡ part.high + (8 * k - (part.low + length with)) → HoldsAt (content_bytes known part.count) p word → HoldsAt (spliced known part with) (8 * k) word
moved-holds known with part k p word order inside behind is h = record {
  byte = λ i few.
      let old = content_bytes known part.count in
      let fits : part.low ≤ length old = omega (arith, length-bytes known part.count) in
      let place : p + i ≡ part.high + (8 * k + i - (part.low + length with)) = omega arith in
      h.byte i few ∙ ap (slice_index old) place ∙ sym (splice-back old with part.low part.high fits (8 * k + i) (omega arith));
}

-- an old word that isn't written yet
pub held-kept : (start new known : List ℕ) (from to count j word : ℕ) → Rewrites start new from to known → (8 * j < count → (j < from) ⊎ (to ≤ j))
    → HoldsAt (content_bytes known count) (8 * j) word → HoldsAt (content_bytes start count) (8 * j) word
held-kept start new known from to count j word r out h = record {
  byte = λ i few. h.byte i few
      ∙ byte-kept start new known from to count (8 * j + i) r (λ l. ⊎_elim (λ a. inl (omega arith)) (λ b. inr (omega arith)) (out (omega arith)));
}

-- ---- some words, and then others that are made of the same bytes
pub byte-outside : (known new later : List ℕ) (from to p : ℕ) → Rewrites known new from to later → (p < 8 * from) ⊎ (8 * to ≤ p) → content_byte later p ≡ content_byte known p
byte-outside known new later from to p r o =
    byte-same known later p (r.outside (p / 8 + 1) (⊎_elim (λ a. inl (omega arith)) (λ b. inr (omega arith)) o))

module _ (start b c with : List ℕ) (part : Part) (from middle to : ℕ) (order : part.low ≤ part.high) (inside : part.high ≤ part.count) (low : from ≤ middle) (high : middle ≤ to) where
  pub up-then : (part.low + length with ≤ part.high) ⊎ (part.count ≤ 8 * from)
      → Rewrites start (spliced start part with) from middle b → Rewrites b (spliced b part with) middle to c → Rewrites start (spliced start part with) from to c
  up-then ahead r s = record {
    within = λ p above below.
        ⊎_elim (λ l. byte-outside b (spliced b part with) c middle to p s (inl l) ∙ r.within p above l)
        (λ l.
        let place : 8 * (p / 8) + p % 8 ≡ p = omega arith in
        s.within p l below
        ∙ subst (λ q. slice_index (spliced b part with) q ≡ slice_index (spliced start part with) q) place
        (still start (spliced start part with) b with part from middle (p / 8) 0 order inside (p % 8) r (λ _. inr (omega arith)) (omega arith)
        (λ m n. ⊎_elim (λ a. inr (omega arith)) (λ a. inl (omega arith)) ahead)))
        (cases_lt p (8 * middle));
    outside = λ j o.
        ⊎_elim (λ l. s.outside j (inl (omega arith)) ∙ r.outside j (inl l)) (λ l. s.outside j (inr l) ∙ r.outside j (inr (omega arith))) o;
  }

  pub down-then : part.high ≤ part.low + length with
      → Rewrites start (spliced start part with) middle to b → Rewrites b (spliced b part with) from middle c → Rewrites start (spliced start part with) from to c
  down-then behind r s = record {
    within = λ p above below.
        ⊎_elim
        (λ l.
        let place : 8 * (p / 8) + p % 8 ≡ p = omega arith in
        s.within p above l
        ∙ subst (λ q. slice_index (spliced b part with) q ≡ slice_index (spliced start part with) q) place
        (still start (spliced start part with) b with part middle to (p / 8) 0 order inside (p % 8) r (λ _. inl (omega arith)) (omega arith) (λ m n. inl (omega arith))))
        (λ l. byte-outside b (spliced b part with) c from middle p s (inr l) ∙ r.within p l below)
        (cases_lt p (8 * middle));
    outside = λ j o.
        ⊎_elim (λ l. s.outside j (inl l) ∙ r.outside j (inl (omega arith))) (λ l. s.outside j (inr (omega arith)) ∙ r.outside j (inr l)) o;
  }
