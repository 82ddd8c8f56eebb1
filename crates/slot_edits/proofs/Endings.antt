-- All words of the new text are there.
use Rattle.std.proofs.Common.{◌≡◌, refl, sym, ap, subst, ◌∙◌, ℕ, ◌+◌, ◌-◌, ◌*◌, ◌/◌, ◌<◌, ◌≤◌, ◌⊎◌, inl, inr, ⊎_elim, Bool, List, length, take, drop, ◌++◌, slice_index, length-append, arith}
use Rattle.std.proofs.lemmas.Bool.{cases_lt}
use Rattle.std.proofs.lemmas.List.{length-take-le, length-drop}
use Rattle.std.specs.List.{splice}
use Rattle.slot_model.specs.History.{put}
use Rattle.object_words.specs.Rows.{is_ascii, native, Describes}
use Rattle.slot_edits.specs.Texts.{IsObjectOf}
use Rattle.slot_edits.specs.declared.part.Part.{Part}
use Rattle.slot_edits.specs.Parts.{spliced}
use Rattle.slot_edits.specs.Words.{content_byte, content_bytes, Rewrites}
use Rattle.slot_edits.proofs.Bytes.{length-bytes, bytes-below, byte-same, fill-bytes}
use Rattle.slot_edits.proofs.Splices.{splice-front, splice-back}
use Rattle.slot_edits.proofs.Words.{put-other, byte-outside}

-- ---- lengths
pub length-splice : (xs ws : List ℕ) (l h : ℕ) → l ≤ h → h ≤ length xs → length (splice xs l h ws) ≡ length xs - (h - l) + length ws
length-splice xs ws l h order inside =
    omega (arith, length-append (take l xs) (ws ++ drop h xs), length-append ws (drop h xs), length-take-le l xs (omega arith), length-drop h xs)

pub length-spliced : (known : List ℕ) (part : Part) (with : List ℕ) → part.low ≤ part.high → part.high ≤ part.count
    → length (spliced known part with) ≡ part.count - (part.high - part.low) + length with
length-spliced known part with order inside =
    let long = length-bytes known part.count in
    omega (arith, long, length-splice (content_bytes known part.count) with part.low part.high order (omega (arith, long, inside)))

-- ---- bytes that are the same in other words
pub bytes-same : (later bytes : List ℕ) → ((p : ℕ) → p < length bytes → content_byte later p ≡ slice_index bytes p) → content_bytes later (length bytes) ≡ bytes
bytes-same later bytes each = sym (fill-bytes later bytes (length bytes) refl (λ p h. sym (each p h)))

-- words from the old end on are no words of the old text
pub bytes-kept : (known new later : List ℕ) (from to count : ℕ) → Rewrites known new from to later → count ≤ 8 * from → content_bytes later count ≡ content_bytes known count
bytes-kept known new later from to count r past =
    fill-bytes known (content_bytes later count) count (length-bytes later count)
    (λ p h. bytes-below later count p h ∙ byte-outside known new later from to p r (inl (omega arith)))

-- ---- the words behind the old end, and then those before it
pub rewrites-join : (a new b c : List ℕ) (from middle to : ℕ) → from ≤ middle → middle ≤ to → Rewrites a new middle to b → Rewrites b new from middle c → Rewrites a new from to c
rewrites-join a new b c from middle to order order' r s = record {
  within = λ p low high.
      ⊎_elim (λ l. s.within p low l) (λ l. byte-outside b new c from middle p s (inr l) ∙ r.within p l high) (cases_lt p (8 * middle));
  outside = λ j o.
      ⊎_elim (λ l. s.outside j (inl l) ∙ r.outside j (inl (omega arith))) (λ l. s.outside j (inr (omega arith)) ∙ r.outside j (inr l)) o;
}

-- ---- the new text
module _ (known later with : List ℕ) (part : Part) (from to : ℕ) (order : part.low ≤ part.high) (inside : part.high ≤ part.count) (low : 8 * from ≤ part.low)
    (r : Rewrites known (spliced known part with) from to later) where
  pub ends : (length (spliced known part with) ≤ 8 * to) ⊎ ((part.low + length with ≡ part.high) × (part.high ≤ 8 * to))
      → content_bytes later (length (spliced known part with)) ≡ spliced known part with
  ends far =
      let old = content_bytes known part.count in
      let long : length old ≡ part.count = length-bytes known part.count in
      let fits : part.low ≤ length old = omega arith in
      bytes-same later (spliced known part with)
      (λ p h.
      ⊎_elim
      (λ l.
      byte-outside known (spliced known part with) later from to p r (inl l) ∙ sym (bytes-below known part.count p (omega arith))
      ∙ sym (splice-front old with part.low part.high fits p (omega arith)))
      (λ above.
      ⊎_elim (λ l. r.within p above l)
      (λ past.
      ⊎_elim (λ none. absurd (omega arith))
      (λ even.
      let same : part.high + (p - (part.low + length with)) ≡ p = omega (arith, even.0, even.1) in
      let below : p < part.count = omega (arith, even.0, even.1, length-spliced known part with order inside) in
      byte-outside known (spliced known part with) later from to p r (inr past) ∙ sym (bytes-below known part.count p below)
      ∙ sym (splice-back old with part.low part.high fits p (omega (arith, even.0, even.1)) ∙ ap (slice_index old) same))
      far)
      (cases_lt p (8 * to)))
      (cases_lt p (8 * from)))

-- the count word is none of the content
pub bytes-count : (known : List ℕ) (word n : ℕ) → content_bytes (put known 0 word) n ≡ content_bytes known n
bytes-count known word n =
    fill-bytes known (content_bytes (put known 0 word) n) n (length-bytes (put known 0 word) n)
    (λ p h. bytes-below (put known 0 word) n p h ∙ byte-same known (put known 0 word) p (put-other known 0 word (p / 8 + 1) (omega arith) (omega arith)))

-- ---- the two words of the value
pub object-of : (bytes : List ℕ) (ascii : Bool) (count slot slot' : ℕ) (object : ℕ × ℕ) → Describes (native ascii ascii count slot) object → ascii ≡ is_ascii bytes → count ≡ length bytes
    → slot ≡ slot' → IsObjectOf bytes slot' object
object-of bytes ascii count slot slot' object d a n s =
    subst (λ (x : ℕ). Describes (native (is_ascii bytes) (is_ascii bytes) (length bytes) x) object) s
    (subst (λ (k : ℕ). Describes (native (is_ascii bytes) (is_ascii bytes) k slot) object) n
    (subst (λ (b : Bool). Describes (native b b count slot) object) a d))
