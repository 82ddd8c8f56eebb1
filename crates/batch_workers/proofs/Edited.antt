-- What an edit of a value answers, as the answer of an op.
use Rattle.std.proofs.Common.{◌≡◌, refl, sym, ap, subst, ◌∙◌, ℕ, ◌<◌, ◌≤◌, nat_lt, if◌then◌else◌, ◌⊎◌, inl, inr, ⊎_elim, List, length, chars, IsUtf8, IsOk, Some, Ok, Err, arith}
use Rattle.std.proofs.lemmas.Bool.{cases_lt, cond-true, cond-false, lt-ltb, le-ltb}
use Rattle.text_spec.specs.Offsets.{down}
use Rattle.text_spec.specs.Text.{utf8}
use Rattle.text_spec.specs.Views.{width_in, size_in}
use Rattle.text_spec.specs.declared.encoding.Encoding.{Encoding}
use Rattle.text_spec.proofs.Walk.{start-zero}
use Rattle.rounding.specs.Resolving.{Bounds}
use Rattle.query_lines.specs.declared.reply.OpReply.TheVariants as answer
use Rattle.str_value.specs.Meaning.{Meaning, storage_of, own_part, spliced}
use Rattle.edit_cow.specs.declared.error.EditError.{EditError}
use Rattle.edit_cow.specs.declared.error.EditError.TheVariants as refusal
use Rattle.rounding.specs.Refusals.{scalar_of}
use Rattle.word_units.specs.Parts.{all_of}
use Rattle.edit_cow.specs.Edits as cow
use Rattle.edit_cow.proofs.Outcomes.{ordered, valid, limit-text}
use Rattle.batch_workers.specs.Ops.{within_limit}
use Rattle.batch_workers.proofs.Indices.{boundary_index, number-at}

-- between two boundaries in order, with bytes that are UTF-8
pub rewritten-is : (now : Meaning) (a b : ℕ) (with : List ℕ) (low high : ℕ) → let number : ℕ → ℕ = λ p. down (width_in (storage_of (now.row))) (now.text) p in
    scalar_of (own_part now) a ≡ Some (number low) → scalar_of (own_part now) b ≡ Some (number high) → low ≤ high → IsUtf8 with
    → cow.edited now a b with ≡ cow.within_limit (spliced now low high (chars with))
rewritten-is now a b with low high first second order ok =
    let number : ℕ → ℕ = λ p. down (width_in (storage_of (now.row))) (now.text) p in
    ordered now a b with low high first second order ∙ valid (now.text) with with (number low) (number high) refl ok

-- the same by the indices of the two boundaries
pub edited-is : (kind : Encoding) (now : Meaning) (first last low high from to : ℕ) (with : List ℕ) → let e = storage_of (now.row) in
    Bounds (all_of e (now.text)) first last → kind ≡ e → from ≡ boundary_index kind low → to ≡ boundary_index kind high → low ≤ high → high ≤ size_in e (now.text)
    → IsUtf8 with → cow.edited now from to with ≡ cow.within_limit (spliced now low high (chars with))
edited-is kind now first last low high from to with bounds same from-is to-is order inside ok =
    let e = storage_of (now.row) in
    let t = now.text in
    let begins : first ≡ 0 = bounds.low_is ∙ start-zero (width_in e) t in
    rewritten-is now from to with low high
    (number-at kind e now first last low from refl bounds (omega (arith, begins)) (omega (arith, order, inside, bounds.high_is)) same from-is)
    (number-at kind e now first last high to refl bounds (omega (arith, begins)) (omega (arith, inside, bounds.high_is)) same to-is)
    order ok

-- no other refusal comes of a text that is made
pub made-only : (t : List ℕ) (e : EditError) → cow.within_limit t ≡ Err e → (n : ℕ) × (e ≡ refusal.TooLong n)
made-only t e is =
    ⊎_elim
    (λ (l : 16777216 < length (utf8 t)). (length (utf8 t), let long : cow.within_limit t ≡ Err (refusal.TooLong (length (utf8 t))) = ap (λ b. if b then Err (refusal.TooLong (length (utf8 t))) else Ok t) (lt-ltb 16777216 (length (utf8 t)) l) in cc))
    (λ (l : length (utf8 t) ≤ 16777216). absurd (let short : cow.within_limit t ≡ Ok t = ap (λ b. if b then Err (refusal.TooLong (length (utf8 t))) else Ok t) (le-ltb 16777216 (length (utf8 t)) l) in cc))
    (cases_lt 16777216 (length (utf8 t)))

-- what an edit that was refused was refused for
pub refused-for : (now : Meaning) (from to : ℕ) (with t : List ℕ) (e : EditError) → cow.edited now from to with ≡ cow.within_limit t
    → (e ≡ refusal.OutOfMemory) ⊎ (cow.edited now from to with ≡ Err e) → (e ≡ refusal.OutOfMemory) ⊎ ((n : ℕ) × (e ≡ refusal.TooLong n))
refused-for now from to with t e is refused = ⊎_elim (λ m. inl m) (λ cause. inr (made-only t e (sym is ∙ cause))) refused

-- a text within the limit, by the value's rule and by the op's
pub made-ok : (t made : List ℕ) → cow.within_limit t ≡ Ok made → within_limit t ≡ Ok made
made-ok t made is =
    ⊎_elim
    (λ (l : 16777216 < length (utf8 t)). absurd (let long : cow.within_limit t ≡ Err (refusal.TooLong (length (utf8 t))) = ap (λ b. if b then Err (refusal.TooLong (length (utf8 t))) else Ok t) (lt-ltb 16777216 (length (utf8 t)) l) in cc))
    (λ (l : length (utf8 t) ≤ 16777216).
    cond-false (nat_lt 16777216 (length (utf8 t))) (Err answer.TooLong) (Ok t) (le-ltb 16777216 (length (utf8 t)) l) ∙ ap Ok (sym (limit-text t made is)))
    (cases_lt 16777216 (length (utf8 t)))

pub made-long : (t : List ℕ) (n : ℕ) → cow.within_limit t ≡ Err (refusal.TooLong n) → within_limit t ≡ Err answer.TooLong
made-long t n is =
    ⊎_elim
    (λ (l : 16777216 < length (utf8 t)). cond-true (nat_lt 16777216 (length (utf8 t))) (Err answer.TooLong) (Ok t) (lt-ltb 16777216 (length (utf8 t)) l))
    (λ (l : length (utf8 t) ≤ 16777216). absurd (let short : cow.within_limit t ≡ Ok t = ap (λ b. if b then Err (refusal.TooLong (length (utf8 t))) else Ok t) (le-ltb 16777216 (length (utf8 t)) l) in cc))
    (cases_lt 16777216 (length (utf8 t)))

-- where memory is wanting the text isn't too long
pub made-if-wanting : (t : List ℕ) → ((e : EditError) → cow.within_limit t ≡ Err e → e ≡ refusal.OutOfMemory) → IsOk (within_limit t)
made-if-wanting t free =
    ⊎_elim
    (λ (l : 16777216 < length (utf8 t)). absurd (
    let long : cow.within_limit t ≡ Err (refusal.TooLong (length (utf8 t))) = ap (λ b. if b then Err (refusal.TooLong (length (utf8 t))) else Ok t) (lt-ltb 16777216 (length (utf8 t)) l) in
    let clash : refusal.TooLong (length (utf8 t)) ≡ refusal.OutOfMemory = free (refusal.TooLong (length (utf8 t))) long in cc))
    (λ (l : length (utf8 t) ≤ 16777216).
    subst IsOk (sym (cond-false (nat_lt 16777216 (length (utf8 t))) (Err answer.TooLong) (Ok t) (le-ltb 16777216 (length (utf8 t)) l))) refl)
    (cases_lt 16777216 (length (utf8 t)))
