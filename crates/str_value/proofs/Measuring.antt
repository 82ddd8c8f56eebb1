-- What is passed between two scalar boundaries of a value's storage, a run after another.
use Rattle.std.proofs.Common.{◌≡◌, ap, ◌∙◌, sym, subst, ℕ, ◌+◌, ◌-◌, ◌<◌, ◌≤◌, ⊎_elim, List, length, arith}
use Rattle.std.proofs.lemmas.Bool.{cases_lt}
use Rattle.text_spec.specs.declared.encoding.Encoding.{Encoding}
use Rattle.text_spec.specs.declared.encoding.Encoding.TheVariants.{Utf8, Utf16}
use Rattle.text_spec.specs.Offsets.{start, down}
use Rattle.text_spec.specs.Text.{utf8, utf16}
use Rattle.text_spec.proofs.Bytes.{length-utf8}
use Rattle.text_spec.proofs.Units.{length-utf16}
use Rattle.text_spec.proofs.Widths.{width_some}
use Rattle.std.specs.Char.{len_utf8}
use Rattle.str_value.proofs.Between.{down-mono}
use Rattle.str_value.proofs.Spliced.{part8}
use Rattle.text_spec.specs.Views.{width_in, other_width}
use Rattle.text_spec.proofs.Walk.{start-le, start-mono, start-zero, down-start, down-end}
use Rattle.word_units.specs.Parts.{IsBoundaryIn, storage_size, scalars_before}
use Rattle.word_units.specs.Running.{PassesRun}
use Rattle.str_value.specs.Meaning.{Meaning, storage_of, own_part, text_between}
use Rattle.str_value.proofs.Kept.{size-limit}

-- no front of a text has more code units of the other encoding than the text has bytes of UTF-8
other_few : (e : Encoding) (t : List ℕ) (k : ℕ) → start (other_width e) t k ≤ length (utf8 t)
other_few Utf8 t k = omega (arith, start-le (other_width Utf8) t k, size-limit Utf16 t)
other_few Utf16 t k = omega (arith, start-le (other_width Utf16) t k, size-limit Utf8 t)

-- a run has no more scalars than code units of the other encoding
pub run-scalars : (now : Meaning) (at most next units scalars : ℕ) → PassesRun (own_part now) at most next units scalars → scalars ≤ units
run-scalars now at most next units scalars run = ⊎_elim (λ one. let some = run.some in omega (arith, one, some)) (λ more. more.1) run.size

module _ (now : Meaning) where
  pub boundary-inside : (p : ℕ) → IsBoundaryIn (own_part now) p → p ≤ storage_size (own_part now)
  boundary-inside p at = omega (arith, at, start-le (width_in (storage_of (now.row))) (now.text) (scalars_before (own_part now) p))

  pub other-few : (k : ℕ) → start (other_width (storage_of (now.row))) (now.text) k ≤ length (utf8 (now.text))
  other-few k = other_few (storage_of (now.row)) (now.text) k

  -- a run that begins before a boundary ends no later
  pub run-ends : (at high next units scalars : ℕ) → IsBoundaryIn (own_part now) at → IsBoundaryIn (own_part now) high → at < high
      → PassesRun (own_part now) at (high - at) next units scalars → next ≤ high
  run-ends at high next units scalars from to before run =
      let w = width_in (storage_of (now.row)) in
      let t = now.text in
      let ahead : down w t at < down w t high =
      ⊎_elim (λ l. l) (λ back. absurd (omega (arith, start-mono w t (down w t high) (down w t at) back, from, to, before))) (cases_lt (down w t at) (down w t high)) in
      let number = run.number in
      let ends = run.boundary in
      ⊎_elim (λ one. omega (arith, ends, to, start-mono w t (down w t next) (down w t high) (omega (arith, number, one, ahead)))) (λ more. omega (arith, more.3, before)) run.size

-- all of a text passed: its lengths in UTF-8 storage, and in UTF-16 storage
module _ (e : Encoding) (t : List ℕ) (count other scalars : ℕ) (counted : count ≡ start (width_in e) t (length t))
    (others : start (other_width e) t (down (width_in e) t 0) + other ≡ start (other_width e) t (down (width_in e) t count))
    (passed : down (width_in e) t 0 + scalars ≡ down (width_in e) t count) where
  none : down (width_in e) t 0 ≡ 0
  none = ap (down (width_in e) t) (sym (start-zero (width_in e) t)) ∙ down-start (width_in e) (width_some e) t 0 (omega arith)

  all : down (width_in e) t count ≡ length t
  all = down-end (width_in e) t count (omega (arith, counted))

  pub all-scalars : scalars ≡ length t
  all-scalars = omega (arith, none, all, passed)

  all_other : other ≡ start (other_width e) t (length t)
  all_other = omega (arith, others, ap (start (other_width e) t) none, ap (start (other_width e) t) all, start-zero (other_width e) t)

  pub all-units8 : e ≡ Utf8 → other ≡ length (utf16 t)
  all-units8 is = all_other ∙ ap (λ f. start (other_width f) t (length t)) is ∙ sym (length-utf16 t)

  pub all-bytes8 : e ≡ Utf8 → count ≡ length (utf8 t)
  all-bytes8 is = counted ∙ ap (λ f. start (width_in f) t (length t)) is ∙ sym (length-utf8 t)

  pub all-units16 : e ≡ Utf16 → count ≡ length (utf16 t)
  all-units16 is = counted ∙ ap (λ f. start (width_in f) t (length t)) is ∙ sym (length-utf16 t)

  pub all-bytes16 : e ≡ Utf16 → other ≡ length (utf8 t)
  all-bytes16 is = all_other ∙ ap (λ f. start (other_width f) t (length t)) is ∙ sym (length-utf8 t)

-- the bytes of a part of UTF-16 storage
pub other-part16 : (now : Meaning) (low high n : ℕ) → storage_of (now.row) ≡ Utf16 → low ≤ high
    → start (other_width (storage_of (now.row))) (now.text) (scalars_before (own_part now) low) + n
    ≡ start (other_width (storage_of (now.row))) (now.text) (scalars_before (own_part now) high) → n ≡ length (utf8 (text_between now low high))
other-part16 now low high n is order others =
    let i = scalars_before (own_part now) low in
    let j = scalars_before (own_part now) high in
    let bytes : start len_utf8 (now.text) i + n ≡ start len_utf8 (now.text) j = subst (λ f. start (other_width f) (now.text) i + n ≡ start (other_width f) (now.text) j) is others in
    omega (arith, bytes, part8 (now.text) i j (down-mono (width_in (storage_of (now.row))) (now.text) low high order))
