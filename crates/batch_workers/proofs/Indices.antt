-- The index of a scalar boundary, and the scalar that an edit finds there.
use Rattle.std.proofs.Common.{◌≡◌, sym, ap, ◌∙◌, ℕ, ◌≤◌, ◌&&◌, not, true, false, length, Some, if◌then◌else◌, arith}
use Rattle.std.specs.Option.{option_map}
use Rattle.text_spec.specs.declared.encoding.Encoding.{Encoding}
use Rattle.text_spec.specs.declared.encoding.Encoding.TheVariants.{Utf8, Utf16}
use Rattle.text_spec.specs.Offsets.{down}
use Rattle.text_spec.specs.Rounding.{Place}
use Rattle.text_spec.specs.Views.{width_in}
use Rattle.index_words.specs.declared.layout.TheConstants.{UTF8_BIT, UTF16_BIT}
use Rattle.index_words.specs.Fields.{position_of, is_set, is_utf8, is_utf16, plain, word_of}
use Rattle.rounding.specs.Resolving.{Bounds, reads_other, own_place, other_place, index_place}
use Rattle.rounding.proofs.Places.{marked_place, own_in, resolved_index}
use Rattle.str_value.specs.Meaning.{Meaning, storage_of, own_part}
use Rattle.rounding.specs.Refusals.{scalar_of}
use Rattle.word_units.specs.Parts.{all_of}

-- the index of a boundary, marked for an encoding and as a scalar's
abbrev pub boundary_index : Encoding → ℕ → ℕ
boundary_index e at = word_of (record (plain at 0 e) { scalar_aligned = true })

own-read : (e : Encoding) (index : ℕ) → is_set index UTF8_BIT ≡ is_utf8 e → is_set index UTF16_BIT ≡ is_utf16 e → reads_other e index ≡ false
own-read Utf8 index marked8 marked16 = ap (λ b. b && not (is_set index UTF8_BIT)) marked16
own-read Utf16 index marked8 marked16 = ap (λ b. b && not (is_set index UTF16_BIT)) marked8

pub number-at : (kind e : Encoding) (now : Meaning) (low high at index : ℕ) → e ≡ storage_of (now.row) → Bounds (all_of e (now.text)) low high → low ≤ at → at ≤ high
    → kind ≡ e → index ≡ boundary_index kind at → scalar_of (own_part now) index ≡ Some (down (width_in e) (now.text) at)
number-at kind e now low high at index of bounds above below same made =
    let t = now.text in
    let number : Place → ℕ = λ place. down (width_in e) t (place.0) in
    let met = resolved_index kind e t 0 (length t) low high at 0 index true bounds above below (omega arith) same made in
    let place : ◌≡◌ {A = Place} (index_place index) (at, 0) = ap index_place (made ∙ ap (λ k. boundary_index k at) same) ∙ marked_place e at 0 true (omega arith) in
    let position : position_of index ≡ at = ap (λ p. p.0) place in
    ap (λ f. option_map (λ place. down (width_in f) t (place.0)) (if reads_other f index then other_place (all_of f t) (position_of index) else own_place (all_of f t) index)) (sym of)
    ∙ ap (λ b. option_map number (if b then other_place (all_of e t) (position_of index) else own_place (all_of e t) index)) (own-read e index met.marked8 met.marked16)
    ∙ ap (option_map number) (own_in e t 0 (length t) low high index bounds (omega (arith, position, above)) (omega (arith, position, below)))
    ∙ ap (λ p. Some (number p)) place
