-- What a walk from a breadcrumb finds, in the words of the view.
use Rattle.std.proofs.Common.{◌≡◌, sym, ap, subst, ◌∙◌, ℕ, ◌-◌, ◌≤◌, false, List, length, take, drop, Some, arith, if◌then◌else◌}
use Rattle.std.proofs.Math.Seq.{take-length}
use Rattle.std.specs.Char.{len_utf8}
use Rattle.std.specs.Option.{option_map}
use Rattle.text_spec.specs.declared.encoding.Encoding.{Encoding}
use Rattle.text_spec.specs.declared.encoding.Encoding.TheVariants.{Utf8, Utf16}
use Rattle.index_words.specs.Crumbs.{size16, index16}
use Rattle.text_spec.specs.Offsets.{len_utf16}
use Rattle.text_spec.specs.Rounding.{Place, other_floor, other_offset}
use Rattle.text_spec.specs.Text.{utf16}
use Rattle.text_spec.specs.Views.{size_in, part}
use Rattle.text_spec.proofs.Units.{length-utf16}
use Rattle.text_spec.proofs.Walk.{start-zero}
use Rattle.index_words.specs.Fields.{position_of}
use Rattle.word_units.specs.Parts.{part_of, all_of}
use Rattle.rounding.specs.Resolving.{Bounds, reads_other, index_place, own_place, other_place}
use Rattle.rounding.proofs.Places.{own_in}
use Rattle.crumbs.proofs.Indexed.{index_is}
use Rattle.unit_views.specs.declared.kind.ElementKind.TheVariants.{Units}
use Rattle.unit_views.specs.Elements.{element_index, element_offset, offset_of, floor_of}

-- a text that is all of its storage has all units
pub count_is : (whole : List ℕ) (first end : ℕ) → first ≡ 0 → end ≡ length whole → length (utf16 (part whole first end)) ≡ size16 whole
count_is whole first end begins ends =
    let none : length whole - 0 ≡ length whole = omega arith in
    ap (λ f. length (utf16 (take (end - f) (drop f whole)))) begins
    ∙ ap (λ e. length (utf16 (take (e - 0) whole))) ends
    ∙ ap (λ n. length (utf16 (take n whole))) none
    ∙ ap (λ t. length (utf16 t)) (take-length whole)
    ∙ length-utf16 whole

pub index_found : (e : Encoding) (whole : List ℕ) (first end offset i : ℕ) → e ≡ Utf8 → first ≡ 0 → i ≡ index16 whole offset → i ≡ element_index (Units Utf16) (part_of e whole first end) offset
index_found e whole first end offset i utf8 begins is =
    is ∙ index_is whole offset
    ∙ ap (λ f. element_index (Units Utf16) (part_of Utf8 whole f end) offset) (sym begins)
    ∙ ap (λ x. element_index (Units Utf16) (part_of x whole first end) offset) (sym utf8)

offset_found8 : (whole : List ℕ) (low high i offset : ℕ) → Bounds (part_of Utf8 whole 0 (length whole)) low high → reads_other Utf8 i ≡ false → position_of i ≤ high
    → offset ≡ other_offset len_utf8 len_utf16 whole 0 (other_floor len_utf8 len_utf16 whole (size_in Utf8 whole) (index_place i))
    → element_offset (Units Utf16) (part_of Utf8 whole 0 (length whole)) i ≡ Some offset
offset_found8 whole low high i offset bounds own below is =
    ap (λ b. option_map found (if b then other_place (part_of Utf8 whole 0 (length whole)) (position_of i) else own_place (part_of Utf8 whole 0 (length whole)) i)) own
    ∙ ap (option_map found) (own_in Utf8 whole 0 (length whole) low high i bounds (omega (arith, bounds.low_is, start-zero len_utf8 whole)) below)
    ∙ ap Some (sym is)
  where
    found : Place → ℕ
    found place = offset_of (Units Utf16) (all_of Utf8 whole) (floor_of (Units Utf16) (all_of Utf8 whole) place)

pub offset_found : (e : Encoding) (whole : List ℕ) (first end low high i offset : ℕ) → Bounds (part_of e whole first end) low high → e ≡ Utf8 → first ≡ 0 → end ≡ length whole
    → reads_other Utf8 i ≡ false → position_of i ≤ high
    → offset ≡ other_offset len_utf8 len_utf16 whole 0 (other_floor len_utf8 len_utf16 whole (size_in Utf8 whole) (index_place i))
    → element_offset (Units Utf16) (part_of e whole first end) i ≡ Some offset
offset_found e whole first end low high i offset bounds utf8 begins ends own below is =
    ap (λ x. element_offset (Units Utf16) (part_of x whole first end) i) utf8
    ∙ ap (λ f. element_offset (Units Utf16) (part_of Utf8 whole f end) i) begins
    ∙ ap (λ n. element_offset (Units Utf16) (part_of Utf8 whole 0 n) i) ends
    ∙ offset_found8 whole low high i offset
    (subst (λ n. Bounds (part_of Utf8 whole 0 n) low high) ends (subst (λ f. Bounds (part_of Utf8 whole f end) low high) begins (subst (λ x. Bounds (part_of x whole first end) low high) utf8 bounds)))
    own below is
